-- Where more is stored, what was stored stays.
use Rattle.std.proofs.Common.{◌≡◌, ◌≢◌, ◌∙◌, sym, ap, refl, subst, ◌≤◌, ℕ, suc, ◌+◌, ◌-◌, List, [], ◌∷◌, ◌++◌, append_assoc, length, map, take, drop, get_or, All, Some, unwrap_or, arith, slice_get, length-append, length-drop, length-take}
use Rattle.std.specs.Prelude.{AllPairs}
use Rattle.std.specs.List.{slice_range, flat_map}
use Rattle.std.proofs.lemmas.List.{append-nil, drop-append-le, take-append-le, get_or_append_left}
use Rattle.std.proofs.lemmas.List.Elements.{All-head, All-tail, All-take, All-drop}
use Rattle.qasm_lex.specs.declared.symbol.Symbol.{Symbol}
use Rattle.qasm_lex.specs.Expressions.{Tree, pi}
use Rattle.qasm_lex.specs.Private.Descent.{tree_in}
use Rattle.qasm_lex.proofs.Whole.{tree_is}
use Rattle.qasm_gates.specs.declared.codes.Code.TheVariants.{End}
use Rattle.qasm_gates.specs.declared.table.Callee.{Callee}
use Rattle.qasm_gates.specs.declared.table.Callee.TheVariants.{Builtin as BuiltIn, Defined}
use Rattle.qasm_gates.specs.declared.table.Angle.{Angle}
use Rattle.qasm_gates.specs.declared.table.Line.{Line}
use Rattle.qasm_gates.specs.declared.table.Row.{Row}
use Rattle.qasm_gates.specs.Gates.{Named}
use Rattle.qasm_gates.specs.Bodies.{Call, defined}
use Rattle.qasm_gates.specs.Private.Codes.{code_in, numbers_in, unpacked}
use Rattle.qasm_gates.specs.Private.Tables.{Store, no_row, callee_arity, callee_angles, symbols_at, tree_at, on_at, angles_at, gate_of, line_at, lines_of, row_gate, gates_from, IsCallee, IsStored, IsLine, AreBelow, IsRow}
use Rattle.qasm_gates.proofs.Packing.{symbols_back}

-- a list with more behind it
pub record Prefix {X : Type 0} (xs ys : List X) : Type 0 where
  pub more : List X
  pub is : ys ≡ xs ++ more

pub same_prefix : {X : Type 0} (xs : List X) → Prefix xs xs
same_prefix xs = record { more = []; is = sym (append-nil xs) }

pub prefix_length : {X : Type 0} (xs ys : List X) → Prefix xs ys → length xs ≤ length ys
prefix_length xs ys p = let e : length ys ≡ length xs + length p.more = ap length p.is ∙ length-append xs p.more in omega arith

pub slice_kept : {X : Type 0} (xs ys : List X) → Prefix xs ys → (a b : ℕ) → a ≤ b → b ≤ length xs → slice_range ys a b ≡ slice_range xs a b
slice_kept xs ys p a b h k =
    ap (λ zs. slice_range zs a b) p.is ∙ ap (take (b - a)) (drop-append-le a xs p.more (omega arith))
    ∙ take-append-le (b - a) (drop a xs) p.more (omega (arith, length-drop a xs))

pub range_length : {X : Type 0} (xs : List X) (a b : ℕ) → b ≤ length xs → length (slice_range xs a b) ≡ b - a
range_length xs a b h = omega (arith, length-take (b - a) (drop a xs), length-drop a xs)

pub drop_kept : {X : Type 0} (xs ys : List X) (p : Prefix xs ys) (n : ℕ) → n ≤ length xs → drop n ys ≡ drop n xs ++ p.more
drop_kept xs ys p n h = ap (drop n) p.is ∙ drop-append-le n xs p.more h

-- more is stored, behind what was
pub record Grown (s t : Store) : Type 0 where
  pub rows : Prefix s.rows t.rows
  pub lines : Prefix s.lines t.lines
  pub on : Prefix s.on t.on
  pub angles : Prefix s.angles t.angles
  pub codes : Prefix s.codes t.codes
  pub numbers : Prefix s.numbers t.numbers

pub stored_symbols : (s : Store) (a : Angle) (h : IsStored s a) → symbols_at s a ≡ h.symbols
stored_symbols s a h =
    ap (λ c. unpacked c (drop a.number s.numbers)) h.coded ∙ ap (unpacked (map code_in h.symbols ++ (End ∷ h.codes))) h.numbered ∙ symbols_back h.symbols h.codes h.numbers

-- an angle that is stored has its tree
pub stored_tree : (s : Store) (a : Angle) (h : IsStored s a) → tree_at s a ≡ h.tree
stored_tree s a h =
    ap (λ x. unwrap_or (tree_in x) pi) (stored_symbols s a h) ∙ ap (λ x. unwrap_or x pi) (tree_is h.symbols h.tree h.expression.formed h.expression.spelled)

pub stored_short : (s : Store) (a : Angle) → IsStored s a → length (symbols_at s a) ≤ 64
stored_short s a h = subst (λ (x : List Symbol). length x ≤ 64) (sym (stored_symbols s a h)) h.short

module _ (s t : Store) (g : Grown s t) where
  pub stored_kept : (a : Angle) → IsStored s a → IsStored t a
  stored_kept a h = record {
    symbols = h.symbols;
    codes = h.codes ++ g.codes.more;
    numbers = h.numbers ++ g.numbers.more;
    tree = h.tree;
    code_within = let l = prefix_length s.codes t.codes g.codes in let w = h.code_within in omega arith;
    number_within = let l = prefix_length s.numbers t.numbers g.numbers in let w = h.number_within in omega arith;
    coded = drop_kept s.codes t.codes g.codes a.code h.code_within ∙ ap (λ c. c ++ g.codes.more) h.coded ∙ append_assoc (map code_in h.symbols) (End ∷ h.codes) g.codes.more;
    numbered = drop_kept s.numbers t.numbers g.numbers a.number h.number_within ∙ ap (λ c. c ++ g.numbers.more) h.numbered ∙ append_assoc (flat_map numbers_in h.symbols) h.numbers g.numbers.more;
    short = h.short;
    expression = h.expression;
  }

  tree_kept : (a : Angle) → IsStored s a → tree_at t a ≡ tree_at s a
  unfolding stored_kept
  tree_kept a h = stored_tree t a (stored_kept a h) ∙ sym (stored_tree s a h)

  pub trees_kept : (places : List Angle) → All (IsStored s) places → map (tree_at t) places ≡ map (tree_at s) places
  trees_kept [] h = refl
  trees_kept (a ∷ more) h =
      ap (λ x. x ∷ map (tree_at t) more) (tree_kept a (All-head (IsStored s) a more h)) ∙ ap (λ xs. tree_at s a ∷ xs) (trees_kept more (All-tail (IsStored s) a more h))

  module _ (n : ℕ) (few : n ≤ length s.rows) where
    pub arity_kept : (c : Callee) → IsCallee n c → callee_arity t.rows c ≡ callee_arity s.rows c
    arity_kept (BuiltIn b) h = refl
    arity_kept (Defined i) h = ap (λ (r : Row). r.arity) (ap (λ rs. get_or rs i no_row) g.rows.is ∙ get_or_append_left s.rows g.rows.more no_row i (omega arith))

    pub angles_kept : (c : Callee) → IsCallee n c → callee_angles t.rows c ≡ callee_angles s.rows c
    angles_kept (BuiltIn b) h = refl
    angles_kept (Defined i) h = ap (λ (r : Row). r.params) (ap (λ rs. get_or rs i no_row) g.rows.is ∙ get_or_append_left s.rows g.rows.more no_row i (omega arith))

    pub on_kept : (l : Line) → IsLine s n l → on_at t l ≡ on_at s l
    on_kept l h =
        ap (λ k. slice_range t.on l.on (l.on + k)) (arity_kept l.callee h.callee)
        ∙ slice_kept s.on t.on g.on l.on (l.on + callee_arity s.rows l.callee) (omega arith) h.on_within

    pub places_kept : (l : Line) → IsLine s n l → angles_at t l ≡ angles_at s l
    places_kept l h =
        ap (λ k. slice_range t.angles l.angles (l.angles + k)) (angles_kept l.callee h.callee)
        ∙ slice_kept s.angles t.angles g.angles l.angles (l.angles + callee_angles s.rows l.callee) (omega arith) h.angles_within

    pub line_kept : (l : Line) → IsLine s n l → IsLine t n l
    line_kept l h = record {
      callee = h.callee;
      on_within = let e = arity_kept l.callee h.callee in let p = prefix_length s.on t.on g.on in let w = h.on_within in omega arith;
      angles_within = let e = angles_kept l.callee h.callee in let p = prefix_length s.angles t.angles g.angles in let w = h.angles_within in omega arith;
      different = subst (AllPairs (λ p q. p ≢ q)) (sym (on_kept l h)) h.different;
    }

    module _ (stored : All (IsStored s) s.angles) where
      pub call_kept : (gates : List Named) (l : Line) → IsLine s n l → line_at t gates l ≡ line_at s gates l
      call_kept gates l h =
          let call = λ (trees : List Tree) (on : List ℕ). (let c : Call = record { called = gate_of gates l.callee; angles = trees; on = on } in c) in
          ap (λ places. call (map (tree_at t) places) (on_at t l)) (places_kept l h)
          ∙ ap (λ trees. call trees (on_at t l)) (trees_kept (angles_at s l) (All-take (IsStored s) _ (drop l.angles s.angles) (All-drop (IsStored s) l.angles s.angles stored)))
          ∙ ap (call (map (tree_at s) (angles_at s l))) (on_kept l h)

      pub calls_kept : (gates : List Named) (ls : List Line) → All (IsLine s n) ls → map (line_at t gates) ls ≡ map (line_at s gates) ls
      calls_kept gates [] h = refl
      calls_kept gates (l ∷ ls) h =
          ap (λ x. x ∷ map (line_at t gates) ls) (call_kept gates l (All-head (IsLine s n) l ls h)) ∙ ap (λ xs. line_at s gates l ∷ xs) (calls_kept gates ls (All-tail (IsLine s n) l ls h))

      lines_kept : (r : Row) → IsRow s n r → lines_of t r ≡ lines_of s r
      lines_kept r h = slice_kept s.lines t.lines g.lines r.from r.to h.forward h.within

      pub row_kept : (r : Row) → IsRow s n r → IsRow t n r
      row_kept r h = record {
        forward = h.forward;
        within = let p = prefix_length s.lines t.lines g.lines in let w = h.within in omega arith;
        lines = subst (All (IsLine t n)) (sym (lines_kept r h)) (λ k d b. line_kept (get_or (lines_of s r) k d) (h.lines k d b));
        below = subst (All (λ l. AreBelow r.arity (on_at t l))) (sym (lines_kept r h))
            (λ k d b. subst (AreBelow r.arity) (sym (on_kept (get_or (lines_of s r) k d) (h.lines k d b))) (h.below k d b));
      }

      pub row_gate_kept : (gates : List Named) (r : Row) → IsRow s n r → row_gate t gates r ≡ row_gate s gates r
      row_gate_kept gates r h =
          ap (λ ls. defined r.params r.arity (map (line_at t gates) ls)) (lines_kept r h) ∙ ap (defined r.params r.arity) (calls_kept gates (lines_of s r) h.lines)

  -- the gates of rows that stand one after the other from this number on
  pub from_kept : All (IsStored s) s.angles → (gates : List Named) (rows : List Row) (m : ℕ) → m + length rows ≤ length s.rows → ((k : ℕ) (r : Row) → slice_get rows k ≡ Some r → IsRow s (m + k) r)
      → gates_from t gates rows ≡ gates_from s gates rows
  from_kept stored gates [] m few h = refl
  from_kept stored gates (r ∷ rows) m few h =
      ap (λ x. gates_from t (gates ++ x ∷ []) rows) (row_gate_kept (m + 0) (omega arith) stored gates r (h 0 r refl))
      ∙ from_kept stored (gates ++ row_gate s gates r ∷ []) rows (m + 1) (omega arith) (λ k q e. subst (λ i. IsRow s i q) (omega arith) (h (suc k) q e))

pub from_more : (s : Store) (gates : List Named) (rows : List Row) (r : Row) → gates_from s gates (rows ++ r ∷ []) ≡ gates_from s gates rows ++ row_gate s (gates_from s gates rows) r ∷ []
from_more s gates [] r = refl
from_more s gates (q ∷ rows) r = from_more s (gates ++ row_gate s gates q ∷ []) rows r
