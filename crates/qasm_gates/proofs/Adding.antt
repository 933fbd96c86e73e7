-- A table with more in it: arguments, angles, lines, and a gate that is defined.
use Rattle.std.proofs.Common.{◌≡◌, ◌≢◌, ◌∙◌, sym, ap, refl, subst, ◌≤◌, ℕ, zero, suc, ◌+◌, ◌-◌, min, max, List, [], ◌∷◌, ◌++◌, append_assoc, length, map, drop, get_or, All, Some, ◌⊎◌, inl, inr, arith, slice_get, length-drop}
use Rattle.std.specs.Prelude.{AllPairs, Vec, ℤ}
use Rattle.std.specs.Global.{Global}
use Rattle.std.specs.List.{flat_map, slice_range, sum_by}
use Rattle.std.proofs.lemmas.List.Sums.{sum-map, sum_by-append}
use Rattle.std.proofs.lemmas.List.{append-nil, map-append, length-map, take_all, take_rest, drop_all, get_or_append_left}
use Rattle.std.proofs.lemmas.List.Elements.{All-nil, All-cons, All-head, All-tail, All-push, All-drop}
use Rattle.std.proofs.lemmas.Option.{slice_get_within, same_Some}
use Rattle.std.proofs.Math.Seq.{drop-append_seam, get_or-append_seam}
use Rattle.qasm_lex.specs.declared.symbol.Symbol.{Symbol}
use Rattle.qasm_lex.specs.Expressions.{Tree}
use Rattle.qasm_lex.specs.Angles.{IsExpression}
use Rattle.qasm_gates.specs.declared.codes.Code.{Code}
use Rattle.qasm_gates.specs.declared.codes.Code.TheVariants.{End}
use Rattle.qasm_gates.specs.declared.table.Callee.{Callee}
use Rattle.qasm_gates.specs.declared.table.Angle.{Angle}
use Rattle.qasm_gates.specs.declared.table.Line.{Line}
use Rattle.qasm_gates.specs.declared.table.Row.{Row}
use Rattle.qasm_gates.specs.declared.table.Table.{Table}
use Rattle.qasm_gates.specs.Gates.{Named}
use Rattle.qasm_gates.specs.Bodies.{Call, greatest, defined}
use Rattle.qasm_gates.specs.Private.Codes.{code_in, numbers_in}
use Rattle.qasm_gates.specs.Private.Tables.{Store, store_of, nothing, callee_arity, callee_angles, tree_at, on_at, angles_at, gate_of, line_at, lines_of, row_gate, gates_from, gates_of, IsCallee, IsStored, IsLine, AreBelow, IsRow, many_items, depth_in, items_in, IsCounted, RowCounted, IsStore, Shown, open_lines, shown, IsTable, Becomes}
use Rattle.qasm_gates.proofs.Grown.{Prefix, same_prefix, prefix_length, drop_kept, Grown, stored_tree, stored_kept, trees_kept, line_kept, call_kept, calls_kept, row_kept, row_gate_kept, from_kept, from_more}
use Rattle.qasm_gates.proofs.Rows.{gates_length}

abbrev show : List Named → List Call → List Tree → List ℕ → Shown
show gates body angles on = record { gates = gates; body = body; angles = angles; on = on }

all_parts : (gs hs : List Named) (bs cs : List Call) (xs ys : List Tree) (ms ns : List ℕ) → gs ≡ hs → bs ≡ cs → xs ≡ ys → ms ≡ ns → show gs bs xs ms ≡ show hs cs ys ns
all_parts gs hs bs cs xs ys ms ns g b x m = ap (λ gs. show gs bs xs ms) g ∙ ap (λ bs. show hs bs xs ms) b ∙ ap (λ xs. show hs cs xs ms) x ∙ ap (show hs cs ys) m

row_below : (s : Store) (i : ℕ) (r : Row) → slice_get s.rows i ≡ Some r → i ≤ length s.rows
row_below s i r e = let l = slice_get_within s.rows i r e in omega arith

-- no row more
gates_kept : (s v : Store) (g : Grown s v) → IsStore s → v.rows ≡ s.rows → gates_of v ≡ gates_of s
unfolding gates_of
gates_kept s v g h e =
    ap (gates_from v []) e ∙ from_kept s v g h.angles [] s.rows 0 (omega arith) (λ k r q. subst (λ i. IsRow s i r) (let n : k ≡ 0 + k = omega arith in n) (h.rows k r q))

store_kept : (s v : Store) (g : Grown s v) → IsStore s → v.rows ≡ s.rows → All (IsStored v) v.angles → IsStore v
store_kept s v g h e stored = record {
  rows = λ i r q. let p : slice_get s.rows i ≡ Some r = sym (ap (λ rs. slice_get rs i) e) ∙ q in row_kept s v g i (row_below s i r p) h.angles r (h.rows i r p);
  counts = λ i r q. subst (λ gs. RowCounted (get_or gs i nothing) r) (sym (gates_kept s v g h e)) (h.counts i r (sym (ap (λ rs. slice_get rs i) e) ∙ q));
  angles = stored;
}

all_stored : (s v : Store) (g : Grown s v) → All (IsStored s) s.angles → All (IsStored v) s.angles
all_stored s v g h k d b = stored_kept s v g (get_or s.angles k d) (h k d b)

-- one row more
more_gates : (s v : Store) (g : Grown s v) → IsStore s → (r : Row) → v.rows ≡ s.rows ++ r ∷ [] → gates_of v ≡ gates_of s ++ row_gate v (gates_of s) r ∷ []
unfolding gates_of
more_gates s v g h r e =
    ap (gates_from v []) e ∙ from_more v [] s.rows r
    ∙ ap (λ gs. gs ++ row_gate v gs r ∷ []) (from_kept s v g h.angles [] s.rows 0 (omega arith) (λ k r q. subst (λ i. IsRow s i r) (let n : k ≡ 0 + k = omega arith in n) (h.rows k r q)))

at_last : (xs : List Row) (r : Row) (i : ℕ) (q : Row) → slice_get (xs ++ r ∷ []) i ≡ Some q → (slice_get xs i ≡ Some q) ⊎ ((i ≡ length xs) × (q ≡ r))
at_last [] r zero q e = inr (refl, sym (same_Some r q e))
at_last [] r (suc i) q e = absurd cc
at_last (x ∷ xs) r zero q e = inl e
at_last (x ∷ xs) r (suc i) q e = elim (at_last xs r i q e) [ inl p ↦ inl p | inr p ↦ inr (ap suc p.0, p.1) ]

row_cases : (xs ys : List Row) (r : Row) → ys ≡ xs ++ r ∷ [] → (i : ℕ) (q : Row) → slice_get ys i ≡ Some q → (P : Type 0) → (slice_get xs i ≡ Some q → P) → (i ≡ length xs → q ≡ r → P) → P
row_cases xs ys r e i q x P old new = elim (at_last xs r i q (sym (ap (λ zs. slice_get zs i) e) ∙ x)) [ inl p ↦ old p | inr p ↦ new p.0 p.1 ]

abbrev with_parts : Table → Vec ℕ Global → Vec Angle Global → Vec Code Global → Vec ℤ Global → Table
with_parts t on angles codes numbers = record { rows = t.rows; lines = t.lines; on = on; angles = angles; codes = codes; numbers = numbers; «open» = t.open }

module _ (t : Table) (h : IsTable t) where
  parts_added : (on : Vec ℕ Global) (angles : Vec Angle Global) (codes : Vec Code Global) (numbers : Vec ℤ Global) → Grown (store_of t) (store_of (with_parts t on angles codes numbers))
      → All (IsStored (store_of (with_parts t on angles codes numbers))) angles.items
      → Becomes (with_parts t on angles codes numbers)
      (show (shown t).gates (shown t).body (map (tree_at (store_of (with_parts t on angles codes numbers))) (drop t.open.angles angles.items)) (drop t.open.on on.items))
  parts_added on angles codes numbers g stored =
      let a = store_of t in
      let v = store_of (with_parts t on angles codes numbers) in
      let gates : gates_of v ≡ gates_of a = gates_kept a v g h.store refl in
      let body : map (line_at v (gates_of v)) (open_lines t) ≡ map (line_at a (gates_of a)) (open_lines t) =
      ap (λ gs. map (line_at v gs) (open_lines t)) gates ∙ calls_kept a v g (length t.rows.items) (omega arith) h.store.angles (gates_of a) (open_lines t) h.lines in
      record {
        sound = record {
          store = store_kept a v g h.store refl stored;
          line_within = h.line_within;
          lines = λ k d b. line_kept a v g (length t.rows.items) (omega arith) (get_or (open_lines t) k d) (h.lines k d b);
          on_within = let l = prefix_length t.on.items on.items g.on in let w = h.on_within in omega arith;
          angles_within = let l = prefix_length t.angles.items angles.items g.angles in let w = h.angles_within in omega arith;
          depth_is = h.depth_is ∙ ap depth_in (sym body);
          shallow = h.shallow;
          items_are = h.items_are ∙ ap (λ b. min (items_in b) many_items) (sym body);
        };
        shows = all_parts _ _ _ _ _ _ _ _ gates body refl refl;
      }

  -- an argument more
  pub argument_added : (on : Vec ℕ Global) (n : ℕ) → on.items ≡ t.on.items ++ n ∷ [] → Becomes (with_parts t on t.angles t.codes t.numbers) (show (shown t).gates (shown t).body (shown t).angles ((shown t).on ++ n ∷ []))
  argument_added on n e =
      let a = store_of t in
      let v = store_of (with_parts t on t.angles t.codes t.numbers) in
      let p : Prefix t.on.items on.items = record { more = n ∷ []; is = e } in
      let g : Grown a v = record { rows = same_prefix _; lines = same_prefix _; on = p; angles = same_prefix _; codes = same_prefix _; numbers = same_prefix _ } in
      subst (Becomes (with_parts t on t.angles t.codes t.numbers))
      (all_parts _ _ _ _ _ _ _ _ refl refl
      (trees_kept a v g (drop t.open.angles t.angles.items) open_stored) (drop_kept t.on.items on.items p t.open.on h.on_within))
      (parts_added on t.angles t.codes t.numbers g (all_stored a v g h.store.angles))
    where
      open_stored : All (IsStored (store_of t)) (drop t.open.angles t.angles.items)
      open_stored = All-drop (IsStored (store_of t)) t.open.angles t.angles.items h.store.angles

  -- an angle more
  pub angle_added : (angles : Vec Angle Global) (codes : Vec Code Global) (numbers : Vec ℤ Global) (symbols : List Symbol) (code number : ℕ) (tree : Tree)
      → code ≡ length t.codes.items → number ≡ length t.numbers.items → codes.items ≡ (t.codes.items ++ map code_in symbols) ++ End ∷ [] → numbers.items ≡ t.numbers.items ++ flat_map numbers_in symbols
      → angles.items ≡ t.angles.items ++ record { code = code; number = number } ∷ [] → length symbols ≤ 64 → IsExpression symbols tree
      → Becomes (with_parts t t.on angles codes numbers) (show (shown t).gates (shown t).body ((shown t).angles ++ tree ∷ []) (shown t).on)
  angle_added angles codes numbers symbols code number tree ce ne cs ns e short x =
      let a = store_of t in
      let v = store_of (with_parts t t.on angles codes numbers) in
      let last : Angle = record { code = code; number = number } in
      let coded : codes.items ≡ t.codes.items ++ (map code_in symbols ++ End ∷ []) = cs ∙ append_assoc t.codes.items (map code_in symbols) (End ∷ []) in
      let p : Prefix t.angles.items angles.items = record { more = last ∷ []; is = e } in
      let c : Prefix t.codes.items codes.items = record { more = map code_in symbols ++ End ∷ []; is = coded } in
      let n : Prefix t.numbers.items numbers.items = record { more = flat_map numbers_in symbols; is = ns } in
      let g : Grown a v = record { rows = same_prefix _; lines = same_prefix _; on = same_prefix _; angles = p; codes = c; numbers = n } in
      let new : IsStored v last = record {
        symbols = symbols;
        codes = [];
        numbers = [];
        tree = tree;
        code_within = let l = prefix_length t.codes.items codes.items c in omega arith;
        number_within = let l = prefix_length t.numbers.items numbers.items n in omega arith;
        coded = ap (λ k. drop k codes.items) ce ∙ ap (drop (length t.codes.items)) coded ∙ drop-append_seam t.codes.items (map code_in symbols ++ End ∷ []);
        numbered = ap (λ k. drop k numbers.items) ne ∙ ap (drop (length t.numbers.items)) ns ∙ drop-append_seam t.numbers.items (flat_map numbers_in symbols) ∙ sym (append-nil (flat_map numbers_in symbols));
        short = short;
        expression = x;
      } in
      let stored : All (IsStored v) angles.items = subst (All (IsStored v)) (sym e) (All-push (IsStored v) t.angles.items last (all_stored a v g h.store.angles) new) in
      subst (Becomes (with_parts t t.on angles codes numbers))
      (all_parts _ _ _ _ _ _ _ _ refl refl
      (ap (map (tree_at v)) (drop_kept t.angles.items angles.items p t.open.angles h.angles_within)
      ∙ map-append (tree_at v) (drop t.open.angles t.angles.items) (last ∷ [])
      ∙ ap (λ xs. xs ++ tree_at v last ∷ []) (trees_kept a v g (drop t.open.angles t.angles.items) (All-drop (IsStored a) t.open.angles t.angles.items h.store.angles))
      ∙ ap (λ x. (shown t).angles ++ x ∷ []) (stored_tree v last new)) refl)
      (parts_added t.on angles codes numbers g stored)

greatest_more : (ns : List ℕ) (n : ℕ) → greatest (ns ++ n ∷ []) ≡ max (greatest ns) n
greatest_more [] n = omega (arith, max)
greatest_more (m ∷ ns) n = ap (max m) (greatest_more ns n) ∙ omega (arith, max)

depth_more : (calls : List Call) (c : Call) → depth_in (calls ++ c ∷ []) ≡ max (depth_in calls) c.called.depth
depth_more calls c = ap greatest (map-append (λ (c : Call). c.called.depth) calls (c ∷ [])) ∙ greatest_more (map (λ (c : Call). c.called.depth) calls) c.called.depth

items_more : (calls : List Call) (c : Call) → items_in (calls ++ c ∷ []) ≡ items_in calls + (1 + c.called.items)
items_more calls c =
    let f = λ (c : Call). 1 + c.called.items in
    let all : items_in (calls ++ c ∷ []) ≡ sum_by f (calls ++ c ∷ []) = sum-map f (calls ++ c ∷ []) in
    let parts : sum_by f (calls ++ c ∷ []) ≡ sum_by f calls + sum_by f (c ∷ []) = sum_by-append f calls (c ∷ []) in
    let front : items_in calls ≡ sum_by f calls = sum-map f calls in
    omega arith

deeper : (n d b : ℕ) (m : ℕ) → n ≡ max d b → d ≤ 32 → b ≤ 32 → n ≤ 32
deeper n d b m e x y = omega (arith, max)

more_items : (a b k : ℕ) → min ((min a k + 1) + min b k) k ≡ min (a + (1 + b)) k
more_items a b k = omega (arith, min)

module _ (t : Table) (h : IsTable t) where
  abbrev with_line : Vec Line Global → ℕ → ℕ → ℕ → ℕ → Table
  with_line lines on angles depth items = record {
    rows = t.rows;
    lines = lines;
    on = t.on;
    angles = t.angles;
    codes = t.codes;
    numbers = t.numbers;
    «open» = record { line = t.open.line; on = on; angles = angles; depth = depth; items = items };
  }

  -- a line more
  pub line_added : (lines : Vec Line Global) (callee : Callee) (on angles depth items d k : ℕ) → lines.items ≡ t.lines.items ++ record { callee = callee; on = t.open.on; angles = t.open.angles } ∷ []
      → on ≡ length t.on.items → angles ≡ length t.angles.items → IsCallee (length t.rows.items) callee → length (shown t).on ≡ callee_arity t.rows.items callee
      → length (shown t).angles ≡ callee_angles t.rows.items callee → AllPairs (λ p q. p ≢ q) (shown t).on → IsCounted d k (gate_of (shown t).gates callee)
      → depth ≡ max t.open.depth d → items ≡ min ((t.open.items + 1) + k) many_items
      → Becomes (with_line lines on angles depth items)
      (show (shown t).gates ((shown t).body ++ record { called = gate_of (shown t).gates callee; angles = (shown t).angles; on = (shown t).on } ∷ []) [] [])
  line_added lines callee on angles depth items d k e one ane known on_count angle_count different counted deep many =
      let a = store_of t in
      let v = store_of (with_line lines on angles depth items) in
      let last : Line = record { callee = callee; on = t.open.on; angles = t.open.angles } in
      let p : Prefix t.lines.items lines.items = record { more = last ∷ []; is = e } in
      let g : Grown a v = record { rows = same_prefix _; lines = p; on = same_prefix _; angles = same_prefix _; codes = same_prefix _; numbers = same_prefix _ } in
      let gates : gates_of v ≡ gates_of a = gates_kept a v g h.store refl in
      let ow = h.on_within in
      let aw = h.angles_within in
      let on_length : length (drop t.open.on t.on.items) ≡ length t.on.items - t.open.on = length-drop t.open.on t.on.items in
      let angles_length : length (drop t.open.angles t.angles.items) ≡ length t.angles.items - t.open.angles = length-drop t.open.angles t.angles.items in
      let mapped : length (shown t).angles ≡ length (drop t.open.angles t.angles.items) = length-map (drop t.open.angles t.angles.items) (tree_at a) in
      let on_whole : on_at a last ≡ drop t.open.on t.on.items = take_all _ (drop t.open.on t.on.items) (omega arith) in
      let angles_whole : angles_at a last ≡ drop t.open.angles t.angles.items = take_all _ (drop t.open.angles t.angles.items) (omega arith) in
      let new : IsLine a (length t.rows.items) last = record { callee = known; on_within = omega arith; angles_within = omega arith; different = subst (AllPairs (λ p q. p ≢ q)) (sym on_whole) different } in
      let call = λ (xs : List Tree) (ns : List ℕ). (let c : Call = record { called = gate_of (gates_of a) callee; angles = xs; on = ns } in c) in
      let added : line_at v (gates_of a) last ≡ call (shown t).angles (shown t).on =
      call_kept a v g (length t.rows.items) (omega arith) h.store.angles (gates_of a) last new
      ∙ ap (λ places. call (map (tree_at a) places) (on_at a last)) angles_whole ∙ ap (call (shown t).angles) on_whole in
      let opened : open_lines (with_line lines on angles depth items) ≡ open_lines t ++ last ∷ [] = drop_kept t.lines.items lines.items p t.open.line h.line_within in
      let body : (shown (with_line lines on angles depth items)).body ≡ (shown t).body ++ call (shown t).angles (shown t).on ∷ [] =
      ap (λ gs. map (line_at v gs) (open_lines (with_line lines on angles depth items))) gates ∙ ap (map (line_at v (gates_of a))) opened
      ∙ map-append (line_at v (gates_of a)) (open_lines t) (last ∷ [])
      ∙ ap (λ cs. cs ++ line_at v (gates_of a) last ∷ []) (calls_kept a v g (length t.rows.items) (omega arith) h.store.angles (gates_of a) (open_lines t) h.lines)
      ∙ ap (λ c. (shown t).body ++ c ∷ []) added in
      let c = call (shown t).angles (shown t).on in
      let l = prefix_length t.lines.items lines.items p in
      record {
        sound = record {
          store = store_kept a v g h.store refl (all_stored a v g h.store.angles);
          line_within = let w = h.line_within in omega arith;
          lines = subst (All (IsLine v (length t.rows.items))) (sym opened)
              (All-push (IsLine v (length t.rows.items)) (open_lines t) last (λ k d b. line_kept a v g (length t.rows.items) (omega arith) (get_or (open_lines t) k d) (h.lines k d b))
              (line_kept a v g (length t.rows.items) (omega arith) last new));
          on_within = omega arith;
          angles_within = omega arith;
          depth_is = deep ∙ ap (λ n. max n d) h.depth_is ∙ ap (max (depth_in (shown t).body)) counted.depth_is ∙ sym (depth_more (shown t).body c) ∙ ap depth_in (sym body);
          shallow = deeper depth t.open.depth d 0 deep h.shallow counted.shallow;
          items_are = many ∙ ap (λ n. min ((n + 1) + k) many_items) h.items_are ∙ ap (λ n. min ((min (items_in (shown t).body) many_items + 1) + n) many_items) counted.items_are
              ∙ more_items (items_in (shown t).body) (gate_of (gates_of a) callee).items many_items ∙ ap (λ n. min n many_items) (sym (items_more (shown t).body c)) ∙ ap (λ b. min (items_in b) many_items) (sym body);
        };
        shows = all_parts _ _ _ _ _ _ _ _ gates body
            (ap (λ n. map (tree_at v) (drop n t.angles.items)) ane ∙ ap (map (tree_at v)) (drop_all (length t.angles.items) t.angles.items (omega arith)))
            (ap (λ n. drop n t.on.items) one ∙ drop_all (length t.on.items) t.on.items (omega arith));
      }

  abbrev with_row : Vec Row Global → ℕ → ℕ → ℕ → Table
  with_row rows line on angles = record {
    rows = rows;
    lines = t.lines;
    on = t.on;
    angles = t.angles;
    codes = t.codes;
    numbers = t.numbers;
    «open» = record { line = line; on = on; angles = angles; depth = 0; items = 0 };
  }

  -- a gate more
  pub row_added : (rows : Vec Row Global) (r : Row) (line on angles : ℕ) → rows.items ≡ t.rows.items ++ r ∷ [] → r.from ≡ t.open.line → r.to ≡ length t.lines.items → r.depth ≡ t.open.depth + 1 → r.items ≡ t.open.items
      → line ≡ length t.lines.items → on ≡ length t.on.items → angles ≡ length t.angles.items → All (λ c. AreBelow r.arity c.on) (shown t).body → 1 + depth_in (shown t).body ≤ 32
      → Becomes (with_row rows line on angles) (show ((shown t).gates ++ defined r.params r.arity (shown t).body ∷ []) [] [] [])
  row_added rows r line on angles e from to deep many le one ane below shallow =
      let a = store_of t in
      let v = store_of (with_row rows line on angles) in
      let p : Prefix t.rows.items rows.items = record { more = r ∷ []; is = e } in
      let g : Grown a v = record { rows = p; lines = same_prefix _; on = same_prefix _; angles = same_prefix _; codes = same_prefix _; numbers = same_prefix _ } in
      let whole : lines_of a r ≡ open_lines t =
      ap (λ n. slice_range t.lines.items n r.to) from ∙ ap (λ n. slice_range t.lines.items t.open.line n) to ∙ take_rest t.lines.items t.open.line in
      let count = length t.rows.items in
      let lw = h.line_within in
      let dep = h.depth_is in
      let new : IsRow a count r = record {
        forward = omega arith;
        within = omega arith;
        lines = subst (All (IsLine a count)) (sym whole) h.lines;
        below = subst (All (λ l. AreBelow r.arity (on_at a l))) (sym whole) (below_lines below);
      } in
      let gate : row_gate v (gates_of a) r ≡ defined r.params r.arity (shown t).body =
      row_gate_kept a v g count (omega arith) h.store.angles (gates_of a) r new ∙ ap (λ ls. defined r.params r.arity (map (line_at a (gates_of a)) ls)) whole in
      let gates : gates_of v ≡ gates_of a ++ defined r.params r.arity (shown t).body ∷ [] =
      more_gates a v g h.store r e ∙ ap (λ x. gates_of a ++ x ∷ []) gate in
      let counted : RowCounted (defined r.params r.arity (shown t).body) r = record { depth_is = omega arith; shallow = omega arith; items_are = many ∙ h.items_are } in
      record {
        sound = record {
          store = record {
            rows = λ i q x. row_cases t.rows.items rows.items r e i q x (IsRow v i q)
                (λ y. row_kept a v g i (row_below a i q y) h.store.angles q (h.store.rows i q y))
                (λ at same. subst (λ n. IsRow v n q) (sym at) (subst (IsRow v count) (sym same) (row_kept a v g count (omega arith) h.store.angles r new)));
            counts = λ i q x. row_cases t.rows.items rows.items r e i q x (RowCounted (get_or (gates_of v) i nothing) q)
                (λ y. subst (λ x. RowCounted x q)
                (sym (ap (λ gs. get_or gs i nothing) gates ∙ get_or_append_left (gates_of a) _ nothing i (let l = slice_get_within t.rows.items i q y in let n = gates_length a in omega arith))) (h.store.counts i q y))
                (λ at same. subst (λ (x : Named). RowCounted x q)
                (sym (ap (λ gs. get_or gs i nothing) gates ∙ ap (λ n. get_or (gates_of a ++ defined r.params r.arity (shown t).body ∷ []) n nothing) (at ∙ sym (gates_length a)) ∙ get_or-append_seam (gates_of a) _ [] nothing))
                (subst (RowCounted (defined r.params r.arity (shown t).body)) (sym same) counted));
            angles = all_stored a v g h.store.angles;
          };
          line_within = omega arith;
          lines = subst (All (IsLine v (length rows.items))) (sym (gone t.lines.items line le)) (All-nil (IsLine v (length rows.items)));
          on_within = omega arith;
          angles_within = omega arith;
          depth_is = ap (λ ls. depth_in (map (line_at v (gates_of v)) ls)) (sym (gone t.lines.items line le));
          shallow = omega arith;
          items_are = ap (λ ls. min (items_in (map (line_at v (gates_of v)) ls)) many_items) (sym (gone t.lines.items line le));
        };
        shows = all_parts _ _ _ _ _ _ _ _ gates (ap (map (line_at v (gates_of v))) (gone t.lines.items line le)) (ap (map (tree_at v)) (gone t.angles.items angles ane)) (gone t.on.items on one);
      }
    where
      gone : {X : Type 0} (xs : List X) (n : ℕ) → n ≡ length xs → drop n xs ≡ []
      gone xs n e = drop_all n xs (omega arith)

      below_lines : All (λ c. AreBelow r.arity c.on) (shown t).body → All (λ l. AreBelow r.arity (on_at (store_of t) l)) (open_lines t)
      below_lines b = from_map (open_lines t) b
        where
          from_map : (ls : List Line) → All (λ (c : Call). AreBelow r.arity c.on) (map (line_at (store_of t) (gates_of (store_of t))) ls) → All (λ l. AreBelow r.arity (on_at (store_of t) l)) ls
          from_map [] b = All-nil (λ (l : Line). AreBelow r.arity (on_at (store_of t) l))
          from_map (l ∷ ls) b =
              All-cons (λ (l : Line). AreBelow r.arity (on_at (store_of t) l)) l ls
              (All-head (λ (c : Call). AreBelow r.arity c.on) _ (map (line_at (store_of t) (gates_of (store_of t))) ls) b)
              (from_map ls (All-tail (λ (c : Call). AreBelow r.arity c.on) _ (map (line_at (store_of t) (gates_of (store_of t))) ls) b))

nothing_at : (rows : List Row) → rows ≡ [] → (i : ℕ) (r : Row) → slice_get rows i ≡ Some r → ⊥
nothing_at [] e i r h = cc
nothing_at (q ∷ rows) e i r h = cc

no_gates : (s : Store) → s.rows ≡ [] → gates_of s ≡ []
unfolding gates_of
no_gates s e = ap (gates_from s []) e

-- a table with nothing in it
pub empty_table : (rows : Vec Row Global) (lines : Vec Line Global) (on : Vec ℕ Global) (angles : Vec Angle Global) (codes : Vec Code Global) (numbers : Vec ℤ Global)
    → rows.items ≡ [] → lines.items ≡ [] → on.items ≡ [] → angles.items ≡ []
    → Becomes (record { rows = rows; lines = lines; on = on; angles = angles; codes = codes; numbers = numbers; «open» = record { line = 0; on = 0; angles = 0; depth = 0; items = 0 } }) (show [] [] [] [])
empty_table rows lines on angles codes numbers re le oe ae =
    let t : Table = record { rows = rows; lines = lines; on = on; angles = angles; codes = codes; numbers = numbers; «open» = record { line = 0; on = 0; angles = 0; depth = 0; items = 0 } } in
    let s = store_of t in
    record {
      sound = record {
        store = record { rows = λ i r e. absurd (nothing_at rows.items re i r e); counts = λ i r e. absurd (nothing_at rows.items re i r e); angles = subst (All (IsStored s)) (sym ae) (All-nil (IsStored s)) };
        line_within = omega arith;
        lines = subst (All (IsLine s (length rows.items))) (sym le) (All-nil (IsLine s (length rows.items)));
        on_within = omega arith;
        angles_within = omega arith;
        depth_is = ap (λ ls. depth_in (map (line_at s (gates_of s)) ls)) (sym le);
        shallow = omega arith;
        items_are = ap (λ ls. min (items_in (map (line_at s (gates_of s)) ls)) many_items) (sym le);
      };
      shows = all_parts _ _ _ _ _ _ _ _ (no_gates s re) (ap (map (line_at s (gates_of s))) le) (ap (map (tree_at s)) ae) oe;
    }
