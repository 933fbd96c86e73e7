-- The numbers of a snapshot's text, part by part.
use Rattle.std.proofs.Common.{◌≡◌, ℕ, suc, ◌+◌, ◌*◌, ◌≤◌, true, false, List, [], ◌∷◌, ◌++◌, map, flat_map, length, take, drop, get_or, inl, inr, refl, sym, ◌∙◌, ap, subst, arith, length-append, length-drop}
use Rattle.std.proofs.lemmas.Bool.{cases_Bool, cond-true, cond-false}
use Rattle.std.proofs.lemmas.List.{length-map, get_or-append-add, take_at, drop_at}
use Rattle.std.proofs.lemmas.List.FromFn.{length-map-range_with_len}
use Rattle.bit_lists.specs.Orders.{AreVars}
use Rattle.diagram_model.specs.Functions.{Function, fix}
use Rattle.diagram_model.specs.Size.{depends}
use Rattle.slice_quad.specs.declared.coord.Coord.TheVariants.{A, B, C, D}
use Rattle.slice_quad.specs.Bits.{bits_of}
use Rattle.snapshot.specs.Numbers.{NodeLine, same, number_in, line_of}
use Rattle.snapshot.specs.Sheets.{Sheet}
use Rattle.snapshot.specs.Snapshots.{Snapshot, IsSnapshot, bits_in, functions_in, nodes_in, sheet_of, snapshot_text}
use Rattle.snapshot.specs.Reading.{node_numbers, Spells, HasShape}
use Rattle.snapshot.specs.Judging.{AreCut, ArePartsOf, bit_numbers}
use Rattle.snapshot.specs.declared.shape.Shape.{Shape}
use Rattle.snapshot.proofs.NumberTexts.{AllSmall, AllSmallLines, IsSmallLine, IsSmallSheet, told, sheet_told}
use Rattle.snapshot.proofs.Skipping.{line_here, line_free}

-- ---- the numbers fit
number_most : (k : ℕ) (fs : List Function) (f : Function) → number_in k fs f ≤ length fs
unfolding number_in
number_most k [] f = omega arith
number_most k (g ∷ fs) f =
    elim (cases_Bool (same k g f)) [
      | inl is ↦ (let e = cond-true (same k g f) 0 (suc (number_in k fs f)) is in omega (arith, e))
      | inr other ↦ (let e = cond-false (same k g f) 0 (suc (number_in k fs f)) other in let r = number_most k fs f in omega (arith, e, r))
    ]

small_number : (k : ℕ) (fs : List Function) (f : Function) → length fs ≤ 4294967295 → number_in k fs f ≤ 4294967295
small_number k fs f le = let r = number_most k fs f in omega (arith, r, le)

small_numbers : (k : ℕ) (fs gs : List Function) → length fs ≤ 4294967295 → AllSmall (map (number_in k fs) gs)
small_numbers k fs [] le = tt
small_numbers k fs (g ∷ gs) le = (small_number k fs g le, small_numbers k fs gs le)

small_line : (k : ℕ) (vs : List ℕ) (fs : List Function) (f : Function) → AllSmall vs → length fs ≤ 4294967295 → IsSmallLine (line_of k vs fs f)
unfolding line_of
small_line k [] fs f vars le = record { var = omega arith; low = omega arith; high = omega arith }
small_line k (v ∷ vs) fs f vars le =
    elim (cases_Bool (depends k v f)) [
      | inl reads ↦ subst IsSmallLine (sym (line_here k v vs fs f reads)) (record { var = vars.0; low = small_number k fs (fix v false f) le; high = small_number k fs (fix v true f) le })
      | inr free ↦ subst IsSmallLine (sym (line_free k v vs fs f free)) (small_line k vs fs f vars.1 le)
    ]

small_lines : (k : ℕ) (vs : List ℕ) (fs gs : List Function) → AllSmall vs → length fs ≤ 4294967295 → AllSmallLines (map (line_of k vs fs) gs)
small_lines k vs fs [] vars le = tt
small_lines k vs fs (g ∷ gs) vars le = (small_line k vs fs g vars le, small_lines k vs fs gs vars le)

small_vars : (k : ℕ) (vs : List ℕ) → k ≤ 64 → AreVars k vs → AllSmall vs
small_vars k [] le h = tt
small_vars k (v ∷ vs) le h = ((let a = h.0 in omega (arith, a, le)), small_vars k vs le h.2)

small_sheet : (s : Snapshot) → IsSnapshot s → IsSmallSheet (sheet_of s)
small_sheet s h =
    let k = length s.order in
    let fs = functions_in s in
    let rest = length-drop 2 fs in
    let count = h.nodes in
    let few = h.few in
    let long : length fs ≤ 4294967295 = omega (arith, rest, count) in
    let vars = small_vars k s.order few h.order.once in
    let lines = length-map (drop 2 fs) (line_of k s.order fs) in
    let e = h.exponent in
    let w = h.greatest_width in
    record {
      order = vars;
      long = omega (arith, few);
      exponent = omega (arith, e);
      width = omega (arith, w);
      count = omega (arith, lines, count);
      nodes = small_lines k s.order fs (drop 2 fs) vars long;
      a = small_numbers k fs (bits_in s A) long;
      b = small_numbers k fs (bits_in s B) long;
      c = small_numbers k fs (bits_in s C) long;
      d = small_numbers k fs (bits_in s D) long;
    }

-- ---- one after the other
-- the numbers behind those of the format and of the variables
after_order : List ℕ → List ℕ → List ℕ → ℕ → ℕ → ℕ → List ℕ
after_order o l r k w m = o ++ (k ∷ w ∷ m ∷ (l ++ r))

four_pieces : (l a b c d : List ℕ) → l ++ a ++ b ++ c ++ d ≡ l ++ (a ++ b ++ c ++ d)
four_pieces [] a b c d = refl
four_pieces (x ∷ l) a b c d = ap (λ t. x ∷ t) (four_pieces l a b c d)

regrouped : (o l a b c d : List ℕ) (k w m : ℕ) → (o ++ k ∷ [] ++ w ∷ [] ++ m ∷ []) ++ l ++ a ++ b ++ c ++ d ≡ after_order o l (a ++ b ++ c ++ d) k w m
unfolding after_order
regrouped [] l a b c d k w m = ap (λ t. k ∷ w ∷ m ∷ t) (four_pieces l a b c d)
regrouped (x ∷ o) l a b c d k w m = ap (λ t. x ∷ t) (regrouped o l a b c d k w m)

told_parts : (s : Sheet) → told s ≡ 1 ∷ length s.order ∷ after_order s.order (flat_map node_numbers s.nodes) (s.a ++ s.b ++ s.c ++ s.d) s.exponent s.width (length s.nodes)
told_parts s = ap (λ t. 1 ∷ length s.order ∷ t) (regrouped s.order (flat_map node_numbers s.nodes) s.a s.b s.c s.d s.exponent s.width (length s.nodes))

spelled : (ns : List ℕ) (s : Snapshot) → Spells ns s → ns ≡ 1 ∷ length s.order ∷ after_order s.order (flat_map node_numbers (sheet_of s).nodes) (bit_numbers (sheet_of s)) s.exponent s.width (length (sheet_of s).nodes)
unfolding snapshot_text
spelled ns s h = h.1 ∙ sheet_told (sheet_of s) (small_sheet s h.0) ∙ told_parts (sheet_of s)

-- ---- the counts
module _ (o l r : List ℕ) (k w m : ℕ) where
  -- a number behind those of the order
  behind : (j : ℕ) → get_or (1 ∷ length o ∷ after_order o l r k w m) (2 + length o + j) 0 ≡ get_or (k ∷ w ∷ m ∷ (l ++ r)) j 0
  unfolding after_order
  behind j =
      ap (λ i. get_or (1 ∷ length o ∷ (o ++ (k ∷ w ∷ m ∷ (l ++ r)))) i 0) (let e : 2 + length o + j ≡ suc (suc (length o + j)) = omega arith in e)
      ∙ get_or-append-add o (k ∷ w ∷ m ∷ (l ++ r)) j 0

  whole_length : length (1 ∷ length o ∷ after_order o l r k w m) ≡ 5 + length o + length l + length r
  unfolding after_order
  whole_length = omega (arith, length-append o (k ∷ w ∷ m ∷ (l ++ r)), length-append l r)

pub lines_length : (ls : List NodeLine) → length (flat_map node_numbers ls) ≡ 3 * length ls
lines_length [] = refl
lines_length (l ∷ ls) = let rest = lines_length ls in omega (arith, rest)

bits_length : (s : Snapshot) → length (bit_numbers (sheet_of s)) ≡ 4 * s.width
bits_length s =
    let t = sheet_of s in
    let k = length s.order in
    let fs = functions_in s in
    let a : length t.a ≡ s.width = length-map (bits_in s A) (number_in k fs) ∙ length-map-range_with_len (bits_of s.vector A) 0 s.width in
    let b : length t.b ≡ s.width = length-map (bits_in s B) (number_in k fs) ∙ length-map-range_with_len (bits_of s.vector B) 0 s.width in
    let c : length t.c ≡ s.width = length-map (bits_in s C) (number_in k fs) ∙ length-map-range_with_len (bits_of s.vector C) 0 s.width in
    let d : length t.d ≡ s.width = length-map (bits_in s D) (number_in k fs) ∙ length-map-range_with_len (bits_of s.vector D) 0 s.width in
    omega (arith, a, b, c, d, length-append (t.a ++ t.b ++ t.c) t.d, length-append (t.a ++ t.b) t.c, length-append t.a t.b)

-- as many lines as nodes
pub lines_count : (s : Snapshot) → length (sheet_of s).nodes ≡ nodes_in s
lines_count s = length-map (drop 2 (functions_in s)) (line_of (length s.order) s.order (functions_in s))

abbrev pub shape_for : Snapshot → Shape
shape_for s = record { qubits = length s.order; exponent = s.exponent; width = s.width; nodes = nodes_in s }

-- the counts are those of the snapshot
pub spelled_shape : (ns : List ℕ) (s : Snapshot) → Spells ns s → HasShape ns (shape_for s)
spelled_shape ns s h =
    let t = sheet_of s in
    let l = flat_map node_numbers t.nodes in
    let r = bit_numbers t in
    let n = length s.order in
    let m = length t.nodes in
    let e = spelled ns s h in
    let at : (i j : ℕ) → i ≡ 2 + n + j → get_or ns i 0 ≡ get_or (s.exponent ∷ s.width ∷ m ∷ (l ++ r)) j 0 = λ i j same.
    ap (λ x. get_or x i 0) e ∙ ap (λ x. get_or (1 ∷ n ∷ after_order s.order l r s.exponent s.width m) x 0) same ∙ behind s.order l r s.exponent s.width m j in
    let count = lines_count s in
    record {
      qubits = ap (λ x. get_or x 1 0) e;
      few = h.0.few;
      exponent = at (2 + n) 0 (omega arith);
      small = h.0.exponent;
      width = at (3 + n) 1 (omega arith);
      least = h.0.least_width;
      greatest = h.0.greatest_width;
      nodes = at (4 + n) 2 (omega arith) ∙ count;
      most = h.0.nodes;
      long = ap length e ∙ whole_length s.order l r s.exponent s.width m ∙ (let a = lines_length t.nodes in let b = bits_length s in omega (arith, a, b, count));
    }

-- numbers have one shape
pub one_shape : (ns : List ℕ) (p q : Shape) → HasShape ns p → HasShape ns q → p ≡ q
one_shape ns p q a b =
    let n : p.qubits ≡ q.qubits = sym a.qubits ∙ b.qubits in
    let k : p.exponent ≡ q.exponent = sym a.exponent ∙ ap (λ i. get_or ns (2 + i) 0) n ∙ b.exponent in
    let w : p.width ≡ q.width = sym a.width ∙ ap (λ i. get_or ns (3 + i) 0) n ∙ b.width in
    let m : p.nodes ≡ q.nodes = sym a.nodes ∙ ap (λ i. get_or ns (4 + i) 0) n ∙ b.nodes in
    ap (λ i. shape i p.exponent p.width p.nodes) n ∙ ap (λ i. shape q.qubits i p.width p.nodes) k ∙ ap (λ i. shape q.qubits q.exponent i p.nodes) w ∙ ap (λ i. shape q.qubits q.exponent q.width i) m
  where
    shape : ℕ → ℕ → ℕ → ℕ → Shape
    shape n k w m = record { qubits = n; exponent = k; width = w; nodes = m }

-- ---- the parts
pub spelled_parts : (ns : List ℕ) (p : Shape) (order lines bits : List ℕ) (s : Snapshot) → Spells ns s → HasShape ns p → AreCut ns p order lines bits → ArePartsOf s p order lines bits
unfolding after_order
spelled_parts ns p order lines bits s h has cut =
    let t = sheet_of s in
    let l = flat_map node_numbers t.nodes in
    let r = bit_numbers t in
    let one = one_shape ns p (shape_for s) has (spelled_shape ns s h) in
    let n : p.qubits ≡ length s.order = ap (λ (q : Shape). q.qubits) one in
    let m : p.nodes ≡ nodes_in s = ap (λ (q : Shape). q.nodes) one in
    let tail = s.exponent ∷ s.width ∷ length t.nodes ∷ (l ++ r) in
    let begin : drop 2 ns ≡ s.order ++ tail = ap (drop 2) (spelled ns s h) in
    let mid : drop 3 (drop p.qubits (drop 2 ns)) ≡ l ++ r = ap (λ x. drop 3 (drop p.qubits x)) begin ∙ ap (drop 3) (drop_at s.order tail p.qubits (sym n)) in
    let three : length l ≡ 3 * p.nodes = lines_length t.nodes ∙ ap (λ i. 3 * i) (lines_count s ∙ sym m) in
    record {
      snapshot = h.0;
      exponent = ap (λ (q : Shape). q.exponent) one;
      width = ap (λ (q : Shape). q.width) one;
      order = cut.order ∙ ap (take p.qubits) begin ∙ take_at s.order tail p.qubits (sym n);
      lines = cut.lines ∙ ap (take (3 * p.nodes)) mid ∙ take_at l r (3 * p.nodes) three;
      bits = cut.bits ∙ ap (drop (3 * p.nodes)) mid ∙ drop_at l r (3 * p.nodes) three;
    }
