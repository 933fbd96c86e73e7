-- What is left of a matrix once its corner times the identity is taken away, by its coordinates, and the first position at which it isn't zero.
use Rattle.std.proofs.Common.{◌≡◌, ℕ, zero, suc, ◌+◌, pos, ◌-ℤ◌, Bool, true, false, cond, List, [], ◌∷◌, ◌++◌, take, drop, length, Option, replicate, refl, sym, ◌∙◌, ap, subst, arith}
use Rattle.std.proofs.Math.Path.{ap₂}
use Rattle.std.proofs.lemmas.Int.{ints}
use Rattle.std.proofs.lemmas.List.{length-append, take-append-drop}
use mathlib.Core.Path.{fun_ext}
use Rattle.ring_omega.specs.declared.quad.Quad.{Quad}
use Rattle.ring_omega.specs.Ring.{zero_quad, difference_of}
use Rattle.ring_omega.specs.Lowest.{lowest_form}
use Rattle.ring_omega.proofs.RingLemmas.{quad_eq}
use Rattle.amp_printer.specs.declared.verdict.Verdict.TheVariants.{Differs}
use Rattle.bit_lists.specs.Lists.{IsBefore}
use Rattle.bit_lists.specs.Partials.{agrees}
use Rattle.diagram_model.specs.Functions.{Assignment, bit}
use Rattle.diagram_model.specs.Stores.{Diagram, IsLive, KeepsFunctions, function_of}
use Rattle.node_store.specs.declared.node.Node.{Node}
use Rattle.circuit_model.specs.Product.{same_bits}
use Rattle.comparison.specs.Scalars.{Matrix, corner, scalar_entry, IsScalar, IsFirstDiffering}
use Rattle.comparison.specs.Verdicts.{IsVerdict}
use Rattle.comparison.proofs.Positions.{joined-before}
use Rattle.slice_vec.specs.Slices.{value_at}
use Rattle.slice_quad.specs.declared.coord.Coord.{Coord}
use Rattle.slice_quad.specs.declared.coord.Coord.TheVariants.{A, B, C, D}
use Rattle.slice_quad.specs.declared.quad.SliceQuad.{SliceQuad}
use Rattle.slice_quad.specs.Fours.{nodes_of}
use Rattle.slice_quad.specs.RowsColumns.{row_equals_column, KeepsRowEqualsColumn}
use Rattle.slice_quad.specs.Turns.{coordinate}
use Rattle.slice_quad.specs.Walks.{entries_in, IsNonzeroFrom, AreZeroFrom, IsLeastFrom}
use Rattle.slice_quad.proofs.Walking.{next_first}
use Rattle.slice_gates.specs.Sides.{woven}
use Rattle.slice_gates.proofs.Moved.{take_front, drop_front}
use Rattle.equivalence.specs.Matrices.{matrix_in}
use Rattle.equivalence.specs.Positions.{in_turns, rest_at, AreFixed, IsAlike, AreAlike, IsUnlike}
use Rattle.equivalence.proofs.Places.{row_long, column_long, turns_long, seen, shares_agrees, agrees_shares, zeros_woven}

-- ---- the kept function
woven_same : (r c : List Bool) (n : ℕ) → length r ≡ n → length c ≡ n → row_equals_column n (bit (woven r c)) ≡ same_bits r c
unfolding row_equals_column
woven_same [] [] zero er ec = refl
woven_same [] [] (suc n) er ec = absurd (omega (arith, er))
woven_same [] (b ∷ c) n er ec = absurd (omega (arith, er, ec))
woven_same (a ∷ r) [] n er ec = absurd (omega (arith, er, ec))
woven_same (a ∷ r) (b ∷ c) zero er ec = absurd (omega (arith, er))
woven_same (true ∷ r) (true ∷ c) (suc n) er ec = woven_same r c n (omega (arith, er)) (omega (arith, ec))
woven_same (false ∷ r) (false ∷ c) (suc n) er ec = woven_same r c n (omega (arith, er)) (omega (arith, ec))
woven_same (true ∷ r) (false ∷ c) (suc n) er ec = refl
woven_same (false ∷ r) (true ∷ c) (suc n) er ec = refl

kept_at : (n : ℕ) (d : Diagram) (q : SliceQuad) (r c : List Bool) → KeepsRowEqualsColumn n d q → length r ≡ n → length c ≡ n → function_of d q.kept.0 (bit (woven r c)) ≡ same_bits r c
kept_at n d q r c kept er ec = ap (λ (f : Assignment → Bool). f (bit (woven r c))) kept ∙ woven_same r c n er ec

-- it is kept where the node stays, with its function
pub kept_on : (n : ℕ) (d e : Diagram) (q p : SliceQuad) → KeepsRowEqualsColumn n d q → IsLive d q.kept.0 → KeepsFunctions d e → p.kept ≡ q.kept → KeepsRowEqualsColumn n e p
unfolding function_of
kept_on n d e q p kept live keeps same = ap (λ (m : Node). function_of e m.0) same ∙ fun_ext (λ x. keeps.same q.kept.0 live x) ∙ kept

-- ---- differences
nothing_left : (p q : Quad) → difference_of p q ≡ zero_quad → p ≡ q
unfolding difference_of
nothing_left p q e =
    let ea : p.a -ℤ q.a ≡ pos 0 = ap (λ (r : Quad). r.a) e in
    let eb : p.b -ℤ q.b ≡ pos 0 = ap (λ (r : Quad). r.b) e in
    let ec : p.c -ℤ q.c ≡ pos 0 = ap (λ (r : Quad). r.c) e in
    let ed : p.d -ℤ q.d ≡ pos 0 = ap (λ (r : Quad). r.d) e in
    quad_eq p q (omega (arith, ints, ea)) (omega (arith, ints, eb)) (omega (arith, ints, ec)) (omega (arith, ints, ed))

itself_left : (p : Quad) → difference_of p p ≡ zero_quad
unfolding difference_of
itself_left p = quad_eq (difference_of p p) zero_quad (omega (arith, ints)) (omega (arith, ints)) (omega (arith, ints)) (omega (arith, ints))

pub rest_zero : (n : ℕ) (m : Matrix) (x : List Bool) → rest_at n m x ≡ zero_quad → m (take n x) (drop n x) ≡ scalar_entry (corner n m) (take n x) (drop n x)
unfolding rest_at
rest_zero n m x e = nothing_left (m (take n x) (drop n x)) (scalar_entry (corner n m) (take n x) (drop n x)) e

pub zero_rest : (n : ℕ) (m : Matrix) (x : List Bool) → m (take n x) (drop n x) ≡ scalar_entry (corner n m) (take n x) (drop n x) → rest_at n m x ≡ zero_quad
unfolding rest_at
zero_rest n m x e =
    ap (λ p. difference_of p (scalar_entry (corner n m) (take n x) (drop n x))) e ∙ itself_left (scalar_entry (corner n m) (take n x) (drop n x))

rest_joined : (n : ℕ) (m : Matrix) (r c : List Bool) → length r ≡ n → rest_at n m (r ++ c) ≡ zero_quad → m r c ≡ scalar_entry (corner n m) r c
rest_joined n m r c er e =
    let row = take_front r c n er in
    let col = drop_front r c n er in
    ap₂ m (sym row) (sym col) ∙ rest_zero n m (r ++ c) e ∙ ap₂ (scalar_entry (corner n m)) row col

-- ---- the coordinates of an entry
entry_at : (d : Diagram) (q : SliceQuad) (x : List Bool) (z : Coord) → coordinate z (entries_in d q.four x) ≡ value_at d (nodes_of q.four z) (bit x)
unfolding entries_in
entry_at d q x A = refl
entry_at d q x B = refl
entry_at d q x C = refl
entry_at d q x D = refl

chosen_at : (z : Coord) (b : Bool) (p : Quad) → coordinate z (cond b p zero_quad) ≡ cond b (coordinate z p) (pos 0)
chosen_at A true p = refl
chosen_at B true p = refl
chosen_at C true p = refl
chosen_at D true p = refl
chosen_at A false p = refl
chosen_at B false p = refl
chosen_at C false p = refl
chosen_at D false p = refl

by_coordinates : (p r : Quad) → ((z : Coord) → coordinate z p ≡ coordinate z r) → p ≡ r
by_coordinates p r same = quad_eq p r (same A) (same B) (same C) (same D)

-- the corner, from the values at zeros
pub corner_at : (n : ℕ) (d : Diagram) (q : SliceQuad) (zeros : List Bool) → zeros ≡ replicate (n + n) false → entries_in d q.four zeros ≡ corner n (matrix_in d q)
corner_at n d q zeros e = ap (entries_in d q.four) (e ∙ sym (zeros_woven n))

-- a coordinate of the corner times the identity
scalar_at : (n : ℕ) (d : Diagram) (q : SliceQuad) (zeros x : List Bool) (z : Coord) → KeepsRowEqualsColumn n d q → zeros ≡ replicate (n + n) false → length x ≡ n + n
    → coordinate z (scalar_entry (corner n (matrix_in d q)) (take n x) (drop n x)) ≡ cond (function_of d q.kept.0 (bit (in_turns n x))) (value_at d (nodes_of q.four z) (bit zeros)) (pos 0)
scalar_at n d q zeros x z kept e len =
    chosen_at z (same_bits (take n x) (drop n x)) (corner n (matrix_in d q))
    ∙ ap₂ (λ b v. cond b v (pos 0)) (sym (kept_at n d q (take n x) (drop n x) kept (row_long n x len) (column_long n x len)))
    (ap (coordinate z) (sym (corner_at n d q zeros e)) ∙ entry_at d q zeros z)

-- a position where nothing is left, by its coordinates
alike_there : (n : ℕ) (d : Diagram) (q : SliceQuad) (zeros x : List Bool) (z : Coord) → KeepsRowEqualsColumn n d q → zeros ≡ replicate (n + n) false → length x ≡ n + n
    → rest_at n (matrix_in d q) x ≡ zero_quad → IsAlike d q.kept.0 zeros (nodes_of q.four z) (in_turns n x)
alike_there n d q zeros x z kept e len none =
    sym (entry_at d q (in_turns n x) z) ∙ ap (coordinate z) (rest_zero n (matrix_in d q) x none) ∙ scalar_at n d q zeros x z kept e len

nothing_there : (n : ℕ) (d : Diagram) (q : SliceQuad) (zeros x : List Bool) → KeepsRowEqualsColumn n d q → zeros ≡ replicate (n + n) false → length x ≡ n + n
    → ((z : Coord) → IsAlike d q.kept.0 zeros (nodes_of q.four z) (in_turns n x)) → rest_at n (matrix_in d q) x ≡ zero_quad
nothing_there n d q zeros x kept e len alike =
    zero_rest n (matrix_in d q) x
    (by_coordinates (matrix_in d q (take n x) (drop n x)) (scalar_entry (corner n (matrix_in d q)) (take n x) (drop n x))
    (λ z. entry_at d q (in_turns n x) z ∙ alike z ∙ sym (scalar_at n d q zeros x z kept e len)))

-- ---- what the questions answer
pub record IsAsked (n : ℕ) (d : Diagram) (q : SliceQuad) (x : List Bool) (k : ℕ) (zeros : List Bool) (p : List (Option Bool)) : Type 0 where
  pub variables : length d.order ≡ n + n
  pub kept : KeepsRowEqualsColumn n d q
  pub zeros_are : zeros ≡ replicate (n + n) false
  pub fixed : AreFixed n x k p

pub differs_there : (n : ℕ) (d : Diagram) (q : SliceQuad) (x : List Bool) (k : ℕ) (zeros : List Bool) (p : List (Option Bool)) (z : Coord) → IsAsked n d q x k zeros p
    → IsUnlike d q.kept.0 zeros (nodes_of q.four z) p → IsNonzeroFrom (n + n) (rest_at n (matrix_in d q)) k x
differs_there n d q x k zeros p z a u =
    let s = seen n u.at (u.long ∙ a.variables) in
    record {
      at = s.at;
      long = s.long;
      shares = agrees_shares n x k p s.at a.fixed s.long (ap (agrees p) s.is ∙ u.agreeing);
      nonzero = λ none. u.unlike (subst (IsAlike d q.kept.0 zeros (nodes_of q.four z)) s.is (alike_there n d q zeros s.at z a.kept a.zeros_are s.long none));
    }

each_of : (P : Coord → Type 0) → P A → P B → P C → P D → (z : Coord) → P z
each_of P a b c e A = a
each_of P a b c e B = b
each_of P a b c e C = c
each_of P a b c e D = e

pub same_there : (n : ℕ) (d : Diagram) (q : SliceQuad) (x : List Bool) (k : ℕ) (zeros : List Bool) (p : List (Option Bool)) → IsAsked n d q x k zeros p
    → AreAlike d q.kept.0 zeros q.four.a p → AreAlike d q.kept.0 zeros q.four.b p → AreAlike d q.kept.0 zeros q.four.c p → AreAlike d q.kept.0 zeros q.four.d p
    → AreZeroFrom (n + n) (rest_at n (matrix_in d q)) k x
same_there n d q x k zeros p a ha hb hc hd y long shares =
    let agreeing = shares_agrees n x k p y a.fixed long shares in
    let wide : length (in_turns n y) ≡ length d.order = turns_long n y long ∙ sym a.variables in
    nothing_there n d q zeros y a.kept a.zeros_are long
    (each_of (λ z. IsAlike d q.kept.0 zeros (nodes_of q.four z) (in_turns n y)) (ha _ wide agreeing) (hb _ wide agreeing) (hc _ wide agreeing) (hd _ wide agreeing))

-- ---- the answers
pub scalar_from : (n : ℕ) (m : Matrix) (x : List Bool) → AreZeroFrom (n + n) (rest_at n m) 0 x → IsScalar n m
scalar_from n m x h r c er ec = rest_joined n m r c er (h (r ++ c) (length-append r c ∙ ap₂ (λ i j. i + j) er ec) (λ i lt. absurd (omega (arith, lt))))

pub first_from : (n : ℕ) (m : Matrix) (x f : List Bool) → IsLeastFrom (n + n) (rest_at n m) 0 x f → IsFirstDiffering n m (take n f) (drop n f)
first_from n m x f h =
    let next = next_first (n + n) (rest_at n m) x f h in
    let row = row_long n f h.long in
    record {
      row_long = row;
      column_long = column_long n f h.long;
      differs = λ e. h.nonzero (zero_rest n m f e);
      before = λ s c ls lc earlier.
          rest_joined n m s c ls (next.first (s ++ c) (length-append s c ∙ ap₂ (λ i j. i + j) ls lc) tt
          (subst (λ y. IsBefore (s ++ c) y) (take-append-drop n f) (joined-before s c (take n f) (drop n f) (ls ∙ sym row) earlier)));
    }

-- what is said at the first position
pub said_at : (n : ℕ) (m : Matrix) (k : ℕ) (x row col : List Bool) (value own : Quad × ℕ) → IsFirstDiffering n m (take n x) (drop n x) → row ≡ take n x → col ≡ drop n x
    → value ≡ lowest_form (m (take n x) (drop n x)) k → own ≡ lowest_form (corner n m) k → IsVerdict n m k (Differs row col value own)
said_at n m k x row col value own first er ec ev eo =
    let at : IsFirstDiffering n m row col = subst (λ c. IsFirstDiffering n m row c) (sym ec) (subst (λ r. IsFirstDiffering n m r (drop n x)) (sym er) first) in
    (at, ev ∙ ap₂ (λ r c. lowest_form (m r c) k) (sym er) (sym ec), eo)
