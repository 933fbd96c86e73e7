-- Each matrix is unitary: a kind's by a test over its table, and one with further controls by that with one fewer.
use Rattle.std.proofs.Common.{◌≡◌, ◌≢◌, ℕ, zero, suc, ◌+◌, ◌-◌, ◌*◌, ◌^◌, ◌<◌, refl, sym, ◌∙◌, ap, eq-eqb, Bool, true, false, cond, ◌&&◌, arith, pos, ◌-ℤ◌, ◌⊎◌, inl, inr}
use Rattle.std.specs.Prelude.{◌==◌}
use Rattle.std.proofs.Math.Path.{ap₂}
use Rattle.std.proofs.lemmas.Int.{ints}
use Rattle.std.proofs.lemmas.Bool.{and_parts, cases_eq, ne_eqb}
use Rattle.std.proofs.lemmas.Bool.Decides.{leb_tells}
use Rattle.ring_omega.specs.declared.quad.Quad.{Quad}
use Rattle.ring_omega.specs.Ring.{zero_quad, one_quad, root_of_two, times_power, sum_of, difference_of, product_of, conjugate_of, is_zero}
use Rattle.ring_omega.proofs.RingLemmas.{quad_eq, Decides-is_zero}
use Rattle.ring_omega.proofs.RingLaws.{product_of-comm, product_of-zero, sum_of-zero, zero-sum_of, sum_of-assoc}
use Rattle.gate_set.specs.declared.entry.Entry.TheVariants.{Omega, Root2}
use Rattle.gate_set.specs.declared.kind.Kind.{Kind}
use Rattle.gate_set.specs.declared.kind.Kind.TheVariants.{Id, X, Y, Z, H, S, Sdg, T, Tdg, RxP, RxM, RyP, RyM, Cx, Cz, Swap, Ccx, Cswap, Phase}
use Rattle.gate_set.specs.Matrix.{arity_of, half_power_of, inverse_of, matrix_of, entry_of, beside, controlled_entry, times_entry, IsKind}
use Rattle.gate_set.proofs.MatrixLemmas.{arity_of-inverse_of}
use Rattle.gate_set.proofs.ControlledLemmas.{side_of, side-suc, side-none, entry-none, entry-one, entry-diagonal, entry-beside}
use Rattle.gate_set.specs.Unitary.{sum_below, row_product, identity_entry, entry_value, IsUnitary, IsAdjoint}

equal : Quad → Quad → Bool
equal p q = is_zero (difference_of p q)

equal-true : (p q : Quad) → equal p q ≡ true → p ≡ q
unfolding equal difference_of
equal-true p q t =
    let e = (Decides-is_zero (difference_of p q)).0 t in
    let ea : p.a -ℤ q.a ≡ pos 0 = ap (λ (r : Quad). r.a) e in
    let eb : p.b -ℤ q.b ≡ pos 0 = ap (λ (r : Quad). r.b) e in
    let ec : p.c -ℤ q.c ≡ pos 0 = ap (λ (r : Quad). r.c) e in
    let ed : p.d -ℤ q.d ≡ pos 0 = ap (λ (r : Quad). r.d) e in
    quad_eq p q (omega (arith, ints)) (omega (arith, ints)) (omega (arith, ints)) (omega (arith, ints))

all_below : ℕ → (ℕ → Bool) → Bool
all_below zero p = true
all_below (suc n) p = p n && all_below n p

last_or_below : (k n : ℕ) → k < suc n → (k ≡ n) ⊎ (k < n)
last_or_below k n lt = grind arith

all_below-at : (n : ℕ) (p : ℕ → Bool) → all_below n p ≡ true → (k : ℕ) → k < n → p k ≡ true
unfolding all_below
all_below-at zero p t k lt = absurd (omega arith)
all_below-at (suc n) p t k lt =
    let (here, below) = and_parts (p n) (all_below n p) t in
    elim (last_or_below k n lt) [ inl e ↦ ap p e ∙ here | inr lt' ↦ all_below-at n p below k lt' ]

-- a test of all entries, and what it tells
pub entries_test : ℕ → (ℕ → ℕ → Quad) → (ℕ → ℕ → Quad) → Bool
entries_test n f g = all_below n (λ r. all_below n (λ s. equal (f r s) (g r s)))

pub entries-from_test : (n : ℕ) (f g : ℕ → ℕ → Quad) → entries_test n f g ≡ true → (r s : ℕ) → r < n → s < n → f r s ≡ g r s
unfolding entries_test
entries-from_test n f g t r s lr ls =
    equal-true _ _ (all_below-at n (λ k. equal (f r k) (g r k)) (all_below-at n (λ j. all_below n (λ k. equal (f j k) (g j k))) t r lr) s ls)

-- ---- the kinds
-- an entry of a kind's own matrix, as a number
own_value : Kind → ℕ → ℕ → Quad
own_value k row col = times_entry (entry_of k row col) one_quad

own_product : Kind → ℕ → ℕ → Quad
own_product k r s = sum_below (2 ^ arity_of k) (λ y. product_of (own_value k r y) (conjugate_of (own_value k s y)))

unitary_test : Kind → Bool
unitary_test k = entries_test (2 ^ arity_of k) (own_product k) (identity_entry k)

unitary_test-true : (k : Kind) → IsKind k → unitary_test k ≡ true
unfolding unitary_test entries_test all_below equal own_value own_product identity_entry entry_of matrix_of is_zero sum_of difference_of product_of conjugate_of
unitary_test-true Id h = refl
unitary_test-true X h = refl
unitary_test-true Y h = refl
unitary_test-true Z h = refl
unitary_test-true H h = refl
unitary_test-true S h = refl
unitary_test-true Sdg h = refl
unitary_test-true T h = refl
unitary_test-true Tdg h = refl
unitary_test-true RxP h = refl
unitary_test-true RxM h = refl
unitary_test-true RyP h = refl
unitary_test-true RyM h = refl
unitary_test-true Cx h = refl
unitary_test-true Cz h = refl
unitary_test-true Swap h = refl
unitary_test-true Ccx h = refl
unitary_test-true Cswap h = refl
unitary_test-true (Phase zero) h = refl
unitary_test-true (Phase (suc zero)) h = refl
unitary_test-true (Phase (suc (suc zero))) h = refl
unitary_test-true (Phase (suc (suc (suc zero)))) h = refl
unitary_test-true (Phase (suc (suc (suc (suc zero))))) h = refl
unitary_test-true (Phase (suc (suc (suc (suc (suc zero)))))) h = refl
unitary_test-true (Phase (suc (suc (suc (suc (suc (suc zero))))))) h = refl
unitary_test-true (Phase (suc (suc (suc (suc (suc (suc (suc zero)))))))) h = refl
unitary_test-true (Phase (suc (suc (suc (suc (suc (suc (suc (suc j))))))))) h = absurd (omega (arith, h))

own_unitary : (k : Kind) → IsKind k → (r s : ℕ) → r < 2 ^ arity_of k → s < 2 ^ arity_of k → own_product k r s ≡ identity_entry k r s
unfolding unitary_test
own_unitary k h = entries-from_test (2 ^ arity_of k) (own_product k) (identity_entry k) (unitary_test-true k h)

transposed_value : Kind → ℕ → ℕ → Quad
transposed_value k r s = conjugate_of (own_value k s r)

adjoint_test : Kind → Bool
adjoint_test k = entries_test (2 ^ arity_of k) (own_value (inverse_of k)) (transposed_value k)

adjoint_test-true : (k : Kind) → IsKind k → adjoint_test k ≡ true
unfolding adjoint_test transposed_value own_value entries_test all_below equal entry_of matrix_of is_zero difference_of product_of conjugate_of
adjoint_test-true Id h = refl
adjoint_test-true X h = refl
adjoint_test-true Y h = refl
adjoint_test-true Z h = refl
adjoint_test-true H h = refl
adjoint_test-true S h = refl
adjoint_test-true Sdg h = refl
adjoint_test-true T h = refl
adjoint_test-true Tdg h = refl
adjoint_test-true RxP h = refl
adjoint_test-true RxM h = refl
adjoint_test-true RyP h = refl
adjoint_test-true RyM h = refl
adjoint_test-true Cx h = refl
adjoint_test-true Cz h = refl
adjoint_test-true Swap h = refl
adjoint_test-true Ccx h = refl
adjoint_test-true Cswap h = refl
adjoint_test-true (Phase zero) h = refl
adjoint_test-true (Phase (suc zero)) h = refl
adjoint_test-true (Phase (suc (suc zero))) h = refl
adjoint_test-true (Phase (suc (suc (suc zero)))) h = refl
adjoint_test-true (Phase (suc (suc (suc (suc zero))))) h = refl
adjoint_test-true (Phase (suc (suc (suc (suc (suc zero)))))) h = refl
adjoint_test-true (Phase (suc (suc (suc (suc (suc (suc zero))))))) h = refl
adjoint_test-true (Phase (suc (suc (suc (suc (suc (suc (suc zero)))))))) h = refl
adjoint_test-true (Phase (suc (suc (suc (suc (suc (suc (suc (suc j))))))))) h = absurd (omega (arith, h))

own_adjoint : (k : Kind) → IsKind k → (r s : ℕ) → r < 2 ^ arity_of k → s < 2 ^ arity_of k → own_value (inverse_of k) r s ≡ conjugate_of (own_value k s r)
unfolding adjoint_test transposed_value
own_adjoint k h = entries-from_test (2 ^ arity_of k) (own_value (inverse_of k)) (transposed_value k) (adjoint_test-true k h)

pub halves : (k : Kind) → half_power_of (inverse_of k) ≡ half_power_of k
halves Id = refl
halves X = refl
halves Y = refl
halves Z = refl
halves H = refl
halves S = refl
halves Sdg = refl
halves T = refl
halves Tdg = refl
halves RxP = refl
halves RxM = refl
halves RyP = refl
halves RyM = refl
halves Cx = refl
halves Cz = refl
halves Swap = refl
halves Ccx = refl
halves Cswap = refl
halves (Phase j) = refl

-- ---- sums
product-zero_left : (q : Quad) → product_of zero_quad q ≡ zero_quad
product-zero_left q = product_of-comm zero_quad q ∙ product_of-zero q

sum_below-none : (n : ℕ) (f : ℕ → Quad) → ((y : ℕ) → y < n → f y ≡ zero_quad) → sum_below n f ≡ zero_quad
sum_below-none zero f h = refl
sum_below-none (suc n) f h = ap₂ sum_of (sum_below-none n f (λ y lt. h y (omega (arith, lt)))) (h n (omega arith)) ∙ sum_of-zero zero_quad

sum_below-only : (n i : ℕ) (f : ℕ → Quad) → i < n → ((y : ℕ) → y < n → y ≢ i → f y ≡ zero_quad) → sum_below n f ≡ f i
sum_below-only zero i f lt h = absurd (omega (arith, lt))
sum_below-only (suc n) i f lt h = elim (cases_eq i n) [
  | inl e ↦
      ap (λ q. sum_of q (f n)) (sum_below-none n f (λ y less. h y (omega (arith, less)) (λ at. omega (arith, at, less, e)))) ∙ zero-sum_of (f n) ∙ ap f (sym e)
  | inr ne ↦
      ap₂ sum_of (sum_below-only n i f (omega (arith, lt, ne)) (λ y less other. h y (omega (arith, less)) other)) (h n (omega arith) (λ e. ne (sym e))) ∙ sum_of-zero (f i)
]

sum_below-more : (n m : ℕ) (f : ℕ → Quad) → sum_below (n + m) f ≡ sum_of (sum_below n f) (sum_below m (λ y. f (n + y)))
sum_below-more n zero f = let e : n + zero ≡ n = omega arith in ap (λ i. sum_below i f) e ∙ sym (sum_of-zero (sum_below n f))
sum_below-more n (suc m) f =
    let e : n + suc m ≡ suc (n + m) = omega arith in
    ap (λ i. sum_below i f) e ∙ ap (λ q. sum_of q (f (n + m))) (sum_below-more n m f) ∙ sum_of-assoc (sum_below n f) (sum_below m (λ y. f (n + y))) (f (n + m))

sum_below-same : (n : ℕ) (f g : ℕ → Quad) → ((y : ℕ) → f y ≡ g y) → sum_below n f ≡ sum_below n g
sum_below-same zero f g h = refl
sum_below-same (suc n) f g h = ap₂ sum_of (sum_below-same n f g h) (h n)

-- ---- further controls
identity-same : (k : Kind) (r : ℕ) → identity_entry k r r ≡ times_power root_of_two (2 * half_power_of k) one_quad
unfolding identity_entry
identity-same k r = ap (λ b. cond b (times_power root_of_two (2 * half_power_of k) one_quad) zero_quad) (eq-eqb r r refl)

identity-other : (k : Kind) (r s : ℕ) → r ≢ s → identity_entry k r s ≡ zero_quad
unfolding identity_entry
identity-other k r s ne = ap (λ b. cond b (times_power root_of_two (2 * half_power_of k) one_quad) zero_quad) (ne_eqb r s ne)

identity-moved : (k : Kind) (n r s : ℕ) → identity_entry k (n + r) (n + s) ≡ identity_entry k r s
identity-moved k n r s = elim (cases_eq r s) [
  | inl e ↦ ap (λ i. identity_entry k (n + i) (n + s)) e ∙ identity-same k (n + s) ∙ sym (identity-same k s) ∙ ap (λ i. identity_entry k i s) (sym e)
  | inr ne ↦ identity-other k (n + r) (n + s) (λ e. ne (omega (arith, e))) ∙ sym (identity-other k r s ne)
]

abbrev beside_value : Kind → Quad
beside_value k = times_entry (beside k) one_quad

-- √2 for each half power, and real
beside_square : (k : Kind) → product_of (beside_value k) (conjugate_of (beside_value k)) ≡ times_power root_of_two (2 * half_power_of k) one_quad
unfolding product_of conjugate_of
beside_square Id = refl
beside_square X = refl
beside_square Y = refl
beside_square Z = refl
beside_square H = refl
beside_square S = refl
beside_square Sdg = refl
beside_square T = refl
beside_square Tdg = refl
beside_square RxP = refl
beside_square RxM = refl
beside_square RyP = refl
beside_square RyM = refl
beside_square Cx = refl
beside_square Cz = refl
beside_square Swap = refl
beside_square Ccx = refl
beside_square Cswap = refl
beside_square (Phase j) = refl

beside_real : (k : Kind) → conjugate_of (beside_value k) ≡ beside_value k
unfolding product_of conjugate_of
beside_real Id = refl
beside_real X = refl
beside_real Y = refl
beside_real Z = refl
beside_real H = refl
beside_real S = refl
beside_real Sdg = refl
beside_real T = refl
beside_real Tdg = refl
beside_real RxP = refl
beside_real RxM = refl
beside_real RyP = refl
beside_real RyM = refl
beside_real Cx = refl
beside_real Cz = refl
beside_real Swap = refl
beside_real Ccx = refl
beside_real Cswap = refl
beside_real (Phase j) = refl

abbrev Value : ℕ → Kind → ℕ → ℕ → Quad
Value e k r c = entry_value e k r c

value-none : (k : Kind) (r c : ℕ) → entry_value 0 k r c ≡ own_value k r c
unfolding own_value
value-none k r c = ap (λ a. times_entry a one_quad) (entry-none k r c)

value-one : (e : ℕ) (k : Kind) (r c : ℕ) → entry_value (suc e) k (side_of e k + r) (side_of e k + c) ≡ entry_value e k r c
value-one e k r c = ap (λ a. times_entry a one_quad) (entry-one e k r c)

value-diagonal : (e : ℕ) (k : Kind) (r : ℕ) → r < side_of e k → entry_value (suc e) k r r ≡ beside_value k
value-diagonal e k r h = ap (λ a. times_entry a one_quad) (entry-diagonal e k r h)

value-beside : (e : ℕ) (k : Kind) (r c : ℕ) → (r < side_of e k) ⊎ (c < side_of e k) → r ≢ c → entry_value (suc e) k r c ≡ zero_quad
value-beside e k r c h ne = ap (λ a. times_entry a one_quad) (entry-beside e k r c h ne)

conjugate-zero : conjugate_of zero_quad ≡ zero_quad
unfolding conjugate_of
conjugate-zero = refl

-- a term of which one factor is zero
left_zero : (p q : Quad) → p ≡ zero_quad → product_of p (conjugate_of q) ≡ zero_quad
left_zero p q e = ap (λ x. product_of x (conjugate_of q)) e ∙ product-zero_left (conjugate_of q)

right_zero : (p q : Quad) → q ≡ zero_quad → product_of p (conjugate_of q) ≡ zero_quad
right_zero p q e = ap (λ x. product_of p (conjugate_of x)) e ∙ ap (product_of p) conjugate-zero ∙ product_of-zero p

-- a number is below n, or n and something
abbrev IsPast : ℕ → ℕ → Type 0
IsPast n r = (i : ℕ) × (r ≡ n + i)

below_or_past : (n r : ℕ) → (r < n) ⊎ IsPast n r
below_or_past n r = elim (leb_tells n r) [ inl t ↦ inr (let h = t.1 in (r - n, omega (arith, h))) | inr t ↦ inl t.1 ]

module _ (e : ℕ) (k : Kind) (before : IsUnitary e k) where
  n : ℕ
  n = side_of e k

  whole : ℕ
  whole = side_of (suc e) k

  term_of : ℕ → ℕ → ℕ → Quad
  term_of r s y = product_of (entry_value (suc e) k r y) (conjugate_of (entry_value (suc e) k s y))

  low_row : (r s : ℕ) → r < side_of (suc e) k → r < side_of e k → row_product (suc e) k r s ≡ product_of (entry_value (suc e) k r r) (conjugate_of (entry_value (suc e) k s r))
  unfolding row_product
  low_row r s lt low =
      sum_below-only (side_of (suc e) k) r (λ y. product_of (entry_value (suc e) k r y) (conjugate_of (entry_value (suc e) k s y))) lt
      (λ y less ne. left_zero (entry_value (suc e) k r y) (entry_value (suc e) k s y) (value-beside e k r y (inl low) (λ at. ne (sym at))))

  low_column : (r s : ℕ) → s < side_of (suc e) k → s < side_of e k → row_product (suc e) k r s ≡ product_of (entry_value (suc e) k r s) (conjugate_of (entry_value (suc e) k s s))
  unfolding row_product
  low_column r s lt low =
      sum_below-only (side_of (suc e) k) s (λ y. product_of (entry_value (suc e) k r y) (conjugate_of (entry_value (suc e) k s y))) lt
      (λ y less ne. right_zero (entry_value (suc e) k r y) (entry_value (suc e) k s y) (value-beside e k s y (inl low) (λ at. ne (sym at))))

  past_row : (r s : ℕ) → row_product (suc e) k (side_of e k + r) (side_of e k + s) ≡ row_product e k r s
  unfolding row_product
  past_row r s =
      let m = side_of e k in
      let f = λ (y : ℕ). product_of (entry_value (suc e) k (m + r) y) (conjugate_of (entry_value (suc e) k (m + s) y)) in
      ap (λ i. sum_below i f) (side-suc e k)
      ∙ sum_below-more m m f
      ∙ ap (λ q. sum_of q (sum_below m (λ y. f (m + y))))
      (sum_below-none m f (λ y lt. left_zero (entry_value (suc e) k (m + r) y) (entry_value (suc e) k (m + s) y) (value-beside e k (m + r) y (inr lt) (λ at. omega (arith, at, lt)))))
      ∙ zero-sum_of (sum_below m (λ y. f (m + y)))
      ∙ sum_below-same m (λ y. f (m + y)) (λ y. product_of (entry_value e k r y) (conjugate_of (entry_value e k s y)))
      (λ y. ap₂ (λ a b. product_of a (conjugate_of b)) (value-one e k r y) (value-one e k s y))

  with_control : IsUnitary (suc e) k
  with_control r s lr ls = by (below_or_past (side_of e k) r) (below_or_past (side_of e k) s)
    where
      by : (r < side_of e k) ⊎ IsPast (side_of e k) r → (s < side_of e k) ⊎ IsPast (side_of e k) s → row_product (suc e) k r s ≡ identity_entry k r s
      by (inl low) h = low_row r s lr low ∙ elim (cases_eq r s) [
        | inl at ↦
            ap₂ (λ a b. product_of a (conjugate_of b)) (value-diagonal e k r low) (ap (λ i. entry_value (suc e) k i r) (sym at) ∙ value-diagonal e k r low)
            ∙ beside_square k ∙ sym (identity-same k r) ∙ ap (identity_entry k r) at
        | inr ne ↦
            right_zero (entry_value (suc e) k r r) (entry_value (suc e) k s r) (value-beside e k s r (inr low) (λ at. ne (sym at)))
            ∙ sym (identity-other k r s ne)
      ]
      by (inr (i, at)) (inl low) =
          let ne : r ≢ s = λ same. omega (arith, same, at, low) in
          low_column r s ls low ∙ left_zero (entry_value (suc e) k r s) (entry_value (suc e) k s s) (value-beside e k r s (inr low) ne) ∙ sym (identity-other k r s ne)
      by (inr (i, ar)) (inr (j, as_)) =
          let size = side-suc e k in
          ap₂ (row_product (suc e) k) ar as_ ∙ past_row i j ∙ before i j (omega (arith, ar, lr, size)) (omega (arith, as_, ls, size))
          ∙ sym (identity-moved k (side_of e k) i j) ∙ ap₂ (identity_entry k) (sym ar) (sym as_)

pub unitary : (e : ℕ) (k : Kind) → IsKind k → IsUnitary e k
unfolding row_product own_product
unitary zero k h r s lr ls =
    let size = side-none k in
    ap (λ i. sum_below i (λ y. product_of (entry_value 0 k r y) (conjugate_of (entry_value 0 k s y)))) size
    ∙ sum_below-same (2 ^ arity_of k) _ _ (λ y. ap₂ (λ a b. product_of a (conjugate_of b)) (value-none k r y) (value-none k s y))
    ∙ own_unitary k h r s (omega (arith, size, lr)) (omega (arith, size, ls))
unitary (suc e) k h r s lr ls = with_control e k (unitary e k h) r s lr ls

beside_inverse : (k : Kind) → beside (inverse_of k) ≡ beside k
beside_inverse k = ap (λ p. cond (p == 0) (Omega 0) Root2) (halves k)

side-inverse : (e : ℕ) (k : Kind) → side_of e (inverse_of k) ≡ side_of e k
side-inverse e k = ap (λ a. 2 ^ (e + a)) (arity_of-inverse_of k)

module _ (e : ℕ) (k : Kind) (before : (r s : ℕ) → r < side_of e k → s < side_of e k → entry_value e (inverse_of k) r s ≡ conjugate_of (entry_value e k s r)) where
  turned_control : (r s : ℕ) → r < side_of (suc e) k → s < side_of (suc e) k → entry_value (suc e) (inverse_of k) r s ≡ conjugate_of (entry_value (suc e) k s r)
  turned_control r s lr ls = by (below_or_past (side_of e k) r) (below_or_past (side_of e k) s)
    where
      l : Kind
      l = inverse_of k

      off : (r < side_of e k) ⊎ (s < side_of e k) → r ≢ s → entry_value (suc e) (inverse_of k) r s ≡ conjugate_of (entry_value (suc e) k s r)
      off h ne =
          let size = side-inverse e k in
          value-beside e (inverse_of k) r s (moved size h) ne
          ∙ sym (ap conjugate_of (value-beside e k s r (swapped h) (λ at. ne (sym at))) ∙ conjugate-zero)
        where
          moved : side_of e (inverse_of k) ≡ side_of e k → (r < side_of e k) ⊎ (s < side_of e k) → (r < side_of e (inverse_of k)) ⊎ (s < side_of e (inverse_of k))
          moved size (inl a) = inl (omega (arith, size, a))
          moved size (inr a) = inr (omega (arith, size, a))

          swapped : (r < side_of e k) ⊎ (s < side_of e k) → (s < side_of e k) ⊎ (r < side_of e k)
          swapped (inl a) = inr a
          swapped (inr a) = inl a

      low : (r < side_of e k) ⊎ (s < side_of e k) → entry_value (suc e) (inverse_of k) r s ≡ conjugate_of (entry_value (suc e) k s r)
      low h = elim (cases_eq r s) [
        | inl at ↦
            let size = side-inverse e k in
            let lt : r < side_of e k = small at h in
            ap (entry_value (suc e) (inverse_of k) r) (sym at)
            ∙ value-diagonal e (inverse_of k) r (omega (arith, size, lt))
            ∙ ap (λ a. times_entry a one_quad) (beside_inverse k)
            ∙ sym (beside_real k)
            ∙ ap conjugate_of (sym (value-diagonal e k r lt) ∙ ap (λ i. entry_value (suc e) k i r) at)
        | inr ne ↦ off h ne
      ]
        where
          small : r ≡ s → (r < side_of e k) ⊎ (s < side_of e k) → r < side_of e k
          small at (inl a) = a
          small at (inr a) = omega (arith, at, a)

      by : (r < side_of e k) ⊎ IsPast (side_of e k) r → (s < side_of e k) ⊎ IsPast (side_of e k) s → entry_value (suc e) (inverse_of k) r s ≡ conjugate_of (entry_value (suc e) k s r)
      by (inl a) h = low (inl a)
      by (inr p) (inl a) = low (inr a)
      by (inr (i, ar)) (inr (j, as_)) =
          let size = side-suc e k in
          let same = side-inverse e k in
          ap₂ (entry_value (suc e) (inverse_of k)) (ar ∙ ap (λ m. m + i) (sym same)) (as_ ∙ ap (λ m. m + j) (sym same))
          ∙ value-one e (inverse_of k) i j
          ∙ before i j (omega (arith, ar, lr, size)) (omega (arith, as_, ls, size))
          ∙ ap conjugate_of (sym (value-one e k j i) ∙ ap₂ (entry_value (suc e) k) (sym as_) (sym ar))

transposed_entries : (e : ℕ) (k : Kind) → IsKind k → (r s : ℕ) → r < side_of e k → s < side_of e k → entry_value e (inverse_of k) r s ≡ conjugate_of (entry_value e k s r)
transposed_entries zero k h r s lr ls =
    let size = side-none k in
    value-none (inverse_of k) r s ∙ own_adjoint k h r s (omega (arith, size, lr)) (omega (arith, size, ls)) ∙ ap conjugate_of (sym (value-none k s r))
transposed_entries (suc e) k h r s lr ls = turned_control e k (transposed_entries e k h) r s lr ls

pub adjoint : (e : ℕ) (k : Kind) → IsKind k → IsAdjoint e k (inverse_of k)
adjoint e k h = record {
  same_arity = arity_of-inverse_of k;
  same_half_power = halves k;
  transposed = transposed_entries e k h;
}
