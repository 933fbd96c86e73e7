-- Circuits that are the same up to a scalar have the fidelity 1.
use Rattle.std.proofs.Common.{◌≡◌, ℕ, zero, suc, ◌+◌, ◌*◌, ◌^◌, Bool, true, false, ◌&&◌, List, length, replicate, All, refl, sym, ◌∙◌, ap, ℤ, pos, ◌+ℤ◌, ◌-ℤ◌, arith}
use Rattle.std.proofs.Math.Path.{ap₂}
use Rattle.std.proofs.lemmas.Int.{ints}
use Rattle.std.proofs.lemmas.Bool.{cond-true}
use Rattle.std.proofs.lemmas.List.{length-replicate}
use Rattle.ring_omega.specs.declared.quad.Quad.{Quad}
use Rattle.ring_omega.specs.declared.weight.Weight.{Weight}
use Rattle.ring_omega.specs.Ring.{quad, zero_quad, one_quad, root_of_two, sum_of, product_of, conjugate_of, times_power}
use Rattle.ring_omega.specs.Value.{SameValue}
use Rattle.ring_omega.specs.Lowest.{is_even, half}
use Rattle.ring_omega.specs.Weights.{weight, weight_of, weight_quad, lowest_weight_form}
use Rattle.ring_omega.proofs.LowestFormLemmas.{is_even-of_double, half-of_even}
use Rattle.ring_omega.proofs.LowestLemmas.{times_power-root_cancel, times_power-add, times_power-times_power}
use Rattle.ring_omega.proofs.RingLaws.{mul_add, add_mul, sum_of-zero, conjugate_of-product, times_power-right, times_power-left}
use Rattle.ring_omega.proofs.RingLemmas.{times_root-is}
use Rattle.ring_omega.proofs.WeightLemmas.{weight_eq, weight_quad-is}
use Rattle.bit_lists.specs.Lists.{all_lists}
use Rattle.bit_lists.proofs.Places.{pow_double}
use Rattle.gate_set.specs.declared.gate.Gate.{Gate}
use Rattle.gate_set.specs.Shape.{IsOn}
use Rattle.circuit_model.specs.Product.{sum_over, exponent, same_bits}
use Rattle.comparison.specs.Products.{by_position, work_matrix}
use Rattle.comparison.specs.Scalars.{IsUnit, AreSame, Matrix, comparison, compared, corner, IsScalar}
use Rattle.comparison.specs.Steps.{steps_of}
use Rattle.comparison.proofs.ScalarTest.{same-from_scalar, scalar-from_same}
use Rattle.comparison.proofs.Sums.{sum_over_lists-same}
use Rattle.comparison.proofs.Undo.{Decides-same_bits}
use Rattle.comparison.proofs.Values.{IsScalar-same}
use Rattle.comparison.proofs.Working.{work_matrix-value}
use Rattle.fidelity.specs.Traces.{trace_of, fidelity_of}
use Rattle.fidelity.proofs.Diagonal.{in_halves}

abbrev roots : ℕ → Quad → Quad
roots m q = times_power root_of_two m q

-- ---- powers of √2
own_conjugate : conjugate_of root_of_two ≡ root_of_two
unfolding conjugate_of
own_conjugate = refl

conjugate_root : (q : Quad) → conjugate_of (product_of q root_of_two) ≡ product_of (conjugate_of q) root_of_two
conjugate_root q = conjugate_of-product q root_of_two ∙ ap (product_of (conjugate_of q)) own_conjugate

conjugate_roots : (m : ℕ) (q : Quad) → conjugate_of (roots m q) ≡ roots m (conjugate_of q)
conjugate_roots zero q = refl
conjugate_roots (suc m) q = conjugate_root (roots m q) ∙ ap (λ p. product_of p root_of_two) (conjugate_roots m q)

-- the squared magnitude of a power of √2 times a number
square_of_roots : (m : ℕ) (q : Quad) → product_of (roots m q) (conjugate_of (roots m q)) ≡ roots (m + m) (product_of q (conjugate_of q))
square_of_roots m q =
    ap (product_of (roots m q)) (conjugate_roots m q)
    ∙ sym (times_power-left root_of_two m (roots m q) (conjugate_of q))
    ∙ ap (roots m) (sym (times_power-right root_of_two m q (conjugate_of q)))
    ∙ sym (times_power-add root_of_two m m (product_of q (conjugate_of q)))

two_roots : (x : ℤ) → product_of (product_of (quad (pos 0) (pos 0) (pos 0) x) root_of_two) root_of_two ≡ quad (pos 0) (pos 0) (pos 0) (x +ℤ x)
two_roots x =
    ap (λ q. product_of q root_of_two) (times_root-is (quad (pos 0) (pos 0) (pos 0) x))
    ∙ times_root-is (quad (pos 0 -ℤ x) (pos 0 +ℤ pos 0) (pos 0 +ℤ x) (pos 0 -ℤ pos 0))
    ∙ quad_of (omega (arith, ints)) (omega (arith, ints)) (omega (arith, ints)) (omega (arith, ints))
  where
    quad_of : {a b c d e f g h : ℤ} → a ≡ e → b ≡ f → c ≡ g → d ≡ h → quad a b c d ≡ quad e f g h
    quad_of ea eb ec ed = λ i. quad (ea i) (eb i) (ec i) (ed i)

-- an even power of √2 is a power of 2
even_power : (k : ℕ) → roots (k + k) one_quad ≡ quad (pos 0) (pos 0) (pos 0) (pos (2 ^ k))
even_power zero = refl
even_power (suc k) =
    let next : suc k + suc k ≡ suc (suc (k + k)) = omega arith in
    let twice : pos (2 ^ k) +ℤ pos (2 ^ k) ≡ pos (2 ^ suc k) = omega (arith, ints, pow_double k) in
    ap (λ m. roots m one_quad) next
    ∙ ap (λ q. product_of (product_of q root_of_two) root_of_two) (even_power k)
    ∙ two_roots (pos (2 ^ k))
    ∙ ap (quad (pos 0) (pos 0) (pos 0)) twice

-- the weight of a number that has a unit's value over the k-th power of √2
unit_weight : (m : Quad) (k : ℕ) (c : Quad) (e : ℕ) → SameValue m k c e → IsUnit c e → weight_of m ≡ weight (pos (2 ^ k)) (pos 0)
unit_weight m k c e same unit =
    let square : product_of m (conjugate_of m) ≡ roots (k + k) one_quad =
    times_power-root_cancel (e + e) (product_of m (conjugate_of m)) (roots (k + k) one_quad)
    (sym (square_of_roots e m)
    ∙ ap (λ q. product_of q (conjugate_of q)) same
    ∙ square_of_roots k c
    ∙ ap (roots (k + k)) unit
    ∙ times_power-times_power root_of_two (k + k) (e + e) one_quad) in
    let is : weight_quad (weight_of m) ≡ quad (pos 0) (pos 0) (pos 0) (pos (2 ^ k)) = sym (weight_quad-is m) ∙ square ∙ even_power k in
    weight_eq (weight_of m) (weight (pos (2 ^ k)) (pos 0)) (ap (λ (q : Quad). q.d) is) (ap (λ (q : Quad). q.c) is)

-- ---- a sum of 2^n equal numbers
double_weight : (q : Quad) (x : ℤ) → weight_of q ≡ weight x (pos 0) → weight_of (sum_of q q) ≡ weight ((x +ℤ x) +ℤ (x +ℤ x)) (pos 0)
unfolding weight_of sum_of
double_weight q x is =
    let a = ap (λ (w : Weight). w.a) is in
    let b = ap (λ (w : Weight). w.b) is in
    weight_eq _ _ (simp (mul_add, add_mul) (omega (arith, ints))) (simp (mul_add, add_mul) (omega (arith, ints)))

equal_sum : (n k : ℕ) (m : Quad) → weight_of m ≡ weight (pos (2 ^ k)) (pos 0) → weight_of (sum_over (all_lists n) (λ x. m)) ≡ weight (pos (2 ^ (k + 2 * n))) (pos 0)
equal_sum zero k m is =
    let none : k ≡ k + 2 * zero = omega arith in
    ap weight_of (sum_of-zero m) ∙ is ∙ ap (λ (i : ℕ). weight (pos (2 ^ i)) (pos 0)) none
equal_sum (suc n) k m is =
    let i = k + 2 * n in
    let next : suc (suc i) ≡ k + 2 * suc n = omega arith in
    let four : (pos (2 ^ i) +ℤ pos (2 ^ i)) +ℤ (pos (2 ^ i) +ℤ pos (2 ^ i)) ≡ pos (2 ^ suc (suc i)) = omega (arith, ints, pow_double i, pow_double (suc i)) in
    ap weight_of (in_halves n (λ x. m))
    ∙ double_weight (sum_over (all_lists n) (λ x. m)) (pos (2 ^ i)) (equal_sum n k m is)
    ∙ ap (λ x. weight x (pos 0)) four
    ∙ ap (λ (j : ℕ). weight (pos (2 ^ j)) (pos 0)) next

-- ---- lowest forms
same_half : (x y : ℤ) → x +ℤ x ≡ y +ℤ y → x ≡ y
same_half x y e = omega (arith, ints)

zero_even : is_even (pos 0) ≡ true
zero_even = is_even-of_double (pos 0) (pos 0) (omega (arith, ints))

zero_half : half (pos 0) ≡ pos 0
zero_half = same_half (half (pos 0)) (pos 0) (half-of_even (pos 0) zero_even ∙ omega (arith, ints))

lowest_power : (k : ℕ) → lowest_weight_form (weight (pos (2 ^ k)) (pos 0)) k ≡ (weight (pos 1) (pos 0), 0)
unfolding lowest_weight_form
lowest_power zero = refl
lowest_power (suc k) =
    let z = pos (2 ^ suc k) in
    let twice : z ≡ pos (2 ^ k) +ℤ pos (2 ^ k) = omega (arith, ints, pow_double k) in
    let even : is_even z ≡ true = is_even-of_double z (pos (2 ^ k)) twice in
    let halved : half z ≡ pos (2 ^ k) = same_half (half z) (pos (2 ^ k)) (half-of_even z even ∙ twice) in
    cond-true (is_even z && is_even (pos 0)) (lowest_weight_form (weight (half z) (half (pos 0))) k) (weight z (pos 0), suc k) (ap (λ b. b && is_even (pos 0)) even ∙ zero_even)
    ∙ ap₂ (λ x y. lowest_weight_form (weight x y) k) halved zero_half
    ∙ lowest_power k

-- ---- the fidelity
module _ (n : ℕ) (us vs : List Gate) (on_us : All (IsOn n) us) (on_vs : All (IsOn n) vs) where
  abbrev entries : Matrix
  entries = by_position (work_matrix n (steps_of us vs)).entries

  abbrev power : ℕ
  power = (work_matrix n (steps_of us vs)).exponent

  values : (r c : List Bool) → length r ≡ n → length c ≡ n → SameValue (entries r c) power (compared us vs r c) (exponent (comparison us vs))
  values r c lr lc = work_matrix-value n us vs r c on_us on_vs lr lc

  module _ (scalar : IsScalar n (compared us vs)) where
    diagonal : (x : List Bool) → length x ≡ n → entries x x ≡ corner n entries
    diagonal x long =
        IsScalar-same n entries power (compared us vs) (exponent (comparison us vs)) values scalar x x long long
        ∙ cond-true (same_bits x x) (corner n entries) zero_quad ((Decides-same_bits x x).1 refl)

    corner_weight : weight_of (corner n entries) ≡ weight (pos (2 ^ power)) (pos 0)
    corner_weight =
        let long : length (replicate n false) ≡ n = length-replicate n false in
        unit_weight (corner n entries) power (corner n (compared us vs)) (exponent (comparison us vs)) (values (replicate n false) (replicate n false) long long)
        (same-from_scalar n us vs on_us on_vs scalar).unit

    trace_weight : weight_of (trace_of n entries) ≡ weight (pos (2 ^ (power + 2 * n))) (pos 0)
    trace_weight = ap weight_of (sum_over_lists-same n (λ x. entries x x) (λ x. corner n entries) diagonal) ∙ equal_sum n power (corner n entries) corner_weight

    fidelity_of_scalar : fidelity_of n us vs ≡ (weight (pos 1) (pos 0), 0)
    fidelity_of_scalar = ap (λ w. lowest_weight_form w (power + 2 * n)) trace_weight ∙ lowest_power (power + 2 * n)

  pub fidelity_of_equals : AreSame n us vs → fidelity_of n us vs ≡ (weight (pos 1) (pos 0), 0)
  fidelity_of_equals same = fidelity_of_scalar (scalar-from_same n us vs same.0 same.1 same.2 on_vs).0
