-- Fractions in lowest terms.
use Rattle.std.proofs.Common.{◌≡◌, ◌∙◌, sym, ap, refl, ◌≤◌, ◌<◌, ℕ, zero, suc, ◌*◌, ◌/◌, true, false, arith, subst, ℤ, pos, negsuc, neg_ℤ, ◌≤ℤ◌, ◌<ℤ◌, ◌*ℤ◌, unsigned_abs, int_div, FitsSigned, nat_eq, ◌^◌, ◌-ℤ◌, to_z, of_z}
use Rattle.std.specs.Int.{w64, w128}
use Rattle.std.specs.Int.Signed.{lt_z}
use Rattle.std.proofs.lemmas.Int.{to_z-of_z, fits_signed_from_abs, ints}
use Rattle.std.proofs.Math.Nat.{mul-pos, mul_comm, mul_assoc, zero-mul, div-mul_cancel}
use Rattle.std.proofs.Math.IntN.{pos-*ℤ-pos, negsuc-*ℤ-pos}
use Rattle.std.specs.Int.{IsGcd}
use Prim.Native.Nat.{◌∣◌}
use Rattle.qasm_lex.specs.Fractions.{Ratio, greatest_divisor, lowest, IsReduced, most}
use Rattle.qasm_lex.proofs.Divisors.{greatest_divisor-gcd, greatest_divisor-lowest, greatest_divisor-swap, greatest_divisor-one, divided_some, lowest_of_equal}

unsigned_abs-neg : (n : ℕ) → unsigned_abs (neg_ℤ (pos n)) ≡ n
unsigned_abs-neg zero = refl
unsigned_abs-neg (suc n) = refl

pub unsigned_abs-opposite : (z : ℤ) → unsigned_abs (neg_ℤ z) ≡ unsigned_abs z
unsigned_abs-opposite (pos zero) = refl
unsigned_abs-opposite (pos (suc n)) = refl
unsigned_abs-opposite (negsuc n) = refl

pub unsigned_abs-div : (z : ℤ) (g : ℕ) → unsigned_abs (int_div z (pos g)) ≡ unsigned_abs z / g
unsigned_abs-div (pos n) g = refl
unsigned_abs-div (negsuc n) g = unsigned_abs-neg (suc n / g)

pub positive_abs : (z : ℤ) → pos 1 ≤ℤ z → 0 < unsigned_abs z
positive_abs z h = omega (arith, ints)

pub abs_below : (z : ℤ) → pos 1 ≤ℤ z → FitsSigned w128 z → unsigned_abs z < 2 ^ 127
abs_below z h f = omega (arith, ints)

positive_div : (d : ℤ) (g : ℕ) → pos 1 ≤ℤ d → 0 < unsigned_abs d / g → pos 1 ≤ℤ int_div d (pos g)
positive_div (pos n) g h p = omega (arith, ints)
positive_div (negsuc n) g h p = absurd (omega (arith, ints))

-- the denominator in lowest terms is positive
pub lowest_positive : (n d : ℤ) → pos 1 ≤ℤ d → pos 1 ≤ℤ int_div d (pos (greatest_divisor (unsigned_abs n) (unsigned_abs d)))
lowest_positive n d h =
    let g = greatest_divisor-gcd (unsigned_abs n) (unsigned_abs d) (positive_abs d h) in
    positive_div d _ h (divided_some (unsigned_abs d) _ (positive_abs d h) g.1)

-- and the parts have no common divisor
pub lowest_coprime : (n d : ℤ) → pos 1 ≤ℤ d
    → greatest_divisor (unsigned_abs (int_div n (pos (greatest_divisor (unsigned_abs n) (unsigned_abs d))))) (unsigned_abs (int_div d (pos (greatest_divisor (unsigned_abs n) (unsigned_abs d))))) ≡ 1
lowest_coprime n d h =
    let g = greatest_divisor (unsigned_abs n) (unsigned_abs d) in
    rw (unsigned_abs-div n g, unsigned_abs-div d g) (greatest_divisor-lowest (unsigned_abs n) (unsigned_abs d) (positive_abs d h))

-- the product of two denominators
pub product_positive : (a b : ℤ) → pos 1 ≤ℤ a → pos 1 ≤ℤ b → pos 1 ≤ℤ (a *ℤ b)
product_positive (pos a) (pos b) p q = let pa : 0 < a = omega (arith, ints) in let pb : 0 < b = omega (arith, ints) in let m = mul-pos pa pb in omega (arith, ints)
product_positive (pos a) (negsuc b) p q = absurd (omega (arith, ints))
product_positive (negsuc a) b p q = absurd (omega (arith, ints))

pub negative_reduced : (n d : ℤ) → IsReduced n d → IsReduced (neg_ℤ n) d
negative_reduced n d r = record {
  positive = r.positive;
  num_narrow = subst (λ x. x ≤ most) (sym (unsigned_abs-opposite n)) r.num_narrow;
  den_narrow = r.den_narrow;
  lowest_terms = ap (λ x. greatest_divisor x (unsigned_abs d)) (unsigned_abs-opposite n) ∙ r.lowest_terms;
}

pub reciprocal_reduced : (n d : ℤ) → IsReduced n d → pos 1 ≤ℤ n → IsReduced d n
reciprocal_reduced n d r p = record {
  positive = p;
  num_narrow = r.den_narrow;
  den_narrow = r.num_narrow;
  lowest_terms = greatest_divisor-swap (unsigned_abs d) (unsigned_abs n) (positive_abs d r.positive) (positive_abs n p) ∙ r.lowest_terms;
}

pub whole_reduced : (n : ℤ) → unsigned_abs n ≤ most → IsReduced n (pos 1)
whole_reduced n h = record { positive = omega (arith, ints); num_narrow = h; den_narrow = omega arith; lowest_terms = greatest_divisor-one (unsigned_abs n) }

pub negative_reciprocal_reduced : (n d : ℤ) → IsReduced n d → n <ℤ pos 0 → IsReduced (neg_ℤ d) (neg_ℤ n)
negative_reciprocal_reduced (pos n) d r h = absurd (omega (arith, ints))
negative_reciprocal_reduced (negsuc n) d r h = negative_reduced d (pos (suc n)) (reciprocal_reduced (pos (suc n)) d (record { positive = r.positive; num_narrow = r.num_narrow; den_narrow = r.den_narrow; lowest_terms = r.lowest_terms }) (omega (arith, ints)))

-- what the code's casts and operations give
pub divided_is : (r x k : ℤ) (g : ℕ) → FitsSigned w128 r → FitsSigned w128 x → FitsSigned w128 k
    → r ≡ int_div (to_z w128 (of_z w128 x)) (to_z w128 (of_z w128 k)) → k ≡ pos g → to_z w128 (of_z w128 r) ≡ int_div x (pos g)
divided_is r x k g fr fx fk e f =
    to_z-of_z w128 r fr ∙ e ∙ ap (λ z. int_div z (to_z w128 (of_z w128 k))) (to_z-of_z w128 x fx) ∙ ap (λ z. int_div x z) (to_z-of_z w128 k fk ∙ f)

pub kept_is : (x : ℤ) → unsigned_abs x ≤ most → to_z w64 (of_z w64 x) ≡ x
kept_is x h = to_z-of_z w64 x (fits_signed_from_abs w64 x (omega arith))

pub negated_is : (x : ℤ) → unsigned_abs x ≤ most → to_z w64 (of_z w64 (pos 0 -ℤ to_z w64 (of_z w64 x))) ≡ neg_ℤ x
negated_is x h = omega (arith, ints)

pub common_is : (k n d : ℤ) → FitsSigned w128 n → FitsSigned w128 d → k ≡ pos (greatest_divisor (unsigned_abs (to_z w128 (of_z w128 n))) (unsigned_abs (to_z w128 (of_z w128 d))))
    → k ≡ pos (greatest_divisor (unsigned_abs n) (unsigned_abs d))
common_is k n d fn fd e =
    e ∙ ap (λ x. pos (greatest_divisor (unsigned_abs x) (unsigned_abs (to_z w128 (of_z w128 d))))) (to_z-of_z w128 n fn)
    ∙ ap (λ y. pos (greatest_divisor (unsigned_abs n) (unsigned_abs y))) (to_z-of_z w128 d fd)

-- what a test of the sign tells
pub tested_negative : (x : ℤ) → unsigned_abs x ≤ most → lt_z (to_z w64 (of_z w64 x)) (pos 0) ≡ true → x <ℤ pos 0
tested_negative x h t = grind (arith, ints)

pub tested_positive : (x : ℤ) → unsigned_abs x ≤ most → nat_eq (unsigned_abs x) 0 ≡ false → lt_z (to_z w64 (of_z w64 x)) (pos 0) ≡ false → pos 1 ≤ℤ x
tested_positive x h z t = grind (arith, ints)

opposite_times : (k g : ℕ) → neg_ℤ (pos k) *ℤ pos g ≡ neg_ℤ (pos (k * g))
opposite_times zero g = pos-*ℤ-pos 0 g ∙ ap pos (zero-mul g) ∙ sym (ap (λ n. neg_ℤ (pos n)) (zero-mul g))
opposite_times (suc k) g = negsuc-*ℤ-pos k g

-- a division that leaves nothing
exact_div : (z : ℤ) (g : ℕ) → g ∣ unsigned_abs z → int_div z (pos g) *ℤ pos g ≡ z
exact_div (pos n) g h = pos-*ℤ-pos (n / g) g ∙ ap pos (div-mul_cancel g h)
exact_div (negsuc n) g h = opposite_times (suc n / g) g ∙ ap (λ k. neg_ℤ (pos k)) (div-mul_cancel g h)

swapped : (m x y : ℕ) → m * (x * y) ≡ m * y * x
swapped m x y = ap (λ n. m * n) (mul_comm x y) ∙ sym (mul_assoc m y x)

crossed : (a : ℤ) (x y : ℕ) → a *ℤ (pos x *ℤ pos y) ≡ (a *ℤ pos y) *ℤ pos x
crossed (pos m) x y =
    ap (λ z. pos m *ℤ z) (pos-*ℤ-pos x y) ∙ pos-*ℤ-pos m (x * y) ∙ ap pos (swapped m x y)
    ∙ sym (pos-*ℤ-pos (m * y) x) ∙ ap (λ z. z *ℤ pos x) (sym (pos-*ℤ-pos m y))
crossed (negsuc m) x y =
    ap (λ z. negsuc m *ℤ z) (pos-*ℤ-pos x y) ∙ negsuc-*ℤ-pos m (x * y) ∙ ap (λ n. neg_ℤ (pos n)) (swapped (suc m) x y)
    ∙ sym (opposite_times (suc m * y) x) ∙ ap (λ z. z *ℤ pos x) (sym (negsuc-*ℤ-pos m y))

-- lowest terms have the same value
pub lowest_value : (n d : ℤ) → pos 1 ≤ℤ d → (lowest n d).num *ℤ d ≡ n *ℤ (lowest n d).den
unfolding lowest
lowest_value n (pos d) h =
    let k = greatest_divisor (unsigned_abs n) d in
    let g = greatest_divisor-gcd (unsigned_abs n) d (positive_abs (pos d) h) in
    ap (λ z. int_div n (pos k) *ℤ z) (sym (exact_div (pos d) k g.1))
    ∙ crossed (int_div n (pos k)) (d / k) k
    ∙ ap (λ z. z *ℤ pos (d / k)) (exact_div n k g.0)
lowest_value n (negsuc d) h = absurd (omega (arith, ints))

pub lowest_den : (n d : ℤ) → pos 1 ≤ℤ d → pos 1 ≤ℤ (lowest n d).den
unfolding lowest
lowest_den n d h = lowest_positive n d h

-- and no common divisor but 1
pub lowest_gcd : (n d : ℤ) → pos 1 ≤ℤ d → IsGcd (unsigned_abs (lowest n d).num) (unsigned_abs (lowest n d).den) 1
unfolding lowest
lowest_gcd n d h =
    let a = unsigned_abs (int_div n (pos (greatest_divisor (unsigned_abs n) (unsigned_abs d)))) in
    let b = unsigned_abs (int_div d (pos (greatest_divisor (unsigned_abs n) (unsigned_abs d)))) in
    let p = positive_abs (int_div d (pos (greatest_divisor (unsigned_abs n) (unsigned_abs d)))) (lowest_positive n d h) in
    subst (λ g. IsGcd a b g) (lowest_coprime n d h) (greatest_divisor-gcd a b p)

no_opposite : (x y : ℕ) → 0 < y → pos x ≡ neg_ℤ (pos y) → ⊥
no_opposite x zero p e = absurd (omega arith)
no_opposite x (suc y) p e = absurd cc

opposite_same : (x y : ℕ) → neg_ℤ (pos x) ≡ neg_ℤ (pos y) → x ≡ y
opposite_same x y e = sym (unsigned_abs-neg x) ∙ ap unsigned_abs e ∙ unsigned_abs-neg y

natural_same : (x y : ℕ) → pos x ≡ pos y → x ≡ y
natural_same x y e = cc

parts_same : (f : ℕ → ℤ) (p q r s : ℕ) → (p ≡ q) × (r ≡ s) → ◌≡◌ {A = Ratio} (record { num = f p; den = pos r }) (record { num = f q; den = pos s })
parts_same f p q r s e = ap {B = Ratio} (λ x. record { num = f x; den = pos r }) e.0 ∙ ap {B = Ratio} (λ x. record { num = f q; den = pos x }) e.1

-- fractions of one value have the same lowest terms
pub lowest_same : (n d m e : ℤ) → pos 1 ≤ℤ d → pos 1 ≤ℤ e → n *ℤ e ≡ m *ℤ d → lowest n d ≡ lowest m e
unfolding lowest
lowest_same n (negsuc d) m e p q s = absurd (omega (arith, ints))
lowest_same n (pos d) m (negsuc e) p q s = absurd (omega (arith, ints))
lowest_same (pos a) (pos d) (pos b) (pos e) p q s =
    parts_same pos (a / greatest_divisor a d) (b / greatest_divisor b e) (d / greatest_divisor a d) (e / greatest_divisor b e)
    (lowest_of_equal a d b e (positive_abs (pos d) p) (positive_abs (pos e) q) (natural_same (a * e) (b * d) (sym (pos-*ℤ-pos a e) ∙ s ∙ pos-*ℤ-pos b d)))
lowest_same (negsuc a) (pos d) (negsuc b) (pos e) p q s =
    parts_same (λ x. neg_ℤ (pos x)) (suc a / greatest_divisor (suc a) d) (suc b / greatest_divisor (suc b) e) (d / greatest_divisor (suc a) d) (e / greatest_divisor (suc b) e)
    (lowest_of_equal (suc a) d (suc b) e (positive_abs (pos d) p) (positive_abs (pos e) q) (opposite_same (suc a * e) (suc b * d) (sym (negsuc-*ℤ-pos a e) ∙ s ∙ negsuc-*ℤ-pos b d)))
lowest_same (pos a) (pos d) (negsuc b) (pos e) p q s =
    absurd (no_opposite (a * e) (suc b * d) (mul-pos (omega arith) (positive_abs (pos d) p)) (sym (pos-*ℤ-pos a e) ∙ s ∙ negsuc-*ℤ-pos b d))
lowest_same (negsuc a) (pos d) (pos b) (pos e) p q s =
    absurd (no_opposite (b * d) (suc a * e) (mul-pos (omega arith) (positive_abs (pos e) q)) (sym (pos-*ℤ-pos b d) ∙ sym s ∙ negsuc-*ℤ-pos a e))
