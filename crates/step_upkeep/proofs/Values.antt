-- The bits of an integer in a range, and of a vector whose coefficients lie in it.
use Rattle.std.proofs.Common.{◌≡◌, ◌≢◌, ℕ, zero, suc, ◌+◌, ◌*◌, ◌/◌, ◌%◌, ◌^◌, ◌-◌, ◌≤◌, ℤ, pos, negsuc, ◌+ℤ◌, Bool, true, false, eqb, inl, inr, refl, sym, ◌∙◌, ap, arith, eq-eqb}
use Rattle.std.specs.Prelude.{◌≤ℤ◌, ◌<ℤ◌, neg_ℤ}
use Rattle.std.proofs.lemmas.Bool.{cases_eq, ne_eqb}
use Rattle.std.proofs.lemmas.Int.{ints}
use mathlib.Core.Path.{fun_ext}
use Rattle.ring_omega.specs.declared.quad.Quad.{Quad}
use Rattle.ring_omega.proofs.RingLemmas.{quad_eq}
use Rattle.diagram_model.specs.Functions.{Assignment}
use Rattle.diagram_ops.specs.Connectives.{number}
use Rattle.slice_vec.specs.Digits.{Digits, slice_value, low_sum, IsSteady, shifted}
use Rattle.slice_vec.proofs.DigitLemmas.{twice, value_same}
use Rattle.slice_vec.proofs.Ranges.{value-shifted}
use Rattle.slice_quad.specs.declared.coord.Coord.{Coord}
use Rattle.slice_quad.specs.declared.coord.Coord.TheVariants.{A, B, C, D}
use Rattle.slice_quad.specs.Bits.{int_bit, bits_of}
use Rattle.slice_quad.proofs.BitLemmas.{is_odd, half_down, bit_down, bit_is}
use Rattle.slice_quad.specs.Mix.{Vector, vector_of}
use Rattle.slice_quad.specs.Settled.{doubled}
use Rattle.slice_quad.specs.Turns.{coordinate}
use Rattle.slice_quad.specs.Vectors.{FitsWidth}
use Rattle.slice_quad.proofs.MixLemmas.{coordinate-vector}

-- ---- integers
-- an integer is its lowest bit and twice its half, rounded down
whole_is : (n : ℕ) (b : Bool) → eqb (n % 2) 1 ≡ b → pos n ≡ pos (number b) +ℤ (pos (n / 2) +ℤ pos (n / 2))
whole_is n b e = elim (cases_eq (n % 2) 1) [ inl at ↦ set at | inr ne ↦ clear ne ]
  where
    set : n % 2 ≡ 1 → pos n ≡ pos (number b) +ℤ (pos (n / 2) +ℤ pos (n / 2))
    set at =
        let h : pos n ≡ pos (number true) +ℤ (pos (n / 2) +ℤ pos (n / 2)) = omega (arith, ints, at) in
        h ∙ ap (λ c. pos (number c) +ℤ (pos (n / 2) +ℤ pos (n / 2))) (sym (eq-eqb (n % 2) 1 at) ∙ e)

    clear : n % 2 ≢ 1 → pos n ≡ pos (number b) +ℤ (pos (n / 2) +ℤ pos (n / 2))
    clear ne =
        let h : pos n ≡ pos (number false) +ℤ (pos (n / 2) +ℤ pos (n / 2)) = omega (arith, ints, ne) in
        h ∙ ap (λ c. pos (number c) +ℤ (pos (n / 2) +ℤ pos (n / 2))) (sym (ne_eqb (n % 2) 1 ne) ∙ e)

below_is : (n : ℕ) (b : Bool) → eqb (n % 2) 0 ≡ b → negsuc n ≡ pos (number b) +ℤ (negsuc (n / 2) +ℤ negsuc (n / 2))
below_is n b e = elim (cases_eq (n % 2) 0) [ inl at ↦ set at | inr ne ↦ clear ne ]
  where
    set : n % 2 ≡ 0 → negsuc n ≡ pos (number b) +ℤ (negsuc (n / 2) +ℤ negsuc (n / 2))
    set at =
        let h : negsuc n ≡ pos (number true) +ℤ (negsuc (n / 2) +ℤ negsuc (n / 2)) = omega (arith, ints, at) in
        h ∙ ap (λ c. pos (number c) +ℤ (negsuc (n / 2) +ℤ negsuc (n / 2))) (sym (eq-eqb (n % 2) 0 at) ∙ e)

    clear : n % 2 ≢ 0 → negsuc n ≡ pos (number b) +ℤ (negsuc (n / 2) +ℤ negsuc (n / 2))
    clear ne =
        let h : negsuc n ≡ pos (number false) +ℤ (negsuc (n / 2) +ℤ negsuc (n / 2)) = omega (arith, ints, ne) in
        h ∙ ap (λ c. pos (number c) +ℤ (negsuc (n / 2) +ℤ negsuc (n / 2))) (sym (ne_eqb (n % 2) 0 ne) ∙ e)

halving : (v : ℤ) → v ≡ pos (number (is_odd v)) +ℤ (half_down v +ℤ half_down v)
halving (pos n) = whole_is n (eqb (n % 2) 1) refl
halving (negsuc n) = below_is n (eqb (n % 2) 0) refl

-- a signed number of m + 1 bits
pub record IsIn (m : ℕ) (v : ℤ) : Type 0 where
  pub low : neg_ℤ (pos (2 ^ m)) ≤ℤ v
  pub high : v <ℤ pos (2 ^ m)

bit_range : (b : Bool) → number b ≤ 1
bit_range true = omega arith
bit_range false = omega arith

half_in : (m : ℕ) (v h : ℤ) (b p q : ℕ) → b ≤ 1 → v ≡ pos b +ℤ (h +ℤ h) → q ≡ 2 * p → neg_ℤ (pos q) ≤ℤ v → v <ℤ pos q → (neg_ℤ (pos p) ≤ℤ h) × (h <ℤ pos p)
half_in m v h b p q few e two low high = (omega (arith, ints), omega (arith, ints))

halves_in : (m : ℕ) (v : ℤ) → IsIn (suc m) v → IsIn m (half_down v)
halves_in m v h =
    let two : 2 ^ suc m ≡ 2 * 2 ^ m = omega (arith, twice m 1) in
    let r = half_in m v (half_down v) (number (is_odd v)) (2 ^ m) (2 ^ suc m) (bit_range (is_odd v)) (halving v) two h.low h.high in
    record { low = r.0; high = r.1 }

-- 0 and -1 have all bits alike
of_zero : (i : ℕ) → bit_down i (pos 0) ≡ false
unfolding bit_down
of_zero zero = refl
of_zero (suc i) = of_zero i

of_minus_one : (i : ℕ) → bit_down i (negsuc 0) ≡ true
unfolding bit_down
of_minus_one zero = refl
of_minus_one (suc i) = of_minus_one i

-- the bits of an integer, everywhere
abbrev constant_bits : ℤ → Digits
constant_bits v i x = bit_down i v

one_bit : (v : ℤ) (x : Assignment) → IsIn 0 v → slice_value 0 (constant_bits v) x ≡ v
unfolding slice_value low_sum bit_down
one_bit (pos zero) x h = omega (arith, ints)
one_bit (pos (suc n)) x h = absurd (omega (arith, ints, h.high))
one_bit (negsuc zero) x h = omega (arith, ints)
one_bit (negsuc (suc n)) x h = absurd (omega (arith, ints, h.low))

-- they stand for it
value_is : (m : ℕ) (v : ℤ) (x : Assignment) → IsIn m v → slice_value m (constant_bits v) x ≡ v
unfolding shifted bit_down
value_is zero v x h = one_bit v x h
value_is (suc m) v x h =
    let half = value_is m (half_down v) x (halves_in m v h) in
    let rest : slice_value m (shifted (constant_bits v)) x ≡ half_down v = rest_is half in
    value-shifted m (constant_bits v) x ∙ ap (λ (z : ℤ). pos (number (bit_down 0 v)) +ℤ (z +ℤ z)) rest ∙ first
  where
    rest_is : slice_value m (constant_bits (half_down v)) x ≡ half_down v → slice_value m (shifted (constant_bits v)) x ≡ half_down v
    rest_is e = e

    first : pos (number (bit_down 0 v)) +ℤ (half_down v +ℤ half_down v) ≡ v
    first = sym (halving v)

-- from the sign on they are all alike
steady_is : (m i : ℕ) (v : ℤ) → IsIn m v → m ≤ i → bit_down (suc i) v ≡ bit_down i v
unfolding bit_down
steady_is zero i (pos zero) h le = of_zero (suc i) ∙ sym (of_zero i)
steady_is zero i (pos (suc n)) h le = absurd (omega (arith, ints, h.high))
steady_is zero i (negsuc zero) h le = of_minus_one (suc i) ∙ sym (of_minus_one i)
steady_is zero i (negsuc (suc n)) h le = absurd (omega (arith, ints, h.low))
steady_is (suc m) zero v h le = absurd (omega (arith, le))
steady_is (suc m) (suc i) v h le = steady_is m i (half_down v) (halves_in m v h) (omega (arith, le))

-- twice an integer has its bits one place later
half_twice : (z v : ℤ) → v ≡ z +ℤ z → half_down v ≡ z
half_twice z (pos n) e = omega (arith, ints, e)
half_twice z (negsuc n) e = omega (arith, ints, e)

doubled_down : (t i : ℕ) (v : ℤ) → bit_down (i + t) (doubled t v) ≡ bit_down i v
unfolding doubled bit_down
doubled_down zero i v = ap (λ k. bit_down k v) (let e : i + 0 ≡ i = omega arith in e)
doubled_down (suc t) i v =
    ap (λ k. bit_down k (doubled t (v +ℤ v))) (let e : i + suc t ≡ suc i + t = omega arith in e) ∙ doubled_down t (suc i) (v +ℤ v) ∙ once
  where
    once : bit_down (suc i) (v +ℤ v) ≡ bit_down i v
    once = ap (bit_down i) (half_twice v (v +ℤ v) refl)

pub doubled_bit : (t i : ℕ) (v : ℤ) → int_bit (i + t) (doubled t v) ≡ int_bit i v
doubled_bit t i v = bit_is (i + t) (doubled t v) ∙ doubled_down t i v ∙ sym (bit_is i v)

-- ---- vectors
-- each coefficient is a signed number of m + 1 bits
abbrev pub AreIn : ℕ → Vector → Type 0
AreIn m v = (z : Coord) (x : Assignment) → IsIn m (coordinate z (v x))

pub steady_vector : (m : ℕ) (v : Vector) → AreIn m v → (z : Coord) → IsSteady m (bits_of v z)
unfolding bits_of
steady_vector m v h z i le = fun_ext (λ x. bit_is (suc i) (coordinate z (v x)) ∙ steady_is m i (coordinate z (v x)) (h z x) le ∙ sym (bit_is i (coordinate z (v x))))

coordinates_same : (p q : Quad) → ((z : Coord) → coordinate z p ≡ coordinate z q) → p ≡ q
coordinates_same p q h = quad_eq p q (h A) (h B) (h C) (h D)

pub vector_back : (m : ℕ) (v : Vector) → AreIn m v → vector_of m (bits_of v) ≡ v
unfolding bits_of
vector_back m v h = fun_ext (λ x. coordinates_same (vector_of m (bits_of v) x) (v x) (λ z. coordinate-vector m (bits_of v) z x ∙ at z x))
  where
    at : (z : Coord) (x : Assignment) → slice_value m (bits_of v z) x ≡ coordinate z (v x)
    at z x = value_same m (bits_of v z) (constant_bits (coordinate z (v x))) x (λ i. bit_is i (coordinate z (v x))) ∙ value_is m (coordinate z (v x)) x (h z x)

pub fits_in : (w m : ℕ) (v : Vector) → w ≡ suc m → FitsWidth w v → AreIn m v
fits_in w m v e h z x =
    let r = h z x in
    let k : w - 1 ≡ m = omega (arith, e) in
    record { low = rw (sym k) r.low; high = rw (sym k) r.high }
