-- Which values fit a number of bits, and values by their lowest bit.
use Rattle.std.proofs.Common.{◌≡◌, ℕ, zero, suc, ◌+◌, ◌*◌, ◌^◌, ◌<◌, ◌≤◌, ℤ, pos, ◌+ℤ◌, ◌-ℤ◌, neg_ℤ, Bool, true, false, refl, sym, ◌∙◌, arith}
use Rattle.std.specs.Prelude.{◌<ℤ◌, ◌≤ℤ◌}
use Rattle.std.proofs.lemmas.Int.{ints}
use Rattle.std.proofs.Math.Pow.{pow_mono}
use Rattle.diagram_model.specs.Functions.{Assignment}
use Rattle.diagram_ops.specs.Connectives.{number}
use Rattle.slice_vec.specs.Digits.{Digits, low_sum, slice_value, shifted, IsSteady}
use Rattle.slice_vec.proofs.DigitLemmas.{twice, value-wider}

pub record InRange (m : ℕ) (v : ℤ) : Type 0 where
  pub low : neg_ℤ (pos (2 ^ m)) ≤ℤ v
  pub high : v <ℤ pos (2 ^ m)

bit_le : (p : ℕ) (b : Bool) → p * number b ≤ p
bit_le p true = omega arith
bit_le p false = omega arith

pub low_sum-less : (n : ℕ) (s : Digits) (x : Assignment) → low_sum n s x < 2 ^ n
unfolding low_sum
low_sum-less zero s x = omega arith
low_sum-less (suc n) s x = let h = low_sum-less n s x in let t = twice n 1 in let b = bit_le (2 ^ n) (s n x) in omega (arith, h, t, b)

-- the values of m + 1 bits
pub value-in_range : (m : ℕ) (s : Digits) (x : Assignment) → InRange m (slice_value m s x)
unfolding slice_value
value-in_range m s x =
    let h = low_sum-less m s x in let b = bit_le (2 ^ m) (s m x) in
    record { low = omega (arith, ints, h, b); high = omega (arith, ints, h, b) }

pub range-wider : (m k : ℕ) (v : ℤ) → m ≤ k → InRange m v → InRange k v
range-wider m k v le h =
    let p : 2 ^ m ≤ 2 ^ k = pow_mono le in
    record { low = omega (arith, ints, h.low, p); high = omega (arith, ints, h.high, p) }

top_same : (p l : ℕ) (t b : Bool) → l < p → neg_ℤ (pos p) ≤ℤ (pos (l + p * number b) -ℤ pos (2 * (p * number t))) → (pos (l + p * number b) -ℤ pos (2 * (p * number t))) <ℤ pos p → t ≡ b
top_same p l true true h low high = refl
top_same p l true false h low high = absurd (omega (arith, ints, h, low))
top_same p l false true h low high = absurd (omega (arith, ints, h, high))
top_same p l false false h low high = refl

-- A value that fits one bit less has two equal bits at the top.
pub sign-repeated : (m : ℕ) (s : Digits) (x : Assignment) → InRange m (slice_value (suc m) s x) → s (suc m) x ≡ s m x
unfolding slice_value low_sum
sign-repeated m s x r =
    let t = twice m (number (s (suc m) x)) in
    top_same (2 ^ m) (low_sum m s x) (s (suc m) x) (s m x) (low_sum-less m s x) (omega (arith, ints, r.low, t)) (omega (arith, ints, r.high, t))

low_sum-shifted : (n : ℕ) (s : Digits) (x : Assignment) → low_sum (suc n) s x ≡ number (s 0 x) + 2 * low_sum n (shifted s) x
unfolding low_sum shifted
low_sum-shifted zero s x = omega arith
low_sum-shifted (suc n) s x =
    let h = low_sum-shifted n s x in
    let t = twice n (number (s (suc n) x)) in
    omega (arith, h, t)

-- The value is the lowest bit and twice the value of the others.
pub value-shifted : (m : ℕ) (s : Digits) (x : Assignment) → slice_value (suc m) s x ≡ pos (number (s 0 x)) +ℤ (slice_value m (shifted s) x +ℤ slice_value m (shifted s) x)
unfolding slice_value shifted
value-shifted m s x =
    let h = low_sum-shifted m s x in
    let t = twice m (number (s (suc m) x)) in
    omega (arith, ints, h, t)

-- the same at each width, where the bits are steady
pub value-down : (m : ℕ) (s : Digits) (x : Assignment) → IsSteady m s → slice_value m s x ≡ pos (number (s 0 x)) +ℤ (slice_value m (shifted s) x +ℤ slice_value m (shifted s) x)
value-down m s x h = sym (value-wider m s x (h m (omega arith))) ∙ value-shifted m s x
