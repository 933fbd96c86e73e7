-- Whole quotients, and numbers modulo eight.
use Rattle.std.proofs.Common.{◌≡◌, ◌∙◌, sym, ap, refl, ◌<◌, ℕ, zero, suc, ◌*◌, ◌/◌, ◌%◌, arith, ℤ, pos, negsuc, neg_ℤ, ◌≤ℤ◌, ◌+ℤ◌, ◌*ℤ◌, int_div, unsigned_abs}
use Rattle.std.specs.Prelude.{int_rem}
use Rattle.std.specs.Int.{int_rem_euclid}
use Rattle.std.proofs.Math.IntN.{pos-*ℤ-pos, negsuc-*ℤ-pos}
use Rattle.std.proofs.Math.Nat.{mul-div_cancel, mul-mod_left, zero-div}
use Rattle.std.proofs.lemmas.Int.{ints}

div_opposite : (k d : ℕ) → 0 < d → int_div (neg_ℤ (pos k)) (pos d) ≡ neg_ℤ (pos (k / d))
div_opposite zero d p = ap pos (zero-div d) ∙ sym (ap (λ n. neg_ℤ (pos n)) (zero-div d))
div_opposite (suc k) d p = refl

rem_opposite : (k d : ℕ) → k % d ≡ 0 → int_rem (neg_ℤ (pos k)) (pos d) ≡ pos 0
rem_opposite zero d e = ap pos e
rem_opposite (suc k) d e = ap (λ n. neg_ℤ (pos n)) e

div_multiple : (q : ℤ) (d : ℕ) → 0 < d → int_div (q *ℤ pos d) (pos d) ≡ q
div_multiple (pos a) d p = ap (λ z. int_div z (pos d)) (pos-*ℤ-pos a d) ∙ ap pos (mul-div_cancel a p)
div_multiple (negsuc a) d p = ap (λ z. int_div z (pos d)) (negsuc-*ℤ-pos a d) ∙ div_opposite (suc a * d) d p ∙ ap (λ n. neg_ℤ (pos n)) (mul-div_cancel (suc a) p)

rem_multiple : (q : ℤ) (d : ℕ) → int_rem (q *ℤ pos d) (pos d) ≡ pos 0
rem_multiple (pos a) d = ap (λ z. int_rem z (pos d)) (pos-*ℤ-pos a d) ∙ ap pos (mul-mod_left a d)
rem_multiple (negsuc a) d = ap (λ z. int_rem z (pos d)) (negsuc-*ℤ-pos a d) ∙ rem_opposite (suc a * d) d (mul-mod_left (suc a) d)

-- a multiple of a positive number has that quotient, and no remainder
pub quotient_of : (x q by : ℤ) → pos 1 ≤ℤ by → x ≡ q *ℤ by → (int_div x by ≡ q) × (int_rem x by ≡ pos 0)
quotient_of x q (pos d) h e = let p : 0 < d = omega (arith, ints) in (ap (λ z. int_div z (pos d)) e ∙ div_multiple q d p, ap (λ z. int_rem z (pos d)) e ∙ rem_multiple q d)
quotient_of x q (negsuc d) h e = absurd (omega (arith, ints))

-- a number is what is left of it modulo eight, and a multiple of eight
pub modulo_eight : (z : ℤ) → (k : ℤ) × (z ≡ int_rem_euclid z (pos 8) +ℤ (k *ℤ pos 8))
modulo_eight (pos a) = (pos (a / 8), omega (arith, ints))
modulo_eight (negsuc a) = (negsuc (a / 8), omega (arith, ints))

-- what is left is not negative
pub modulo_eight_natural : (z : ℤ) → pos (unsigned_abs (int_rem_euclid z (pos 8))) ≡ int_rem_euclid z (pos 8)
modulo_eight_natural (pos a) = refl
modulo_eight_natural (negsuc a) = refl
