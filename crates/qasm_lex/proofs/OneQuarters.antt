-- A fraction is one number of quarter turns below two full turns.
use Rattle.std.proofs.Common.{◌≡◌, ◌∙◌, sym, refl, ◌<◌, ℕ, arith, ℤ, pos, ◌≤ℤ◌, ◌+ℤ◌, ◌*ℤ◌}
use Rattle.std.proofs.lemmas.Int.{ints}
use Rattle.qasm_lex.specs.Fractions.{Ratio}
use Rattle.qasm_lex.specs.Quarters.{IsQuarters, IsEighths}
use Rattle.qasm_lex.proofs.QuarterLemmas.{quotient_of}

-- a positive factor can be left out
factor_out : (a b d : ℤ) → pos 1 ≤ℤ d → a *ℤ d ≡ b *ℤ d → a ≡ b
factor_out a b d p e = sym ((quotient_of (a *ℤ d) a d p refl).0) ∙ (quotient_of (a *ℤ d) b d p e).0

-- what is left of a number modulo eight is one
remainder_one : (m k : ℕ) (s t : ℤ) → m < 8 → k < 8 → pos m +ℤ (s *ℤ pos 8) ≡ pos k +ℤ (t *ℤ pos 8) → m ≡ k
remainder_one m k s t a b e = omega (arith, ints)

pub one_quarters : (f : Ratio) (m k : ℕ) → pos 1 ≤ℤ f.den → IsQuarters f m → IsQuarters f k → m ≡ k
one_quarters f m k p a b =
    remainder_one m k a.times b.times a.below b.below (factor_out _ _ f.den p (sym a.same ∙ b.same))

pub one_eighths : (f : Ratio) (m k : ℕ) → pos 1 ≤ℤ f.den → IsEighths f m → IsEighths f k → m ≡ k
one_eighths f m k p a b =
    remainder_one m k a.times b.times a.below b.below (factor_out _ _ f.den p (sym a.same ∙ b.same))
