-- Each angle has an answer, and each fraction is a number of quarter turns or isn't.
use Rattle.std.proofs.Common.{◌≡◌, ◌∙◌, sym, ap, refl, ◌<◌, ◌⊎◌, inl, inr, ℕ, zero, suc, List, [], length, Result, Err, arith, ℤ, pos, negsuc, ◌≤ℤ◌, ◌+ℤ◌, ◌*ℤ◌, int_div, unsigned_abs}
use Rattle.std.specs.Prelude.{int_rem}
use Rattle.std.specs.Int.{int_rem_euclid}
use Rattle.std.proofs.lemmas.Bool.{cases_lt}
use Rattle.std.proofs.lemmas.Int.{ints, quot-rem}
use Rattle.qasm_lex.specs.declared.symbol.Symbol.{Symbol}
use Rattle.qasm_lex.specs.declared.refusal.AngleRefusal.{AngleRefusal}
use Rattle.qasm_lex.specs.declared.refusal.AngleRefusal.TheVariants.{TooLong}
use Rattle.qasm_lex.specs.Fractions.{Ratio}
use Rattle.qasm_lex.specs.Angles.{IsAnswer}
use Rattle.qasm_lex.specs.Quarters.{IsQuarters}
use Rattle.qasm_lex.specs.Private.Descent.{parsed, expr, whole_of, answer_from}
use Rattle.qasm_lex.proofs.AngleLemmas.{answer_is, long_is}
use Rattle.qasm_lex.proofs.QuarterLemmas.{quotient_of, modulo_eight, modulo_eight_natural}

-- symbols have an answer
pub every_answer : (symbols : List Symbol) → (answer : Result Ratio AngleRefusal) × IsAnswer symbols answer
every_answer symbols = elim (cases_lt 64 (length symbols)) [
  | inl h ↦ (Err TooLong, long_is symbols h)
  | inr h ↦ (answer_from (whole_of (parsed [] expr symbols)), answer_is symbols (omega arith))
]

-- what is left of a number modulo eight is below eight
below_eight : (z : ℤ) → unsigned_abs (int_rem_euclid z (pos 8)) < 8
below_eight (pos a) = omega arith
below_eight (negsuc a) = omega arith

-- a multiple of the denominator, and a number of quarter turns
pub quarters_found : (f : Ratio) (q : ℤ) → f.num *ℤ pos 2 ≡ q *ℤ f.den → (m : ℕ) × IsQuarters f m
quarters_found f q e =
    let m = modulo_eight q in (
      unsigned_abs (int_rem_euclid q (pos 8)),
      record {
        below = below_eight q;
        times = m.0;
        same = e ∙ ap (λ z. z *ℤ f.den) (m.1 ∙ ap (λ z. z +ℤ (m.0 *ℤ pos 8)) (sym (modulo_eight_natural q)));
      },
    )

-- a number is 0 or isn't
zero_or_not : (z : ℤ) → (z ≡ pos 0) ⊎ (z ≡ pos 0 → ⊥)
zero_or_not (pos zero) = inl refl
zero_or_not (pos (suc n)) = inr (λ e. omega (arith, ints))
zero_or_not (negsuc n) = inr (λ e. omega (arith, ints))

-- a division that leaves nothing
divided : (q r x : ℤ) → q +ℤ r ≡ x → r ≡ pos 0 → x ≡ q
divided q r x e h = omega (arith, ints)

-- a fraction is a number of quarter turns below two full turns, or none
pub quarters_or_none : (f : Ratio) → pos 1 ≤ℤ f.den → ((m : ℕ) × IsQuarters f m) ⊎ ((m : ℕ) → IsQuarters f m → ⊥)
quarters_or_none f p = elim (zero_or_not (int_rem (f.num *ℤ pos 2) f.den)) [
  | inl h ↦ inl (quarters_found f (int_div (f.num *ℤ pos 2) f.den) (divided _ _ _ (quot-rem (f.num *ℤ pos 2) f.den) h))
  | inr n ↦ inr (λ m i. n (quotient_of (f.num *ℤ pos 2) (pos m +ℤ (i.times *ℤ pos 8)) f.den p i.same).1)
]
