use Rattle.std.proofs.Common.{rules, ◌≡◌, ℤ, pos, negsuc, suc, ◌%◌, nat_eq, sym, ◌∙◌, ap, inl, inr, FitsSigned, of_z, eq-eqb, arith}
use Rattle.std.specs.Int.{w128}
use Rattle.std.specs.Int.Signed.{rem_z}
use Rattle.std.proofs.lemmas.Int.{ints, to_z-of_z}
use Rattle.std.proofs.lemmas.Bool.{cases_eq, ne_eqb}
use Rattle.ring_omega.specs.Lowest.{is_even}
use Rattle.quad_lists.proofs.halving.is_even_number.Goals as goal

remainder : (z : ℤ) → nat_eq (of_z w128 (rem_z z (pos 2))) 0 ≡ is_even z
remainder (pos n) = elim (cases_eq (n % 2) 0) [
  | inl e ↦ eq-eqb (of_z w128 (pos (n % 2))) 0 (omega (arith, ints)) ∙ sym (eq-eqb (n % 2) 0 e)
  | inr ne ↦ ne_eqb (of_z w128 (pos (n % 2))) 0 (λ e. ne (omega (arith, ints))) ∙ sym (ne_eqb (n % 2) 0 ne)
]
remainder (negsuc n) = elim (cases_eq (suc n % 2) 0) [
  | inl e ↦ eq-eqb (of_z w128 (rem_z (negsuc n) (pos 2))) 0 (omega (arith, ints)) ∙ sym (eq-eqb (suc n % 2) 0 e)
  | inr ne ↦ ne_eqb (of_z w128 (rem_z (negsuc n) (pos 2))) 0 (λ e. ne (omega (arith, ints))) ∙ sym (ne_eqb (suc n % 2) 0 ne)
]

pub returns : goal.returns
returns c =
    let f : FitsSigned w128 c.args.z = search rules in
    ap (λ z. nat_eq (of_z w128 (rem_z z (pos 2))) 0) (to_z-of_z w128 c.args.z f) ∙ remainder c.args.z
