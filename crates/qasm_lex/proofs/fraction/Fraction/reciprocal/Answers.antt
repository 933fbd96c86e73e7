use Rattle.std.proofs.Common.{◌∙◌, ap, sym, subst, pos, ◌-ℤ◌, neg_ℤ, to_z, of_z}
use Rattle.std.specs.Int.{w64}
use Rattle.qasm_lex.specs.Fractions.{IsReduced, is_zero}
use Rattle.qasm_lex.proofs.FractionLemmas.{reciprocal_reduced, negative_reciprocal_reduced, kept_is, negated_is, tested_negative, tested_positive}
use Rattle.qasm_lex.proofs.fraction.Fraction.reciprocal.Goals as goal

pub invariant_of-t-3 : goal.invariant_of-t-3
invariant_of-t-3 c =
    let r = c.self.invariant in
    subst (λ n. IsReduced n (to_z w64 (of_z w64 (pos 0 -ℤ to_z w64 (of_z w64 c.self.inside.num))))) (sym (negated_is c.self.inside.den r.den_narrow))
    (subst (λ d. IsReduced (neg_ℤ c.self.inside.den) d) (sym (negated_is c.self.inside.num r.num_narrow))
    (negative_reciprocal_reduced c.self.inside.num c.self.inside.den r (tested_negative c.self.inside.num r.num_narrow c.if-self-lt0.true)))

pub invariant_of-result : goal.invariant_of-result
invariant_of-result c =
    let r = c.self.invariant in
    subst (λ n. IsReduced n (to_z w64 (of_z w64 c.self.inside.num))) (sym (kept_is c.self.inside.den r.den_narrow))
    (subst (λ d. IsReduced c.self.inside.den d) (sym (kept_is c.self.inside.num r.num_narrow))
    (reciprocal_reduced c.self.inside.num c.self.inside.den r (tested_positive c.self.inside.num r.num_narrow (ap is_zero c.self.view_is ∙ c.requires) c.if-self-lt0.false)))
