use Rattle.std.proofs.Common.{sym, subst, pos}
use Rattle.std.specs.Int.{w64}
use Rattle.std.proofs.lemmas.Int.{to_z-of_z}
use Rattle.qasm_lex.specs.Fractions.{IsReduced}
use Rattle.qasm_lex.proofs.FractionLemmas.{whole_reduced}
use Rattle.qasm_lex.proofs.fraction.Fraction.whole.Goals as goal

pub invariant_of-result : goal.invariant_of-result
invariant_of-result c = subst (λ z. IsReduced z (pos 1)) (sym (to_z-of_z w64 c.args.n c.ranges.n)) (whole_reduced c.args.n c.requires)
