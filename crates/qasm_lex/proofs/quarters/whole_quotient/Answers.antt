use Rattle.std.proofs.Common.{◌∙◌, ap, Some, to_z, of_z, arith}
use Rattle.std.specs.Prelude.{int_rem}
use Rattle.std.specs.Int.{w128}
use Rattle.std.proofs.lemmas.Int.{quot_is, quot_fits, to_z-of_z, ints}
use Rattle.qasm_lex.proofs.QuarterLemmas.{quotient_of}
use Rattle.qasm_lex.proofs.quarters.whole_quotient.Goals as goal

pub returns-then-x-by-eq0-clause-only : goal.returns-then-x-by-eq0-clause-only
returns-then-x-by-eq0-clause-only c q e =
    let fits = quot_fits w128 c.args.x c.args.by c.ranges.x (omega (arith, ints)) in
    ap Some (quot_is w128 c.args.x c.args.by c.ranges.x c.ranges.by fits ∙ (quotient_of c.args.x q c.args.by c.requires e).0)

pub returns-else-x-by-eq0-clause-only : goal.returns-else-x-by-eq0-clause-only
returns-else-x-by-eq0-clause-only c q e =
    absurd (c.if-x-by-eq0.false (ap (of_z w128) (
    ap (λ z. int_rem z (to_z w128 (of_z w128 c.args.by))) (to_z-of_z w128 c.args.x c.ranges.x)
    ∙ ap (λ z. int_rem c.args.x z) (to_z-of_z w128 c.args.by c.ranges.by) ∙ (quotient_of c.args.x q c.args.by c.requires e).1)))
