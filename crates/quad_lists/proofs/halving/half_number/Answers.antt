use Rattle.std.proofs.Common.{rules, pos, FitsSigned, arith}
use Rattle.std.specs.Int.{w128}
use Rattle.std.proofs.lemmas.Int.{ints, quot_is, quot_fits}
use Rattle.quad_lists.proofs.halving.half_number.Goals as goal

pub returns : goal.returns
returns c =
    let f : FitsSigned w128 c.args.z = search rules in
    quot_is w128 c.args.z (pos 2) f (search rules) (quot_fits w128 c.args.z (pos 2) f (omega (arith, ints)))
