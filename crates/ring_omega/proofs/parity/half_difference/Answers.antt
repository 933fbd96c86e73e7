use Rattle.std.proofs.Common.{rules, FitsSigned, ◌≡◌, arith}
use Rattle.std.specs.Int.{w128}
use Rattle.std.proofs.lemmas.Int.{ints}
use Rattle.ring_omega.proofs.parity.half_difference.Goals as goal

pub overflow_sub-result : goal.overflow_sub-result
overflow_sub-result c =
    let fh : FitsSigned w128 c.halves.result.0 = search rules in
    let fk : FitsSigned w128 c.halves-2.result.0 = search rules in
    let same : c.halves.result.1 ≡ c.halves-2.result.1 = omega (arith, ints, c.requires.1) in
    omega (arith, ints, c.requires.1)

pub returns : goal.returns
returns c =
    let fh : FitsSigned w128 c.halves.result.0 = search rules in
    let fk : FitsSigned w128 c.halves-2.result.0 = search rules in
    let same : c.halves.result.1 ≡ c.halves-2.result.1 = omega (arith, ints, c.requires.1) in
    omega (arith, ints, c.requires.1)
