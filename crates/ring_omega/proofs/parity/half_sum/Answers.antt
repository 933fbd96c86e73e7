use Rattle.std.proofs.Common.{rules, FitsSigned, ◌≡◌, arith}
use Rattle.std.specs.Int.{w128}
use Rattle.std.proofs.lemmas.Int.{ints}
use Rattle.ring_omega.proofs.parity.half_sum.Goals as goal

pub overflow_add-result-2 : goal.overflow_add-result-2
overflow_add-result-2 c =
    let fh : FitsSigned w128 c.halves-half.result.0 = search rules in
    let fr : FitsSigned w128 c.halves-half.result.1 = search rules in
    let fk : FitsSigned w128 c.halves.result.0 = search rules in
    let same : c.halves-half.result.1 ≡ c.halves.result.1 = omega (arith, ints, c.requires.1) in
    omega (arith, ints, c.requires.1)

pub returns : goal.returns
returns c =
    let fh : FitsSigned w128 c.halves-half.result.0 = search rules in
    let fr : FitsSigned w128 c.halves-half.result.1 = search rules in
    let fk : FitsSigned w128 c.halves.result.0 = search rules in
    let same : c.halves-half.result.1 ≡ c.halves.result.1 = omega (arith, ints, c.requires.1) in
    omega (arith, ints, c.requires.1)
