use Rattle.std.proofs.Common.{rules, FitsSigned, arith, to_z, of_z}
use Rattle.std.specs.Int.{w128}
use Rattle.std.proofs.lemmas.Int.{ints}
use Rattle.ring_omega.specs.Ring.{quad}
use Rattle.ring_omega.proofs.lowest_form.divided.Goals as goal
use Rattle.ring_omega.proofs.LowestLemmas.{divisible_parities, divides, passed_parity}

pub half_difference-requires : goal.half_difference-requires
half_difference-requires c =
    let q = c.args.q in
    passed_parity q.b q.d (search rules) (search rules) (divisible_parities q c.requires).0

pub half_sum-requires : goal.half_sum-requires
half_sum-requires c =
    let q = c.args.q in
    passed_parity q.a q.c (search rules) (search rules) (divisible_parities q c.requires).1

pub half_sum-requires-2 : goal.half_sum-requires-2
half_sum-requires-2 c =
    let q = c.args.q in
    passed_parity q.b q.d (search rules) (search rules) (divisible_parities q c.requires).0

pub half_difference-requires-2 : goal.half_difference-requires-2
half_difference-requires-2 c =
    let q = c.args.q in
    passed_parity q.c q.a (search rules) (search rules) (divisible_parities q c.requires).2

pub returns : goal.returns
returns c =
    let q = c.args.q in
    let fa : FitsSigned w128 q.a = search rules in
    let fb : FitsSigned w128 q.b = search rules in
    let fc : FitsSigned w128 q.c = search rules in
    let fd : FitsSigned w128 q.d = search rules in
    let ga : FitsSigned w128 c.half_difference.result = search rules in
    let gb : FitsSigned w128 c.half_sum.result = search rules in
    let gc : FitsSigned w128 c.half_sum-2.result = search rules in
    let gd : FitsSigned w128 c.half_difference-2.result = search rules in
    divides q (quad (to_z w128 (of_z w128 c.half_difference.result)) (to_z w128 (of_z w128 c.half_sum.result)) (to_z w128 (of_z w128 c.half_sum-2.result)) (to_z w128 (of_z w128 c.half_difference-2.result)))
    (omega (arith, ints)) (omega (arith, ints)) (omega (arith, ints)) (omega (arith, ints))
