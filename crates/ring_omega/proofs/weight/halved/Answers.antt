use Rattle.std.proofs.Common.{rules, FitsSigned, arith, pos}
use Rattle.std.specs.Int.{w128}
use Rattle.std.proofs.lemmas.Int.{ints}
use Rattle.ring_omega.proofs.weight.halved.Goals as goal
use Rattle.ring_omega.proofs.LowestLemmas.{passed_parity}
use Rattle.ring_omega.proofs.WeightLemmas.{double_parities, weight_eq}

pub half_sum-requires : goal.half_sum-requires
half_sum-requires c = let w = c.args.w in passed_parity w.a (pos 0) (search rules) (search rules) (double_parities w c.requires).0

pub half_sum-requires-2 : goal.half_sum-requires-2
half_sum-requires-2 c = let w = c.args.w in passed_parity w.b (pos 0) (search rules) (search rules) (double_parities w c.requires).1

pub returns : goal.returns
returns c =
    let w = c.args.w in
    let fa : FitsSigned w128 w.a = search rules in
    let fb : FitsSigned w128 w.b = search rules in
    let ga : FitsSigned w128 c.half_sum.result = search rules in
    let gb : FitsSigned w128 c.half_sum-2.result = search rules in
    weight_eq _ _ (omega (arith, ints)) (omega (arith, ints))
