use Rattle.std.proofs.Common.{rules, FitsSigned, ◌+ℤ◌, ◌-ℤ◌, ◌*ℤ◌, refl}
use Rattle.std.specs.Int.{w128}
use Rattle.std.proofs.lemmas.Int.{to_z-of_z}
use Rattle.ring_omega.specs.Weights.{weight_of}
use Rattle.ring_omega.proofs.weight.sum_of_neighbours.Goals as goal
use Rattle.ring_omega.proofs.WeightLemmas.{neighbours_fit}

pub overflow_mul-result : goal.overflow_mul-result
overflow_mul-result c =
    let q = c.args.q in
    let fa : FitsSigned w128 q.a = search rules in
    let fb : FitsSigned w128 q.b = search rules in
    let fc : FitsSigned w128 q.c = search rules in
    let fd : FitsSigned w128 q.d = search rules in
    simp to_z-of_z (neighbours_fit q c.requires).first

pub overflow_mul-result-2 : goal.overflow_mul-result-2
overflow_mul-result-2 c =
    let q = c.args.q in
    let fa : FitsSigned w128 q.a = search rules in
    let fb : FitsSigned w128 q.b = search rules in
    let fc : FitsSigned w128 q.c = search rules in
    let fd : FitsSigned w128 q.d = search rules in
    simp to_z-of_z (neighbours_fit q c.requires).second

pub overflow_add-result : goal.overflow_add-result
overflow_add-result c =
    let q = c.args.q in
    let fa : FitsSigned w128 q.a = search rules in
    let fb : FitsSigned w128 q.b = search rules in
    let fc : FitsSigned w128 q.c = search rules in
    let fd : FitsSigned w128 q.d = search rules in
    let fit = neighbours_fit q c.requires in
    let first : FitsSigned w128 (q.a *ℤ q.b) = fit.first in
    let second : FitsSigned w128 (q.b *ℤ q.c) = fit.second in
    let third : FitsSigned w128 (q.c *ℤ q.d) = fit.third in
    let fourth : FitsSigned w128 (q.d *ℤ q.a) = fit.fourth in
    let two : FitsSigned w128 (q.a *ℤ q.b +ℤ q.b *ℤ q.c) = fit.two in
    let three : FitsSigned w128 (q.a *ℤ q.b +ℤ q.b *ℤ q.c +ℤ q.c *ℤ q.d) = fit.three in
    let four : FitsSigned w128 (q.a *ℤ q.b +ℤ q.b *ℤ q.c +ℤ q.c *ℤ q.d -ℤ q.d *ℤ q.a) = fit.four in
    simp to_z-of_z fit.two

pub overflow_mul-result-3 : goal.overflow_mul-result-3
overflow_mul-result-3 c =
    let q = c.args.q in
    let fa : FitsSigned w128 q.a = search rules in
    let fb : FitsSigned w128 q.b = search rules in
    let fc : FitsSigned w128 q.c = search rules in
    let fd : FitsSigned w128 q.d = search rules in
    simp to_z-of_z (neighbours_fit q c.requires).third

pub overflow_add-result-2 : goal.overflow_add-result-2
overflow_add-result-2 c =
    let q = c.args.q in
    let fa : FitsSigned w128 q.a = search rules in
    let fb : FitsSigned w128 q.b = search rules in
    let fc : FitsSigned w128 q.c = search rules in
    let fd : FitsSigned w128 q.d = search rules in
    let fit = neighbours_fit q c.requires in
    let first : FitsSigned w128 (q.a *ℤ q.b) = fit.first in
    let second : FitsSigned w128 (q.b *ℤ q.c) = fit.second in
    let third : FitsSigned w128 (q.c *ℤ q.d) = fit.third in
    let fourth : FitsSigned w128 (q.d *ℤ q.a) = fit.fourth in
    let two : FitsSigned w128 (q.a *ℤ q.b +ℤ q.b *ℤ q.c) = fit.two in
    let three : FitsSigned w128 (q.a *ℤ q.b +ℤ q.b *ℤ q.c +ℤ q.c *ℤ q.d) = fit.three in
    let four : FitsSigned w128 (q.a *ℤ q.b +ℤ q.b *ℤ q.c +ℤ q.c *ℤ q.d -ℤ q.d *ℤ q.a) = fit.four in
    simp to_z-of_z fit.three

pub overflow_mul-result-4 : goal.overflow_mul-result-4
overflow_mul-result-4 c =
    let q = c.args.q in
    let fa : FitsSigned w128 q.a = search rules in
    let fb : FitsSigned w128 q.b = search rules in
    let fc : FitsSigned w128 q.c = search rules in
    let fd : FitsSigned w128 q.d = search rules in
    simp to_z-of_z (neighbours_fit q c.requires).fourth

pub overflow_sub-result : goal.overflow_sub-result
overflow_sub-result c =
    let q = c.args.q in
    let fa : FitsSigned w128 q.a = search rules in
    let fb : FitsSigned w128 q.b = search rules in
    let fc : FitsSigned w128 q.c = search rules in
    let fd : FitsSigned w128 q.d = search rules in
    let fit = neighbours_fit q c.requires in
    let first : FitsSigned w128 (q.a *ℤ q.b) = fit.first in
    let second : FitsSigned w128 (q.b *ℤ q.c) = fit.second in
    let third : FitsSigned w128 (q.c *ℤ q.d) = fit.third in
    let fourth : FitsSigned w128 (q.d *ℤ q.a) = fit.fourth in
    let two : FitsSigned w128 (q.a *ℤ q.b +ℤ q.b *ℤ q.c) = fit.two in
    let three : FitsSigned w128 (q.a *ℤ q.b +ℤ q.b *ℤ q.c +ℤ q.c *ℤ q.d) = fit.three in
    let four : FitsSigned w128 (q.a *ℤ q.b +ℤ q.b *ℤ q.c +ℤ q.c *ℤ q.d -ℤ q.d *ℤ q.a) = fit.four in
    simp to_z-of_z fit.four

pub returns : goal.returns
unfolding weight_of
returns c =
    let q = c.args.q in
    let fa : FitsSigned w128 q.a = search rules in
    let fb : FitsSigned w128 q.b = search rules in
    let fc : FitsSigned w128 q.c = search rules in
    let fd : FitsSigned w128 q.d = search rules in
    let fit = neighbours_fit q c.requires in
    let first : FitsSigned w128 (q.a *ℤ q.b) = fit.first in
    let second : FitsSigned w128 (q.b *ℤ q.c) = fit.second in
    let third : FitsSigned w128 (q.c *ℤ q.d) = fit.third in
    let fourth : FitsSigned w128 (q.d *ℤ q.a) = fit.fourth in
    let two : FitsSigned w128 (q.a *ℤ q.b +ℤ q.b *ℤ q.c) = fit.two in
    let three : FitsSigned w128 (q.a *ℤ q.b +ℤ q.b *ℤ q.c +ℤ q.c *ℤ q.d) = fit.three in
    let four : FitsSigned w128 (q.a *ℤ q.b +ℤ q.b *ℤ q.c +ℤ q.c *ℤ q.d -ℤ q.d *ℤ q.a) = fit.four in
    simp to_z-of_z refl
