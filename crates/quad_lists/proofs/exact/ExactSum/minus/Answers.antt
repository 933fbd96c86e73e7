use Rattle.std.proofs.Common.{rules, FitsSigned, pos, ◌<ℤ◌, ◌≤ℤ◌, arith}
use Rattle.std.specs.Int.{w8, w128}
use Rattle.std.proofs.lemmas.Int.{ints}
use Rattle.quad_lists.proofs.ExactLemmas.{difference_below, difference_above}
use Rattle.quad_lists.proofs.exact.ExactSum.minus.Goals as goal

pub returns-in-None : goal.returns-in-None
returns-in-None c =
    let fl : FitsSigned w128 c.args.self.low = search rules in
    let fh : FitsSigned w8 c.args.self.high = search rules in
    let fx : FitsSigned w128 c.args.x = search rules in
    let sign : pos 0 <ℤ c.args.x = grind (arith, ints) in
    difference_below c.args.self.low c.args.self.high c.args.x fl fh fx c.requires c.in-None.ensures sign

pub returns-in-None-2 : goal.returns-in-None-2
returns-in-None-2 c =
    let fl : FitsSigned w128 c.args.self.low = search rules in
    let fh : FitsSigned w8 c.args.self.high = search rules in
    let fx : FitsSigned w128 c.args.x = search rules in
    let sign : c.args.x ≤ℤ pos 0 = grind (arith, ints) in
    difference_above c.args.self.low c.args.self.high c.args.x fl fh fx c.requires c.in-None-2.ensures sign
