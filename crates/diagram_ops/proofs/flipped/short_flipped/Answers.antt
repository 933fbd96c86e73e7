use Rattle.std.proofs.Common.{◌<◌, ◌≤◌, arith}
use Rattle.diagram_ops.proofs.Flipping.{short_passed_some, short_kept_some, none_placed}
use Rattle.diagram_ops.proofs.flipped.short_flipped.Goals as goal

pub returns-then-place-seen-clause-short : goal.returns-then-place-seen-clause-short
returns-then-place-seen-clause-short c =
    short_passed_some c.args.table c.args.var c.args.store.now c.args.at c.place_of-place.result c.new-seen.result c.short_cut.result c.requires.sound c.requires.live
    (c.requires.sound.all c.args.var c.requires.var) c.new-seen.ensures c.place_of-place.ensures.place c.if-place-seen.true c.short_cut.ensures.short

pub returns-clause-short : goal.returns-clause-short
returns-clause-short c = short_kept_some c.args.table c.args.var c.args.store.now c.args.at c.short_above.result c.requires.sound c.requires.live c.short_above.ensures

pub returns-clause-some : goal.returns-clause-some
returns-clause-some c =
    let small : c.place_of-place.result < 256 = omega (arith, c.place_of-place.type_inv) in
    let upper : c.new-seen.result.place ≤ c.place_of-place.result = omega (arith, c.if-place-seen.false) in
    none_placed c.args.store.now c.args.at c.new-seen.result c.short_above.result c.requires.sound c.new-seen.ensures (omega (arith, small, upper))
