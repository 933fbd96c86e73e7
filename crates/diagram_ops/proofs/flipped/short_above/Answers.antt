use Rattle.std.proofs.Common.{◌<◌, sym, ◌∙◌, arith}
use Rattle.diagram_ops.proofs.Flipping.{kept_none, kept_third}
use Rattle.diagram_ops.proofs.flipped.short_above.Goals as goal

pub returns-then-half-eq0 : goal.returns-then-half-eq0
returns-then-half-eq0 c =
    let lt : c.args.at.f < 2 = omega (arith, c.if-at-ge2.false) in
    kept_none c.args.table c.args.at.f c.args.at.h lt (sym c.half-half.ensures ∙ c.if-half-eq0.true)

pub returns-then-half-eq10 : goal.returns-then-half-eq10
returns-then-half-eq10 c =
    let lt : c.args.at.f < 2 = omega (arith, c.if-at-ge2.false) in
    kept_third c.args.table c.args.at.f c.args.at.h lt (sym c.half-half.ensures ∙ c.if-half-eq10.true)
