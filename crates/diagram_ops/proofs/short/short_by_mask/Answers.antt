use Rattle.std.proofs.Common.{sym}
use Rattle.diagram_ops.proofs.Shorts.{short_false, short_true, short_f, short_g, short_h}
use Rattle.diagram_ops.proofs.short.short_by_mask.Goals as goal

pub returns-then-kept-eq0 : goal.returns-then-kept-eq0
returns-then-kept-eq0 c = short_false c.args.table c.args.at.f c.args.at.g c.args.at.h (rw (sym c.mask-mask.ensures) c.if-kept-eq0.true)

pub returns-then-kept-mask : goal.returns-then-kept-mask
returns-then-kept-mask c = short_true c.args.table c.args.at.f c.args.at.g c.args.at.h (rw (sym c.mask-mask.ensures) c.if-kept-mask.true)

pub returns-then-kept-mask-2 : goal.returns-then-kept-mask-2
returns-then-kept-mask-2 c = short_f c.args.table c.args.at.f c.args.at.g c.args.at.h (rw (sym c.mask-mask.ensures) c.if-kept-mask-2.true)

pub returns-then-kept-mask-3 : goal.returns-then-kept-mask-3
returns-then-kept-mask-3 c = short_g c.args.table c.args.at.f c.args.at.g c.args.at.h (rw (sym c.mask-mask.ensures) c.if-kept-mask-3.true)

pub returns-then-kept-mask-4 : goal.returns-then-kept-mask-4
returns-then-kept-mask-4 c = short_h c.args.table c.args.at.f c.args.at.g c.args.at.h (rw (sym c.mask-mask.ensures) c.if-kept-mask-4.true)
