use Rattle.diagram_ops.proofs.Shorts.{short_bit}
use Rattle.diagram_ops.proofs.short.short_cut.Goals as goal

pub returns-then-at-lt2-3-clause-short : goal.returns-then-at-lt2-3-clause-short
returns-then-at-lt2-3-clause-short c = rw c.bit_of.ensures (short_bit c.args.table c.args.at.f c.args.at.g c.args.at.h c.if-at-lt2.true c.if-at-lt2-2.true c.if-at-lt2-3.true)
