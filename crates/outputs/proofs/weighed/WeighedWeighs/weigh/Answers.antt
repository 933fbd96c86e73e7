use Rattle.std.proofs.Common.{Err, length, ap}
use Rattle.amp_dense.specs.Standing.{vector}
use Rattle.probabilities.proofs.WeighingLemmas.{narrow_part}
use Rattle.outputs.proofs.weighed.WeighedWeighs.weigh.Goals as goal

pub unreachable-requires : goal.unreachable-requires
unreachable-requires g c =
    let s = g.A.Amplitudes.standing c.args.self.now.state.now in
    c.in-Err-TooWide.ensures.too_wide (ap Err c.in-Err-TooWide.field-0-is) (narrow_part (vector s).entries (length s.input) c.args.p.now c.requires.len c.requires.narrow)
