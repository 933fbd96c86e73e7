use Rattle.std.proofs.Common.{Err, length, ap}
use Rattle.amp_dense.specs.Standing.{vector}
use Rattle.probabilities.specs.Outcomes.{fixed_to}
use Rattle.probabilities.proofs.WeighingLemmas.{narrow_part}
use Rattle.probabilities.proofs.OutcomeLemmas.{length-fixed_to}
use Rattle.outputs.proofs.outcomes.next_weighed.Goals as goal

pub unreachable-requires : goal.unreachable-requires
unreachable-requires g c =
    let m = c.args.measured.now in
    let v = (vector (g.A.Amplitudes.standing c.args.state.now)).entries in
    let too_wide = c.in-Err-TooWide.ensures.too_wide (ap Err c.in-Err-TooWide.field-0-is) in
    too_wide.wide (narrow_part v (length m) (fixed_to m too_wide.outcome) (length-fixed_to m too_wide.outcome too_wide.next.long) c.requires.light)
