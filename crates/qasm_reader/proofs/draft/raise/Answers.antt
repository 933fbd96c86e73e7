use Rattle.std.proofs.Common.{◌∙◌, ◌+◌, ap, refl, set, true}
use Rattle.qasm_reader.specs.Private.Seen.{seen_target}
use Rattle.qasm_reader.proofs.Growing.{raised_place}
use Rattle.qasm_reader.proofs.draft.raise.Goals as goal

pub loop-place-preserved : goal.loop-place-preserved
loop-place-preserved c =
    ap (λ q. set c.loop-place.flags q true) c.qubit_at.ensures
    ∙ raised_place c.args.flags.now c.loop-place.flags (seen_target c.args.target) c.loop-place.place (c.loop-place.place + 1) refl c.loop-place.invariant
