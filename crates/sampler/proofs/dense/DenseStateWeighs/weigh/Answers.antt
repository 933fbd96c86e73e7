use Rattle.std.proofs.Common.{length}
use Rattle.circuit_model.specs.Working.{work}
use Rattle.probabilities.proofs.WeighingLemmas.{narrow_part}
use Rattle.sampler.proofs.dense.DenseStateWeighs.weigh.Goals as goal

pub unreachable-requires : goal.unreachable-requires
unreachable-requires c =
    let s = c.args.self.now in
    let v = (work s.gates s.input).entries in
    c.in-Err-TooWide.ensures.weight (narrow_part v (length s.input) c.args.p.now c.requires.len c.requires.narrow)
