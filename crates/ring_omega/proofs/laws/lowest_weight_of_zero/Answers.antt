use Rattle.std.proofs.Common.{refl}
use Rattle.ring_omega.specs.Weights.{zero_weight}
use Rattle.ring_omega.proofs.laws.lowest_weight_of_zero.Goals as goal
use Rattle.ring_omega.proofs.WeightLemmas.{zero-lowest_weight}

pub returns : goal.returns
returns c = λ k. zero-lowest_weight zero_weight k refl
