use Rattle.ring_omega.proofs.laws.weight_is_squared_magnitude.Goals as goal
use Rattle.ring_omega.proofs.WeightLemmas.{weight_quad-is}

pub returns : goal.returns
returns c = weight_quad-is
