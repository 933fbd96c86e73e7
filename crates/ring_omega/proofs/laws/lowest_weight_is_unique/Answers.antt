use Rattle.ring_omega.proofs.laws.lowest_weight_is_unique.Goals as goal
use Rattle.ring_omega.proofs.WeightLemmas.{lowest_weight-unique}

pub returns : goal.returns
returns c = λ w v u k j i. lowest_weight-unique w k v j u i
