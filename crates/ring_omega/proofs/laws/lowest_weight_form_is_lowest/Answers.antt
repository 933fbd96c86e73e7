use Rattle.ring_omega.proofs.laws.lowest_weight_form_is_lowest.Goals as goal
use Rattle.ring_omega.proofs.WeightLemmas.{lowest_weight_form-is}

pub returns : goal.returns
returns c = lowest_weight_form-is
