use Rattle.ring_omega.proofs.laws.lowest_form_is_lowest.Goals as goal
use Rattle.ring_omega.proofs.LowestFormLemmas.{lowest_form-is}

pub returns : goal.returns
returns c = lowest_form-is
