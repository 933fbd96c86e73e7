use Rattle.ring_omega.proofs.laws.lowest_form_is_unique.Goals as goal
use Rattle.ring_omega.proofs.LowestLemmas.{lowest_form-unique}

pub returns : goal.returns
returns c = λ q p r k j i. lowest_form-unique q k p j r i
