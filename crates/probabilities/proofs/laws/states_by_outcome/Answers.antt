use Rattle.probabilities.proofs.OutcomeLemmas.{outcome_states}
use Rattle.probabilities.proofs.laws.states_by_outcome.Goals as goal

pub returns : goal.returns
returns c measured x y long count = outcome_states measured x y long count
