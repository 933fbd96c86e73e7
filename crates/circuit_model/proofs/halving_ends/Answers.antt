use Rattle.circuit_model.proofs.WorkingLemmas.{IsHalved-halved}
use Rattle.circuit_model.proofs.halving_ends.Goals as goal

pub returns : goal.returns
returns c = IsHalved-halved
