use Rattle.gate_set.proofs.laws.inverse_is_adjoint.Goals as goal
use Rattle.gate_set.proofs.UnitaryLemmas.{adjoint}

pub returns : goal.returns
returns c = adjoint
