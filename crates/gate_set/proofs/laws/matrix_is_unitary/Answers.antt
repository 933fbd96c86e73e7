use Rattle.gate_set.proofs.laws.matrix_is_unitary.Goals as goal
use Rattle.gate_set.proofs.UnitaryLemmas.{unitary}

pub returns : goal.returns
returns c = unitary
