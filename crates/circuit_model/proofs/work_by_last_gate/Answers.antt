use Rattle.std.proofs.Common.{refl}
use Rattle.circuit_model.specs.Working.{work}
use Rattle.circuit_model.proofs.WorkingLemmas.{work-last}
use Rattle.circuit_model.proofs.work_by_last_gate.Goals as goal

pub returns-clause-none : goal.returns-clause-none
unfolding work
returns-clause-none c = λ input. refl

pub returns-clause-last : goal.returns-clause-last
returns-clause-last c = work-last
