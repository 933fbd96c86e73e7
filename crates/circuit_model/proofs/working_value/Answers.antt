use Rattle.circuit_model.proofs.working_value.Goals as goal
use Rattle.circuit_model.proofs.WorkingLemmas.{work-HasValues}

pub returns : goal.returns
returns c = λ gates input x len. work-HasValues gates input x len
