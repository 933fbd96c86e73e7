use Rattle.unitary_update.proofs.Enough.{enough}
use Rattle.unitary_update.proofs.laws.enough_nodes.Goals as goal

pub returns : goal.returns
returns c = λ s t on is long limit number order held stop. enough s t on is long limit number order held stop
