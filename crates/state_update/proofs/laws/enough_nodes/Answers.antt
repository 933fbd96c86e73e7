use Rattle.state_update.proofs.Enough.{enough}
use Rattle.state_update.proofs.laws.enough_nodes.Goals as goal

pub returns : goal.returns
returns c = λ s g on long limit lacks. enough s g on long limit lacks
