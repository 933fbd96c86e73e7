use Rattle.diagram_model.proofs.Counting.{size-bound}
use Rattle.diagram_model.proofs.laws.size_is_bounded.Goals as goal

pub returns : goal.returns
returns c = size-bound
