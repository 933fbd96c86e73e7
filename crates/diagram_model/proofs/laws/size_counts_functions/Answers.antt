use Rattle.diagram_model.proofs.Counting.{size_counts}
use Rattle.diagram_model.proofs.laws.size_counts_functions.Goals as goal

pub returns : goal.returns
returns c = size_counts
