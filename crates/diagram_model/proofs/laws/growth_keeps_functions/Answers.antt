use Rattle.diagram_model.proofs.Growing.{functions_kept}
use Rattle.diagram_model.proofs.laws.growth_keeps_functions.Goals as goal

pub returns : goal.returns
returns c = functions_kept
