use Rattle.std.proofs.Common.{length}
use Rattle.diagram_model.proofs.Canonical.{same_node}
use Rattle.diagram_model.proofs.laws.nodes_are_canonical.Goals as goal

pub returns : goal.returns
returns c = λ d n m s ln lm same. same_node d.slots (length d.order) d.order n m s.diagram.order s.diagram.proper s.diagram.unique ln lm same
