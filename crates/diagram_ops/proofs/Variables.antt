-- What is read of a node's parts.
use Rattle.std.proofs.Common.{◌≡◌, ℕ, ◌<◌, length, Some}
use Rattle.diagram_model.specs.declared.parts.Parts.{Parts}
use Rattle.diagram_model.specs.Nodes.{parts_of}
use Rattle.diagram_model.specs.Stores.{Diagram, IsSound}
use Rattle.diagram_model.proofs.Values.{below-order}

-- the variable of a node is one of the order
pub var_within : (d : Diagram) (n : ℕ) (p : Parts) → IsSound d → parts_of d.slots n ≡ Some p → p.var < length d.order
var_within d n p s is = below-order (length d.order) d.order p.var s.diagram.order (s.diagram.within n p is)
