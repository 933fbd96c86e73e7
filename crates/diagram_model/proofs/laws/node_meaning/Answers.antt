use Rattle.std.proofs.Common.{◌∙◌, length, arith}
use Rattle.diagram_model.proofs.Values.{value-small, value-node}
use Rattle.diagram_model.proofs.Meanings.{child_value}
use Rattle.diagram_model.proofs.laws.node_meaning.Goals as goal

pub returns-clause-constants : goal.returns-clause-constants
returns-clause-constants c = λ d x s.
    (value-small d.slots (length d.order) d.order 0 s.diagram (omega arith) x, value-small d.slots (length d.order) d.order 1 s.diagram (omega arith) x)

pub returns-clause-held : goal.returns-clause-held
returns-clause-held c = λ d n p x s is.
    value-node d.slots (length d.order) d.order n p s.diagram is (s.diagram.within n p is) x ∙ child_value d p x (x p.var)
