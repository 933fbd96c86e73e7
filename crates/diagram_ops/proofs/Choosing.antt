-- The function of a variable.
use Rattle.std.proofs.Common.{◌≡◌, ℕ, Bool, true, false, cond, length, Result, Ok, Err, IfOk, ◌∙◌, arith}
use mathlib.Core.Path.{fun_ext}
use Rattle.diagram_model.specs.Nodes.{value}
use Rattle.diagram_model.specs.Stores.{Diagram, IsSound, IsChoice, function_of}
use Rattle.diagram_model.proofs.Values.{value-small}
use Rattle.node_store.specs.declared.node.Node.{Node}
use Rattle.node_store.specs.declared.node.StoreStop.{StoreStop}
use Rattle.diagram_ops.specs.Diagrams.{variable_of}

either_value : (d : Diagram) (b : Bool) (x : ℕ → Bool) → IsSound d → value d.slots d.order x (cond b 1 0) ≡ b
either_value d true x s = value-small d.slots (length d.order) d.order 1 s.diagram (omega arith) x
either_value d false x s = value-small d.slots (length d.order) d.order 0 s.diagram (omega arith) x

-- TRUE where the variable is true, and FALSE where it is false
pub variable_denotes : (d : Diagram) (v : ℕ) (r : Result Node StoreStop) → IsSound d → IfOk r (λ n. IsChoice d v 0 1 n.0) → IfOk r (λ n. function_of d n.0 ≡ variable_of v)
unfolding function_of variable_of
variable_denotes d v (Ok n) s choice = fun_ext (λ x. choice x ∙ either_value d (x v) x s)
variable_denotes d v (Err e) s choice = tt
