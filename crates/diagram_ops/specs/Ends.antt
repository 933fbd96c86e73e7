-- How a call of a recursion ends: stores and results with old before new, and the counter's two values.
use Rattle.std.specs.Prelude.{ℕ}
use Rattle.diagram_model.specs.Stores.{Diagram}
use Rattle.node_store.specs.declared.node.StoreStop.{StoreStop}
use Rattle.diagram_ops.specs.declared.operands.Operands.{Operands}
use Rattle.diagram_ops.specs.Keeping.{IsPart, Keeps}
use Rattle.diagram_ops.specs.Made.{StopIs}
use Rattle.diagram_ops.specs.Operations.{Operation, Results, IsResult}
use Rattle.diagram_ops.specs.Taken.{Reading, IsMet, Takes, TakesAll}

-- it answers the node n
pub record Answers (op : Operation) (r : Reading) (at : Operands) (old new : Diagram) (before later : Results) (s t n : ℕ) : Type 0 where
  pub keeps : Keeps op at old new before later
  pub result : IsResult op new at n
  pub takes : TakesAll (IsMet r old at) old new before later s t

-- it stops
pub record Stops (op : Operation) (r : Reading) (at : Operands) (old new : Diagram) (before later : Results) (s t : ℕ) (why : StoreStop) : Type 0 where
  pub keeps : Keeps op at old new before later
  pub stop : StopIs new (IsPart op old at) why
  pub takes : Takes (IsMet r old at) old new before s t
