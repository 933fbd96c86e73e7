-- Three nodes of a store.
use Rattle.std.specs.Prelude.{◌≡◌, ◌⊎◌, ℕ, ◌+◌, Bool, true, false}
use Rattle.bit_lists.specs.Orders.{has}
use Rattle.diagram_model.specs.Nodes.{follow, IsLiveIn}
use Rattle.diagram_model.specs.Stores.{Diagram, IsLive, IsAbove, from, depth, HasVariable}
use Rattle.diagram_ops.specs.declared.operands.Operands.{Operands}
use Rattle.diagram_ops.specs.declared.split.Split.{Split}

abbrev pub AreLive : Diagram → Operands → Type 0
AreLive d at = IsLive d at.f × IsLive d at.g × IsLive d at.h

-- v stands above each of the nodes
abbrev pub AreAbove : Diagram → ℕ → Operands → Type 0
AreAbove d v at = IsAbove d v at.f × IsAbove d v at.g × IsAbove d v at.h

-- each of the nodes has the variable v or stands below it
abbrev pub AreFrom : Diagram → ℕ → Operands → Type 0
AreFrom d v at = IsLiveIn d.slots (from d.order v) at.f × IsLiveIn d.slots (from d.order v) at.g × IsLiveIn d.slots (from d.order v) at.h

-- what is left of the nodes once v is fixed to b
abbrev pub rest : Diagram → ℕ → Bool → Operands → Operands
rest d v b at = record { f = follow d.slots v b at.f; g = follow d.slots v b at.g; h = follow d.slots v b at.h }

-- how far a recursion may go down from the nodes
abbrev pub depths : Diagram → Operands → ℕ
depths d at = depth d at.f + depth d at.g + depth d at.h

-- one of the nodes has the variable v
abbrev pub SomeHas : Diagram → ℕ → Operands → Type 0
SomeHas d v at = HasVariable d v at.f ⊎ (HasVariable d v at.g ⊎ HasVariable d v at.h)

-- the topmost variable of the nodes, and what is left of them once it is fixed either way
pub record IsSplit (d : Diagram) (at : Operands) (s : Split) : Type 0 where
  pub var : has d.order s.var ≡ true
  pub below : AreFrom d s.var at
  pub some : SomeHas d s.var at
  pub low : s.low ≡ rest d s.var false at
  pub high : s.high ≡ rest d s.var true at

-- one node, with FALSE in the other two places
abbrev pub alone : ℕ → Operands
alone f = record { f = f; g = 0; h = 0 }
