-- What a refused step says.
use Rattle.std.specs.Prelude.{◌≡◌}
use Rattle.diagram_model.specs.Stores.{Diagram}
use Rattle.diagram_ops.specs.Made.{Property, IsMissing}
use Rattle.node_store.specs.declared.node.StoreStop.{StoreStop}
use Rattle.node_store.specs.declared.node.StoreStop.TheVariants as store
use Rattle.slice_quad.specs.declared.stop.QuadStop.{QuadStop}
use Rattle.slice_quad.specs.declared.stop.QuadStop.TheVariants as quads

-- a stop of the store, as that of a step
abbrev pub stop_of : StoreStop → QuadStop
stop_of (store.Full held) = quads.Full held
stop_of store.OutOfMemory = quads.OutOfMemory

-- the fact holds where the width was too small
abbrev pub OnWidth : Type 0 → QuadStop → Type 0
OnWidth P quads.Width = P
OnWidth P (quads.Full held) = Unit {0}
OnWidth P quads.OutOfMemory = Unit {0}

-- where there were too few nodes, the store is full and some function of this kind has no node
abbrev pub QuadStopIs : Diagram → Property → QuadStop → Type 0
QuadStopIs d Is quads.Width = Unit {0}
QuadStopIs d Is (quads.Full held) = (held ≡ d.limit) × IsMissing d Is
QuadStopIs d Is quads.OutOfMemory = Unit {0}

-- it wasn't for want of nodes
abbrev pub IsNotFull : QuadStop → Type 0
IsNotFull quads.Width = Unit {0}
IsNotFull (quads.Full held) = ⊥
IsNotFull quads.OutOfMemory = Unit {0}
