-- The node that is true at one list alone, from the last variable of the order up.
use Rattle.std.specs.Prelude.{◌≡◌, ◌≢◌, ℕ, ◌+◌, ◌<◌, Bool, true, false, List, length, drop, Some}
use Rattle.bit_lists.specs.Orders.{has}
use Rattle.diagram_model.specs.declared.parts.Parts.{Parts}
use Rattle.diagram_model.specs.Functions.{Assignment, bit}
use Rattle.diagram_model.specs.Nodes.{parts_of, value, IsLiveIn}
use Rattle.diagram_model.specs.Stores.{Diagram, held, IsSound}
use Rattle.ring_omega.specs.Ring.{zero_quad, one_quad}
use Rattle.slice_quad.specs.declared.quad.SliceQuad.{SliceQuad}
use Rattle.slice_quad.specs.Vectors.{Stands}
use Rattle.slice_quad.specs.Walks.{entries_in}
use Rattle.node_store.specs.declared.node.StoreStop.{StoreStop}
use Rattle.node_store.specs.declared.node.StoreStop.TheVariants.{Full, OutOfMemory}

-- the variables from place k on are done: n is true where they have the values of x, and one node was made for each
pub record IsBuilt (d e : Diagram) (x : List Bool) (k n : ℕ) : Type 0 where
  pub sound : IsSound e
  pub order : e.order ≡ d.order
  pub limit : e.limit ≡ d.limit
  pub below : (m : ℕ) (p : Parts) → parts_of e.slots m ≡ Some p → has (drop k d.order) p.var ≡ true
  pub live : IsLiveIn e.slots (drop k d.order) n
  pub on : (y : Assignment) → ((v : ℕ) → has (drop k d.order) v ≡ true → y v ≡ bit x v) → value e.slots e.order y n ≡ true
  pub off : (y : Assignment) (v : ℕ) → has (drop k d.order) v ≡ true → y v ≢ bit x v → value e.slots e.order y n ≡ false
  pub count : k + held e ≡ length d.order

-- q is 1 at x and 0 elsewhere, over no root, and one node a variable is held
pub record IsStart (e : Diagram) (x : List Bool) (q : SliceQuad) : Type 0 where
  pub stands : Stands e q
  pub width : length q.four.a ≡ 2
  pub there : entries_in e q.four x ≡ one_quad
  pub elsewhere : (y : List Bool) → length y ≡ length x → y ≢ x → entries_in e q.four y ≡ zero_quad
  pub exponent : q.exponent ≡ 0
  pub kept : q.kept.0 ≡ 0
  pub held : held e ≡ length x

-- Full comes where more nodes are wanted than the limit lets be held
abbrev pub StartStopIs : Diagram → ℕ → StoreStop → Type 0
StartStopIs d n (Full h) = (h ≡ d.limit) × (d.limit < n)
StartStopIs d n OutOfMemory = Unit {0}
