-- When a node is refused.
use Rattle.std.specs.Prelude.{◌≡◌, ◌⊎◌, ℕ, ◌<◌, ◌≤◌, Some}
use Rattle.diagram_model.specs.declared.parts.Parts.{Parts}
use Rattle.diagram_model.specs.Nodes.{parts_of}
use Rattle.diagram_model.specs.Stores.{Diagram, IsNew, NoRoom, PutsNode, held}
use Rattle.node_store.specs.declared.node.StoreStop.{StoreStop}
use Rattle.node_store.specs.declared.node.StoreStop.TheVariants.{Full, OutOfMemory}

-- Full comes where there is no room, and says how many nodes are held
abbrev pub StopMeans : Diagram → ℕ → ℕ → ℕ → StoreStop → Type 0
StopMeans d v low high (Full h) = (h ≡ d.limit) × NoRoom d v low high
StopMeans d v low high OutOfMemory = Unit {0}

-- a node of these parts is refused: Full comes where none is held, and as many are held as may be
abbrev pub Refuses : Diagram → Parts → StoreStop → Type 0
Refuses d p (Full h) = (h ≡ d.limit) × (held d ≡ d.limit) × IsNew d p
Refuses d p OutOfMemory = Unit {0}

-- a node of new parts is put at n, for which there was room
pub record PutsNew (d e : Diagram) (p : Parts) (n : ℕ) : Type 0 where
  pub new : IsNew d p
  pub room : held d < d.limit
  pub puts : PutsNode d.slots e.slots n p
  pub number : 2 ≤ n

-- the node of these parts was held, and nothing changed, or it is put
abbrev pub FindsOrPuts : Diagram → Diagram → Parts → ℕ → Type 0
FindsOrPuts d e p n = ((parts_of d.slots n ≡ Some p) × (e ≡ d)) ⊎ PutsNew d e p n
