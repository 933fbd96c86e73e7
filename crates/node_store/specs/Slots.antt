-- What contracts see of slots.
use Rattle.std.specs.Prelude.{◌≡◌, ◌≢◌, ℕ, ◌<◌, ◌≤◌, Bool, true, false, ◌==◌, List, length, Option, Some, None, slice_index_or, count_by}
use Rattle.bit_lists.specs.Orders.{has, IsOrder}
use Rattle.diagram_model.specs.declared.parts.Parts.{Parts}
use Rattle.diagram_model.specs.Nodes.{parts_of, AreUnique}
use Rattle.diagram_model.specs.Reach.{is_in}
use Rattle.diagram_model.specs.Stores.{Diagram, HasParts, HasVariable, held}
use Rattle.node_store.specs.declared.node.Node.{Node}

abbrev pub parts : ℕ → ℕ → ℕ → Parts
parts v low high = record { var = v; low = low; high = high }

-- the parts of a store, and for each variable how many more nodes of it there is room for
pub record Slotted : Type 0 where
  pub diagram : Diagram
  pub spares : List ℕ

abbrev pub spare_of : Slotted → ℕ → ℕ
spare_of s v = slice_index_or s.spares v 0

-- what holds of all slots: at most `limit` nodes are held, and no two have the same parts
pub record IsSlotted (d : Diagram) : Type 0 where
  pub order : IsOrder d.order
  pub ground : (n : ℕ) → n < 2 → parts_of d.slots n ≡ None
  pub within : (n : ℕ) (p : Parts) → parts_of d.slots n ≡ Some p → has d.order p.var ≡ true
  pub unique : AreUnique d.slots
  pub few : held d ≤ d.limit
  pub most : d.limit ≤ 16777216

-- whether a slot has a node of the variable v
unfoldable pub is_of : ℕ → Option Parts → Bool
is_of v None = false
is_of v (Some p) = p.var == v

-- how many nodes of the variable v are held
abbrev pub nodes_of : Diagram → ℕ → ℕ
nodes_of d v = count_by (is_of v) d.slots

-- the slots t are s without the node n
pub record Takes (s t : List (Option Parts)) (n : ℕ) : Type 0 where
  pub gone : parts_of t n ≡ None
  pub others : (m : ℕ) → m ≢ n → parts_of t m ≡ parts_of s m

-- the slots t are s with other parts p of the node n
pub record Rewrites (s t : List (Option Parts)) (n : ℕ) (p : Parts) : Type 0 where
  pub here : parts_of t n ≡ Some p
  pub others : (m : ℕ) → m ≢ n → parts_of t m ≡ parts_of s m

-- the numbers of the held nodes of the variable v, each once
pub record AreNodesOf (d : Diagram) (v : ℕ) (ns : List ℕ) : Type 0 where
  pub each : (n : ℕ) → is_in ns n ≡ true → HasVariable d v n
  pub all : (n : ℕ) → HasVariable d v n → is_in ns n ≡ true
  pub count : length ns ≡ nodes_of d v

-- no variable has less room
abbrev pub LowersNone : Slotted → Slotted → Type 0
LowersNone old new = (v : ℕ) → spare_of old v ≤ spare_of new v

-- no variable has room
abbrev pub HasNone : Slotted → Type 0
HasNone s = (v : ℕ) → spare_of s v ≡ 0

-- n comes after the given node
abbrev pub IsPast : Option Node → ℕ → Type 0
IsPast None n = Unit {0}
IsPast (Some m) n = m.0 < n

-- n is the held node of least number after the given one
pub record IsNextHeld (d : Diagram) (after : Option Node) (n : ℕ) : Type 0 where
  pub held : HasParts d n
  pub past : IsPast after n
  pub least : (m : ℕ) → HasParts d m → IsPast after m → n ≤ m

-- no held node comes after the given one
abbrev pub IsLastHeld : Diagram → Option Node → Type 0
IsLastHeld d after = (m : ℕ) → HasParts d m → IsPast after m → ⊥
