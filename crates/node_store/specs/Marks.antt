-- Nodes that are marked, by number.
use Rattle.std.specs.Prelude.{◌≡◌, ℕ, Bool, true, false, List, Some, map, slice_index_or}
use Rattle.diagram_model.specs.declared.parts.Parts.{Parts}
use Rattle.diagram_model.specs.Nodes.{parts_of}
use Rattle.diagram_model.specs.Stores.{Diagram, HasParts}
use Rattle.diagram_model.specs.Reach.{Reaches}
use Rattle.node_store.specs.declared.node.Node.{Node}

-- whether the node n has a mark
abbrev pub is_marked : List Bool → ℕ → Bool
is_marked ms n = slice_index_or ms n false

-- the numbers of nodes
abbrev pub numbers : List Node → List ℕ
numbers ns = map (λ (n : Node). n.0) ns

-- the marked nodes are the held nodes that are reached from the roots
pub record AreReached (d : Diagram) (roots : List Node) (ms : List Bool) : Type 0 where
  pub held : (q : ℕ) → is_marked ms q ≡ true → HasParts d q
  pub right : (q : ℕ) → is_marked ms q ≡ true → Reaches d.slots (numbers roots) q
  pub whole : (q : ℕ) → HasParts d q → Reaches d.slots (numbers roots) q → is_marked ms q ≡ true

-- the nodes of new are those of old that have a mark
pub record KeepsMarked (old new : Diagram) (ms : List Bool) : Type 0 where
  pub kept : (n : ℕ) (p : Parts) → parts_of old.slots n ≡ Some p → is_marked ms n ≡ true → parts_of new.slots n ≡ Some p
  pub was : (n : ℕ) (p : Parts) → parts_of new.slots n ≡ Some p → parts_of old.slots n ≡ Some p
  pub only : (n : ℕ) (p : Parts) → parts_of new.slots n ≡ Some p → is_marked ms n ≡ true
