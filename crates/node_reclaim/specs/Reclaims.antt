-- What is left of a store once the nodes that are not reached from roots, or those of a list, are freed.
use Rattle.std.specs.Prelude.{◌≡◌, ℕ, Bool, false, List, Some}
use Rattle.diagram_model.specs.declared.parts.Parts.{Parts}
use Rattle.diagram_model.specs.Nodes.{parts_of, child}
use Rattle.diagram_model.specs.Reach.{is_in, Reaches}
use Rattle.diagram_model.specs.Stores.{Diagram, function_of}
use Rattle.diagram_ops.specs.Made.{Property}
use Rattle.node_store.specs.declared.node.Node.{Node}
use Rattle.node_store.specs.Marks.{numbers}

-- the nodes of new are those of old that are reached from the roots, with their parts
pub record KeepsReached (old new : Diagram) (roots : List Node) : Type 0 where
  pub kept : (n : ℕ) (p : Parts) → parts_of old.slots n ≡ Some p → Reaches old.slots (numbers roots) n → parts_of new.slots n ≡ Some p
  pub was : (n : ℕ) (p : Parts) → parts_of new.slots n ≡ Some p → parts_of old.slots n ≡ Some p
  pub only : (n : ℕ) (p : Parts) → parts_of new.slots n ≡ Some p → Reaches old.slots (numbers roots) n

-- each held node denotes a function of this kind
abbrev pub HoldsOnly : Diagram → Property → Type 0
HoldsOnly d Is = (n : ℕ) (p : Parts) → parts_of d.slots n ≡ Some p → Is (function_of d n)

-- no held node outside the list has a held node of the list as a child
abbrev pub NoneIsChild : Diagram → List ℕ → Type 0
NoneIsChild d ns =
    (n : ℕ) (p : Parts) (b : Bool) (q : Parts) → parts_of d.slots n ≡ Some p → is_in ns n ≡ false → parts_of d.slots (child b p) ≡ Some q → is_in ns (child b p) ≡ false

-- the nodes of new are those of old that are not in the list, with their parts
pub record KeepsOthers (old new : Diagram) (ns : List ℕ) : Type 0 where
  pub kept : (n : ℕ) (p : Parts) → parts_of old.slots n ≡ Some p → is_in ns n ≡ false → parts_of new.slots n ≡ Some p
  pub was : (n : ℕ) (p : Parts) → parts_of new.slots n ≡ Some p → parts_of old.slots n ≡ Some p
  pub only : (n : ℕ) (p : Parts) → parts_of new.slots n ≡ Some p → is_in ns n ≡ false
