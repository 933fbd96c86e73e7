-- Sets of nodes that a walk has met.
use Rattle.std.specs.Prelude.{◌≡◌, ◌⊎◌, ℕ, Bool, true, List, Some}
use Rattle.diagram_model.specs.declared.parts.Parts.{Parts}
use Rattle.diagram_model.specs.Nodes.{parts_of, child}
use Rattle.diagram_model.specs.Stores.{Diagram, HasParts}
use Rattle.diagram_model.specs.Reach.{is_in, Reaches}

-- held nodes, with all held nodes below them
pub record IsClosed (d : Diagram) (ks : List ℕ) : Type 0 where
  pub held : (q : ℕ) → is_in ks q ≡ true → HasParts d q
  pub children : (q : ℕ) (p : Parts) (b : Bool) → is_in ks q ≡ true → parts_of d.slots q ≡ Some p → HasParts d (child b p) → is_in ks (child b p) ≡ true

-- each number of old is in new
abbrev pub Keeps : List ℕ → List ℕ → Type 0
Keeps old new = (q : ℕ) → is_in old q ≡ true → is_in new q ≡ true

-- what new has besides old is reached from any roots from which n is reached
abbrev pub AddsReached : Diagram → ℕ → List ℕ → List ℕ → Type 0
AddsReached d n old new =
    (roots : List ℕ) → Reaches d.slots roots n → (q : ℕ) → is_in new q ≡ true → (is_in old q ≡ true) ⊎ Reaches d.slots roots q
