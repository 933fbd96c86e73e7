-- What a walk that marks nodes keeps. Only private functions use these words.
use Rattle.std.specs.Prelude.{◌≡◌, ◌⊎◌, ℕ, ◌<◌, Bool, true, false, List, Some, length}
use Rattle.diagram_model.specs.declared.parts.Parts.{Parts}
use Rattle.diagram_model.specs.Nodes.{parts_of, child}
use Rattle.diagram_model.specs.Stores.{Diagram, HasParts}
use Rattle.diagram_model.specs.Reach.{Reaches}
use Rattle.node_store.specs.Marks.{is_marked}

-- no node is marked
abbrev pub AreUnmarked : List Bool → Type 0
AreUnmarked ms = (q : ℕ) → is_marked ms q ≡ false

-- there is a place for the mark of each held node
abbrev pub HasPlaces : Diagram → List Bool → Type 0
HasPlaces d ms = (q : ℕ) → HasParts d q → q < length ms

-- the marked nodes are held, and with a node all held nodes below it are marked
pub record AreClosed (d : Diagram) (ms : List Bool) : Type 0 where
  pub held : (q : ℕ) → is_marked ms q ≡ true → HasParts d q
  pub children : (q : ℕ) (p : Parts) (b : Bool) → is_marked ms q ≡ true → parts_of d.slots q ≡ Some p → HasParts d (child b p) → is_marked ms (child b p) ≡ true

-- each mark of old is in new
abbrev pub KeepsMarks : List Bool → List Bool → Type 0
KeepsMarks old new = (q : ℕ) → is_marked old q ≡ true → is_marked new q ≡ true

-- what new marks besides old is reached from any roots from which n is reached
abbrev pub MarksReached : Diagram → ℕ → List Bool → List Bool → Type 0
MarksReached d n old new =
    (roots : List ℕ) → Reaches d.slots roots n → (q : ℕ) → is_marked new q ≡ true → (is_marked old q ≡ true) ⊎ Reaches d.slots roots q
