-- Which nodes a call makes, and what a refusal says.
use Rattle.std.specs.Prelude.{◌≡◌, ◌≢◌, ◌⊎◌, ℕ, List, [], ◌∷◌, Some}
use Rattle.diagram_model.specs.declared.parts.Parts.{Parts}
use Rattle.diagram_model.specs.Functions.{Function, IsPrefixOf}
use Rattle.diagram_model.specs.Nodes.{parts_of}
use Rattle.diagram_model.specs.Stores.{Diagram, held, IsLive, function_of}
use Rattle.node_store.specs.declared.node.StoreStop.{StoreStop}
use Rattle.node_store.specs.declared.node.StoreStop.TheVariants.{Full, OutOfMemory}

-- a property of functions
abbrev pub Property : Type 1
Property = Function → Type 0

-- each node of new that old lacks denotes a function of this kind
abbrev pub MakesOnly : Diagram → Diagram → Property → Type 0
MakesOnly old new Is = (n : ℕ) (p : Parts) → parts_of new.slots n ≡ Some p → (parts_of old.slots n ≡ Some p) ⊎ Is (function_of new n)

-- the store is full, and some function of this kind is denoted by no live node
pub record IsMissing (d : Diagram) (Is : Property) : Type 0 where
  pub full : held d ≡ d.limit
  pub missing : Function
  pub is : Is missing
  pub none : (n : ℕ) → IsLive d n → function_of d n ≢ missing

-- what a refusal says
abbrev pub StopIs : Diagram → Property → StoreStop → Type 0
StopIs d Is (Full h) = (h ≡ d.limit) × IsMissing d Is
StopIs d Is OutOfMemory = Unit {0}

-- g arises from one of the functions by fixing the variables of a prefix of the order
unfoldable pub IsPrefixOfSome : List ℕ → List Function → Function → Type 0
IsPrefixOfSome vs [] g = ⊥
IsPrefixOfSome vs (f ∷ fs) g = IsPrefixOf vs f g ⊎ IsPrefixOfSome vs fs g
