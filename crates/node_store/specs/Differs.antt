-- Where two nodes have different values.
use Rattle.std.specs.Prelude.{◌≡◌, ◌≢◌, ℕ, Bool, true, false, List, length, Option}
use Rattle.bit_lists.specs.Partials.{agrees}
use Rattle.diagram_model.specs.Functions.{bit}
use Rattle.diagram_model.specs.Nodes.{value}
use Rattle.diagram_model.specs.Stores.{Diagram}

-- some bit list that agrees with p has different values of f and g
pub record Differ (d : Diagram) (p : List (Option Bool)) (f g : ℕ) : Type 0 where
  pub at : List Bool
  pub long : length at ≡ length d.order
  pub agreeing : agrees p at ≡ true
  pub values : value d.slots d.order (bit at) f ≢ value d.slots d.order (bit at) g

-- each bit list that agrees with p has the same value of f and g
abbrev pub Coincide : Diagram → List (Option Bool) → ℕ → ℕ → Type 0
Coincide d p f g =
    (x : List Bool) → length x ≡ length d.order → agrees p x ≡ true → value d.slots d.order (bit x) f ≡ value d.slots d.order (bit x) g

-- n is true for some bit list that agrees with p
pub record IsTrueSomewhere (d : Diagram) (p : List (Option Bool)) (n : ℕ) : Type 0 where
  pub at : List Bool
  pub long : length at ≡ length d.order
  pub agreeing : agrees p at ≡ true
  pub is : value d.slots d.order (bit at) n ≡ true

-- n is false for each bit list that agrees with p
abbrev pub IsFalseThroughout : Diagram → List (Option Bool) → ℕ → Type 0
IsFalseThroughout d p n =
    (x : List Bool) → length x ≡ length d.order → agrees p x ≡ true → value d.slots d.order (bit x) n ≡ false
