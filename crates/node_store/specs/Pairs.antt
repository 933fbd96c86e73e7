-- Where two nodes differ, for assignments, and the pairs that a walk has met. Only private functions
-- use these words.
use Rattle.std.specs.Prelude.{◌≡◌, ◌≢◌, ℕ, Bool, true, ◌&&◌, ◌==◌, List, Option, Some, None, slice_index_or}
use Rattle.std.specs.List.{list_any}
use Rattle.diagram_model.specs.Functions.{Assignment}
use Rattle.diagram_model.specs.Nodes.{value}
use Rattle.diagram_model.specs.Stores.{Diagram}

-- x has the fixed values of p
abbrev pub Agrees : List (Option Bool) → Assignment → Type 0
Agrees p x = (v : ℕ) (b : Bool) → slice_index_or p v None ≡ Some b → x v ≡ b

-- some assignment that agrees with p has different values of f and g
pub record DifferAt (d : Diagram) (p : List (Option Bool)) (f g : ℕ) : Type 0 where
  pub at : Assignment
  pub agreeing : Agrees p at
  pub values : value d.slots d.order at f ≢ value d.slots d.order at g

-- each assignment that agrees with p has the same value of f and g
abbrev pub CoincideAt : Diagram → List (Option Bool) → ℕ → ℕ → Type 0
CoincideAt d p f g = (x : Assignment) → Agrees p x → value d.slots d.order x f ≡ value d.slots d.order x g

-- whether the pair is in the set
abbrev pub is_pair : List (ℕ × ℕ) → ℕ → ℕ → Bool
is_pair ks f g = list_any (λ k. f == k.0 && g == k.1) ks

-- the pairs of a set coincide
abbrev pub AllCoincide : Diagram → List (Option Bool) → List (ℕ × ℕ) → Type 0
AllCoincide d p ks = (f g : ℕ) → is_pair ks f g ≡ true → CoincideAt d p f g
