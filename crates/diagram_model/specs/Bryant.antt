-- What the size of a list of functions counts, and its bound.
use Rattle.std.specs.Prelude.{◌≡◌, ◌⊎◌, ℕ, Bool, true, List, [], ◌∷◌, length}
use Rattle.diagram_model.specs.Functions.{Function, fix}
use Rattle.diagram_model.specs.Size.{truths, depends}

-- g is f with the variables of a prefix of the order fixed, and depends on the next variable
abbrev pub IsCountedFrom : ℕ → List ℕ → Function → Function → Type 0
IsCountedFrom k [] f g = ⊥
IsCountedFrom k (v ∷ vs) f g = ((g ≡ f) × (depends k v g ≡ true)) ⊎ ((b : Bool) × IsCountedFrom k vs (fix v b f) g)

-- f is one of the functions
abbrev pub IsOneOf : List Function → Function → Type 0
IsOneOf [] f = ⊥
IsOneOf (g ∷ gs) f = (f ≡ g) ⊎ IsOneOf gs f

-- t is the truth list of a function that arises from one of the functions by fixing the variables of a
-- prefix of the order, and that depends on the next variable
pub record IsCounted (k : ℕ) (order : List ℕ) (fs : List Function) (t : List Bool) : Type 0 where
  pub from : Function
  pub one : IsOneOf fs from
  pub function : Function
  pub counted : IsCountedFrom k order from function
  pub is : t ≡ truths k function

abbrev pub IsIn : List Bool → List (List Bool) → Type 0
IsIn t [] = ⊥
IsIn t (u ∷ us) = (t ≡ u) ⊎ IsIn t us

abbrev pub AreDifferent : List (List Bool) → Type 0
AreDifferent [] = Unit {0}
AreDifferent (t ∷ ts) = (IsIn t ts → ⊥) × AreDifferent ts

-- n is the number of truth lists of a kind: the length of a list that has each of them once
pub record IsNumberOf (Is : List Bool → Type 0) (n : ℕ) : Type 0 where
  pub all : List (List Bool)
  pub once : AreDifferent all
  pub right : (t : List Bool) → IsIn t all → Is t
  pub whole : (t : List Bool) → Is t → IsIn t all
  pub count : length all ≡ n
