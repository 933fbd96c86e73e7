-- Facts on each element of a list and the elements before it.
use Rattle.std.specs.Prelude.{◌≡◌, ℕ, ◌+◌, List, ◌∷◌, ◌++◌, length}

-- P holds of each element behind those before it
abbrev pub AtEach : {X : Type 0} → (List X → X → Type 0) → List X → Type 0
AtEach {X} P xs = (front rest : List X) (x : X) → xs ≡ front ++ x ∷ rest → P front x

-- the element of this number, counted from 1, is the first of which P doesn't hold
pub record IsFirstFailing {X : Type 0} (P : List X → X → Type 0) (xs : List X) (number : ℕ) : Type 0 where
  pub front : List X
  pub element : X
  pub rest : List X
  pub split : xs ≡ front ++ element ∷ rest
  pub count : number ≡ length front + 1
  pub before : AtEach P front
  pub fails : ¬ P front element
