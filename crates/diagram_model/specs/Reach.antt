-- The nodes that are reached from a list of nodes.
use Rattle.std.specs.Prelude.{◌≡◌, ℕ, Bool, true, ◌==◌, List, Option, Some}
use Rattle.std.specs.Set.{is_member}
use Rattle.diagram_model.specs.declared.parts.Parts.{Parts}
use Rattle.diagram_model.specs.Nodes.{parts_of, child}

-- whether n is in the list
abbrev pub is_in : List ℕ → ℕ → Bool
is_in ns n = is_member (λ a b. a == b) ns n

pub data Reaches (s : List (Option Parts)) (roots : List ℕ) : ℕ → Type 0 where
  root : (n : ℕ) → is_in roots n ≡ true → Reaches s roots n
  step : (n : ℕ) (p : Parts) (b : Bool) → Reaches s roots n → parts_of s n ≡ Some p → Reaches s roots (child b p)
