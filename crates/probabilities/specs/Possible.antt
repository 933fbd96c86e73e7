-- Which outcomes a measurement may have, one after another.
use Rattle.std.specs.Prelude.{◌≡◌, ◌≢◌, Bool, List, length, Option}
use Rattle.ring_omega.specs.declared.quad.Quad.{Quad}
use Rattle.ring_omega.specs.Ring.{zero_quad}
use Rattle.bit_lists.specs.Lists.{IsBefore}
use Rattle.amp_dense.specs.Nonzero.{IsAfter}
use Rattle.probabilities.specs.Weighing.{IsNarrow}
use Rattle.probabilities.specs.Outcomes.{measured_count, measured_bits, outcome_weight}

-- some state with the outcome y has an entry that isn't zero
pub record IsPossible (measured : List Bool) (v : List Bool → Quad) (y : List Bool) : Type 0 where
  pub state : List Bool
  pub long : length state ≡ length measured
  pub outcome : measured_bits measured state ≡ y
  pub nonzero : v state ≢ zero_quad

-- the entries of all states with the outcome y are zero
abbrev pub IsImpossible : List Bool → (List Bool → Quad) → List Bool → Type 0
IsImpossible measured v y = (x : List Bool) → length x ≡ length measured → measured_bits measured x ≡ y → v x ≡ zero_quad

-- no outcome after the given one is possible
abbrev pub NoOutcomeAfter : List Bool → (List Bool → Quad) → Option (List Bool) → Type 0
NoOutcomeAfter measured v given = (y : List Bool) → length y ≡ measured_count measured → IsAfter given y → IsImpossible measured v y

-- y is the first outcome after the given one that is possible
pub record IsNextOutcome (measured : List Bool) (v : List Bool → Quad) (given : Option (List Bool)) (y : List Bool) : Type 0 where
  pub long : length y ≡ measured_count measured
  pub after : IsAfter given y
  pub possible : IsPossible measured v y
  pub first : (z : List Bool) → length z ≡ measured_count measured → IsAfter given z → IsBefore z y → IsImpossible measured v z

-- the weight of the first possible outcome after the given one is too wide
pub record IsNextTooWide (measured : List Bool) (v : List Bool → Quad) (given : Option (List Bool)) : Type 0 where
  pub outcome : List Bool
  pub next : IsNextOutcome measured v given outcome
  pub wide : ¬ IsNarrow (outcome_weight measured v outcome)
