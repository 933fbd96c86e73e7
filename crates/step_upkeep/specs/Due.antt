-- When upkeep is due, and the order of variables that is then in force.
use Rattle.std.specs.Prelude.{◌≡◌, ℕ, ◌%◌, Bool, true, false, ◌&&◌, ◌==◌, not, List, length}
use Rattle.bit_lists.specs.Orders.{IsOrder}
use Rattle.diagram_model.specs.Functions.{Function}
use Rattle.sifting.specs.Answers.{SiftsTo}

-- after each so many gates, and never where that is 0 or no gate came yet
abbrev pub is_due : ℕ → ℕ → Bool
is_due every gates = (not (every == 0) && not (gates == 0)) && (gates % every == 0)

-- the order in force at a step after so many gates, for the functions that are stored then: where a sift is due, the one that sifting all
-- variables in turn leads to within the limit, and else the one before
pub record IsInForce (every gates : ℕ) (fs : List Function) (limit : ℕ) (order new : List ℕ) : Type 0 where
  pub sifted : is_due every gates ≡ true → SiftsTo fs limit (length order) 0 order new
  pub same : is_due every gates ≡ false → new ≡ order

-- the order where memory ran out: where a sift was due, it may be any order of the variables, and else it is the one before
pub record IsLeft (every gates : ℕ) (order new : List ℕ) : Type 0 where
  pub is_order : IsOrder new
  pub variables : length new ≡ length order
  pub same : is_due every gates ≡ false → new ≡ order
