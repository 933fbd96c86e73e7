-- The order in force at the next gate of a product.
use Rattle.std.proofs.Common.{◌≡◌, ℕ, List, length}
use Rattle.amp_dense.specs.Chains.{StandingOf}
use Rattle.bit_lists.specs.Orders.{IsOrder}
use Rattle.step_upkeep.specs.Chains.{Chain, IsNextOrder, stored_of}
use Rattle.step_upkeep.proofs.InForce.{one_in_force, some_in_force, is_in_force}

module _ {X G : Type 0} (c : Chain X G) (s : StandingOf X G) where
  -- there is one
  pub one_next_order : (a b : List ℕ) → IsNextOrder c s a → IsNextOrder c s b → a ≡ b
  one_next_order = one_in_force s.rules.sift (length s.gates) (stored_of c s) s.rules.nodes s.order

  pub some_next_order : IsOrder s.order → (order : List ℕ) × IsNextOrder c s order
  some_next_order = some_in_force s.rules.sift (length s.gates) (stored_of c s) s.rules.nodes s.order

  -- it is an order of as many variables
  pub is_next_order : (order : List ℕ) → IsOrder s.order → IsNextOrder c s order → IsOrder order × (length order ≡ length s.order)
  is_next_order = is_in_force s.rules.sift (length s.gates) (stored_of c s) s.rules.nodes s.order
