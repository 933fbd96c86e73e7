-- An entry after a step, alike for both sides.
use Rattle.std.proofs.Common.{◌≡◌, ℕ, Bool, cond, List, ◌++◌, length, ◌∙◌}
use Rattle.ring_omega.specs.declared.quad.Quad.{Quad}
use Rattle.bit_lists.specs.Lists.{all_lists, place_of}
use Rattle.gate_set.specs.declared.gate.Gate.{Gate}
use Rattle.gate_set.specs.Matrix.{arity_of, beside, times_entry}
use Rattle.circuit_model.specs.Product.{sum_over}
use Rattle.circuit_model.specs.Vector.{at, all_set}
use Rattle.circuit_model.proofs.Controlled.{applied-controlled, controlled_turned}
use Rattle.comparison.specs.Products.{right_product, times_step, by_position}
use Rattle.comparison.specs.declared.turns.Side.{Side}
use Rattle.comparison.specs.declared.turns.Side.TheVariants.{Left, Right}
use Rattle.comparison.specs.Sides.{step_of}
use Rattle.dense_matrix.specs.Sides.{own, part}

-- the own bits stand at the own place
pub own_at : (side : Side) (n : ℕ) (r c : List Bool) (i j : ℕ) → length r ≡ n → length c ≡ n → place_of r ≡ i → place_of c ≡ j
    → (length (own side r c) ≡ n) × (place_of (own side r c) ≡ own side i j)
own_at Left n r c i j lr lc er ec = (lr, er)
own_at Right n r c i j lr lc er ec = (lc, ec)

-- the terms where all further controls are 1, and elsewhere the old entry times what stands beside the kind's matrix
pub step-parts : (side : Side) (g : Gate) (state : List Quad) (r c : List Bool) → length g.on ≡ arity_of g.kind
    → times_step (step_of side g) (by_position (at state)) r c
    ≡ cond (all_set (own side r c) g.extra) (sum_over (all_lists (length g.on)) (part side g state r c)) (times_entry (beside g.kind) (at state (r ++ c)))
unfolding part right_product
step-parts Left g state r c count = applied-controlled g (λ s. at state (s ++ c)) r count
step-parts Right g state r c count = controlled_turned g.kind g.extra g.on (λ s. at state (r ++ s)) c count
