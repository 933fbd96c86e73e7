-- How many nodes are always enough for a step.
use Rattle.std.proofs.Common.{◌≡◌, ℕ, ◌+◌, ◌*◌, ◌^◌, ◌≤◌, List, length, Err, ◌∙◌}
use Rattle.bit_lists.specs.Orders.{IsOrder}
use Rattle.gate_set.specs.Shape.{IsOn}
use Rattle.comparison.specs.Products.{Step, gate_of, by_position, work_matrix}
use Rattle.comparison.specs.Products.Step.{left, right}
use Rattle.amp_dense.specs.declared.stop.Stop.TheVariants.{Nodes}
use Rattle.slice_gates.specs.declared.side.Side.TheVariants.{Rows, Columns}
use Rattle.slice_quad.specs.RowsColumns.{row_equals_column}
use Rattle.step_upkeep.specs.Chains.{work_of}
use Rattle.step_upkeep.proofs.Enough.{work_few, enough_nodes}
use Rattle.step_upkeep.proofs.Orders.{is_next_order}
use Rattle.unitary_update.specs.Kept.{Standing, by_variables, matrix_chain, Applies}

-- a step has few work functions
step_few : (s : Standing) (t : Step) → IsOn s.input (gate_of t) → length (work_of matrix_chain s t) ≤ 64 * (s.rules.width + 2) + 130
step_few s (left g) on = work_few (2 * s.input) s.rules.width Rows (row_equals_column s.input) g (by_variables s.input (by_position (work_matrix s.input s.gates).entries)) on.placed
step_few s (right g) on = work_few (2 * s.input) s.rules.width Columns (row_equals_column s.input) g (by_variables s.input (by_position (work_matrix s.input s.gates).entries)) on.placed

-- under such a limit they need fewer nodes than it, in whatever order, and so the step isn't refused for want of nodes
pub enough : (s : Standing) (t : Step) → IsOn s.input (gate_of t) → IsOrder s.order → length s.order ≡ 2 * s.input → (64 * (s.rules.width + 2) + 130) * 2 ^ (2 * s.input) ≤ s.rules.nodes
    → (number : ℕ) (order : List ℕ) (held : ℕ) → ¬ Applies s t (Err (Nodes number order held))
enough s t on is long limit number order held h =
    enough_nodes s.rules.width (2 * s.input) s.rules.nodes order (work_of matrix_chain s t) (step_few s t on) ((is_next_order matrix_chain s order is h.1.reordered).1 ∙ long) limit h.1.allowed
