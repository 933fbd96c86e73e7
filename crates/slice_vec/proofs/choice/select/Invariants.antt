use Rattle.std.proofs.Common.{◌≡◌, ◌+◌, ◌≤◌, length, max}
use Rattle.diagram_model.specs.Stores.{function_of}
use Rattle.diagram_ops.specs.Bounds.{TakesAtMost}
use Rattle.slice_vec.specs.Bounds.{total, choosing}
use Rattle.slice_vec.specs.Digits.{chosen}
use Rattle.slice_vec.specs.Slices.{digits_of}
use Rattle.slice_vec.proofs.Followed.{Follows}
use Rattle.slice_vec.proofs.choice.select.Given as goal

abbrev pub invariant-loop-i : goal.invariant-loop-i
invariant-loop-i g l = record {
  count : length l.row.nodes ≡ l.i;
  room : max (length l.fn.x) (length l.fn.y) ≤ l.i + l.row.room;
  follows : Follows l.fn.d (max (length l.fn.x) (length l.fn.y)) (chosen (function_of l.fn.d.store l.fn.n.0) (digits_of l.fn.d.store l.fn.x) (digits_of l.fn.d.store l.fn.y)) l.d l.row.nodes;
  steps : TakesAtMost (total (choosing l.fn.d.store (function_of l.fn.d.store l.fn.n.0) (digits_of l.fn.d.store l.fn.x) (digits_of l.fn.d.store l.fn.y)) l.i) l.fn.d.store l.d.store l.fn.steps l.steps;
}
