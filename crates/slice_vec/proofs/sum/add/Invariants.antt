use Rattle.std.proofs.Common.{◌≡◌, ◌+◌, ◌≤◌, length}
use Rattle.slice_vec.specs.Slices.{sum_width}
use Rattle.diagram_ops.specs.Bounds.{TakesAtMost}
use Rattle.slice_vec.specs.Bounds.{total}
use Rattle.slice_vec.proofs.Sums.{Ripples, place_steps}
use Rattle.slice_vec.proofs.sum.add.Given as goal

abbrev pub invariant-loop-i : goal.invariant-loop-i
invariant-loop-i g l = record {
  count : length l.row.nodes ≡ l.i;
  room : sum_width l.fn.x l.fn.y ≤ l.i + l.row.room;
  ripples : Ripples l.fn.d l.fn.x l.fn.y l.d l.row.nodes l.carry.0;
  steps : TakesAtMost (total (place_steps l.fn.d.store l.fn.x l.fn.y) l.i) l.fn.d.store l.d.store l.fn.steps l.steps;
}
