use Rattle.std.proofs.Common.{◌≡◌, ◌+◌, ◌≤◌, length, max}
use Rattle.diagram_ops.specs.Diagrams.{variable_of}
use Rattle.diagram_ops.specs.Bounds.{TakesAtMost}
use Rattle.slice_vec.specs.Bounds.{total, merging}
use Rattle.slice_vec.specs.Digits.{chosen, fixed}
use Rattle.slice_vec.specs.Slices.{digits_of}
use Rattle.slice_vec.proofs.Followed.{Follows}
use Rattle.slice_vec.proofs.merging.select_fixed.Given as goal

abbrev pub invariant-loop-i : goal.invariant-loop-i
invariant-loop-i g l = record {
  count : length l.row.nodes ≡ l.i;
  room : max (length l.fn.x) (length l.fn.y) ≤ l.i + l.row.room;
  follows : Follows l.fn.d (max (length l.fn.x) (length l.fn.y)) (chosen (variable_of l.fn.var) (fixed l.fn.var l.fn.bit (digits_of l.fn.d.store l.fn.x)) (fixed l.fn.var l.fn.bit (digits_of l.fn.d.store l.fn.y))) l.d l.row.nodes;
  steps : TakesAtMost (total (λ j. merging l.fn.d.store l.fn.var l.fn.bit (digits_of l.fn.d.store l.fn.x j) (digits_of l.fn.d.store l.fn.y j)) l.i) l.fn.d.store l.d.store l.fn.steps l.steps;
}
