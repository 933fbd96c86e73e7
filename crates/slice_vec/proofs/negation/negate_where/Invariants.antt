use Rattle.std.proofs.Common.{◌≡◌, ◌+◌, ◌≤◌, length}
use Rattle.diagram_ops.specs.Bounds.{TakesAtMost}
use Rattle.slice_vec.specs.Bounds.{total}
use Rattle.slice_vec.proofs.Negations.{Negates, bit_steps}
use Rattle.slice_vec.proofs.negation.negate_where.Given as goal

abbrev pub invariant-loop-i : goal.invariant-loop-i
invariant-loop-i g l = record {
  count : length l.row.nodes ≡ l.i;
  room : length l.fn.x + 1 ≤ l.i + l.row.room;
  negates : Negates l.fn.d l.fn.n.0 l.fn.x l.d l.row.nodes l.carry.0;
  steps : TakesAtMost (total (bit_steps l.fn.d.store l.fn.n.0 l.fn.x) l.i) l.fn.d.store l.d.store l.fn.steps l.steps;
}
