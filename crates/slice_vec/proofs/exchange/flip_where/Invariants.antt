use Rattle.std.proofs.Common.{◌≡◌, ◌+◌, ◌≤◌, length}
use Rattle.diagram_model.specs.Stores.{function_of}
use Rattle.diagram_ops.specs.Flips.{exchanged}
use Rattle.diagram_ops.specs.Bounds.{TakesAtMost}
use Rattle.slice_vec.specs.Bounds.{total, turning}
use Rattle.slice_vec.specs.Digits.{turned}
use Rattle.slice_vec.specs.Growing.{Denotes}
use Rattle.slice_vec.specs.Slices.{digits_of}
use Rattle.slice_vec.proofs.Followed.{Follows}
use Rattle.slice_vec.proofs.exchange.flip_where.Given as goal

abbrev pub invariant-loop-i : goal.invariant-loop-i
invariant-loop-i g l = record {
  count : length l.row.nodes ≡ l.i;
  room : length l.fn.x ≤ l.i + l.row.room;
  below : Denotes l.d.store l.below.to.0 (exchanged l.fn.var (function_of l.fn.d.store l.fn.n.0) (function_of l.d.store l.below.from.0));
  follows : Follows l.fn.d (length l.fn.x) (turned l.fn.var (function_of l.fn.d.store l.fn.n.0) (digits_of l.fn.d.store l.fn.x)) l.d l.row.nodes;
  steps : TakesAtMost (total (turning l.fn.d.store l.fn.var (function_of l.fn.d.store l.fn.n.0) (digits_of l.fn.d.store l.fn.x)) l.i) l.fn.d.store l.d.store l.fn.steps l.steps;
}
