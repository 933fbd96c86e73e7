use Rattle.std.proofs.Common.{ℕ, ◌<◌}
use Rattle.node_store.specs.Differs.{Coincide}
use Rattle.slice_vec.specs.Slices.{bit_node}
use Rattle.equivalence.specs.Positions.{wanted}
use Rattle.equivalence.proofs.asking.is_unlike.Given as goal

abbrev pub invariant-loop-i : goal.invariant-loop-i
invariant-loop-i l = record {
  same : (j : ℕ) → j < l.i → Coincide l.fn.d.store l.fn.p (bit_node l.fn.x j) (wanted l.fn.d.store l.fn.kept.0 l.fn.zeros (bit_node l.fn.x j));
}
