use Rattle.std.proofs.Common.{◌≡◌, ℕ, ◌+◌, ◌-◌, ◌≤◌, length}
use Rattle.slice_vec.specs.Slices.{bit_node}
use Rattle.slice_vec.proofs.shape.trimmed_width.Given as goal

abbrev pub invariant-loop-width : goal.invariant-loop-width
invariant-loop-width l = record {
  within : l.width ≤ length l.fn.x;
  short : length l.fn.x ≤ 2 → l.width ≡ length l.fn.x;
  two : 2 ≤ length l.fn.x → 2 ≤ l.width;
  same : (i : ℕ) → l.width ≤ i + 1 → bit_node l.fn.x i ≡ bit_node l.fn.x (l.width - 1);
}

abbrev pub decreases-loop-width : goal.decreases-loop-width
decreases-loop-width l = l.width
