use Rattle.std.proofs.Common.{◌≡◌, ℕ, ◌<◌, ◌≤◌, length, get_or}
use Rattle.bit_lists.proofs.order.Order.natural.Given as goal

abbrev pub invariant-loop-var : goal.invariant-loop-var
invariant-loop-var l = record {
  size : length l.variables ≡ 128;
  same : (k : ℕ) → k < l.var → get_or l.variables k 0 ≡ k;
  rest : (k : ℕ) → l.var ≤ k → get_or l.variables k 0 ≡ 0;
}
