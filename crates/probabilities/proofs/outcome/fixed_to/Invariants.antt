use Rattle.std.proofs.Common.{◌≡◌, ◌++◌, length, take, drop}
use Rattle.probabilities.specs.Outcomes.{measured_count, fixed_to}
use Rattle.probabilities.proofs.outcome.fixed_to.Given as goal

-- the values so far, and how many bits of the outcome they took
abbrev pub invariant-loop-i : goal.invariant-loop-i
invariant-loop-i l = record {
  long : length l.p ≡ length l.measured;
  taken : l.j ≡ measured_count (take l.i l.measured);
  values : fixed_to l.measured l.y ≡ take l.i l.p ++ fixed_to (drop l.i l.measured) (drop l.j l.y);
}
