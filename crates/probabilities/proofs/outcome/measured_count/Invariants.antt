use Rattle.std.proofs.Common.{◌≡◌, ◌≤◌, take}
use Rattle.probabilities.specs.Outcomes.{measured_count}
use Rattle.probabilities.proofs.outcome.measured_count.Given as goal

-- the measured ones so far
abbrev pub invariant-loop-i : goal.invariant-loop-i
invariant-loop-i l = record { count : l.count ≡ measured_count (take l.i l.measured); few : l.count ≤ l.i }
