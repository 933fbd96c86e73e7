use Rattle.std.proofs.Common.{◌≡◌, ◌≤◌, ◌+◌, min, length}
use Rattle.qasm_reader.specs.Private.Scope.{many}
use Rattle.qasm_reader.proofs.calls.count_rest.Given as goal

-- those so far and those that are left
abbrev pub invariant-loop-count : goal.invariant-loop-count
invariant-loop-count l = record { all : min (l.count + length l.rest) many ≡ min (length l.fn.angles) many; few : l.count ≤ many }

abbrev pub decreases-loop-count : goal.decreases-loop-count
decreases-loop-count l = length l.rest
