use Rattle.std.proofs.Common.{◌≡◌, length}
use Rattle.tests_states.proofs.four_tests.each_row.Given as goal

-- both states stay on four qubits
abbrev pub invariant-loop-row : goal.invariant-loop-row
invariant-loop-row l = record { sliced : length l.sliced.input ≡ 4; dense : length l.dense.input ≡ 4 }
