use Rattle.std.proofs.Common.{◌≡◌, length}
use Rattle.tests_states.proofs.four_tests.each_gate.Given as goal

-- both states stay on four qubits
abbrev pub invariant-loop-number : goal.invariant-loop-number
invariant-loop-number l = record { sliced : length l.sliced.input ≡ 4; dense : length l.dense.input ≡ 4 }
