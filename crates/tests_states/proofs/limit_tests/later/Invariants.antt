use Rattle.std.proofs.Common.{◌≡◌, length}
use Rattle.tests_states.proofs.limit_tests.later.Given as goal

-- both states stay on as many qubits
abbrev pub invariant-loop-place : goal.invariant-loop-place
invariant-loop-place l = record { sliced : length l.sliced.input ≡ l.circuit.qubits; dense : length l.dense.input ≡ l.circuit.qubits }
