use Rattle.std.proofs.Common.{◌≡◌, length}
use Rattle.tests_states.proofs.limit_tests.are_first_applied.Given as goal

-- the state stays on as many qubits
abbrev pub invariant-loop-place : goal.invariant-loop-place
invariant-loop-place g l = length (g.A.Amplitudes.standing l.state).input ≡ l.fn.circuit.qubits
