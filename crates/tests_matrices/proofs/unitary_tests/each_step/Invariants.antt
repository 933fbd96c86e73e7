use Rattle.std.proofs.Common.{◌≡◌}
use Rattle.tests_matrices.proofs.unitary_tests.each_step.Given as goal

-- the matrix keeps its qubits
abbrev pub invariant-loop-side : goal.invariant-loop-side
invariant-loop-side l = l.m.qubits ≡ l.qubits
