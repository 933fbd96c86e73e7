use Rattle.std.proofs.Common.{◌≡◌}
use Rattle.tests_matrices.proofs.products.are_multiplied.Given as goal

-- the matrix stays on four qubits
abbrev pub invariant-loop-row : goal.invariant-loop-row
invariant-loop-row l = l.m.qubits ≡ 4
