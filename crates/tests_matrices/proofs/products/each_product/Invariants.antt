use Rattle.std.proofs.Common.{◌≡◌}
use Rattle.tests_matrices.proofs.products.each_product.Given as goal

-- the matrix stays on four qubits
abbrev pub invariant-loop-number : goal.invariant-loop-number
invariant-loop-number l = l.m.qubits ≡ 4
