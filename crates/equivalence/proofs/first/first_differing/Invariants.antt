use Rattle.std.proofs.Common.{◌+◌}
use Rattle.slice_quad.proofs.Walking.{IsSoFar}
use Rattle.equivalence.specs.Matrices.{matrix_in}
use Rattle.equivalence.specs.Positions.{rest_at}
use Rattle.equivalence.proofs.first.first_differing.Given as goal

abbrev pub invariant-loop-i : goal.invariant-loop-i
invariant-loop-i l = record {
  so_far : IsSoFar (l.fn.qubits + l.fn.qubits) (rest_at l.fn.qubits (matrix_in l.fn.d.store l.fn.q)) 0 l.fn.x l.i l.at;
}
