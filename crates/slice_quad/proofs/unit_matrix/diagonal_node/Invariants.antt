use Rattle.std.proofs.Common.{◌-◌}
use Rattle.diagram_model.specs.Stores.{Extends}
use Rattle.slice_quad.specs.IdentityBuilt.{IsDiagonalFrom}
use Rattle.slice_quad.proofs.unit_matrix.diagonal_node.Given as goal

abbrev pub invariant-loop-i : goal.invariant-loop-i
invariant-loop-i g l = record {
  built : IsDiagonalFrom l.store l.fn.qubits (l.fn.qubits - l.i) l.node.0;
  extends : Extends l.fn.store l.store;
}
