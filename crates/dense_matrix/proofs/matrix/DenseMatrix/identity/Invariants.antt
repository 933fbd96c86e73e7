use Rattle.std.proofs.Common.{◌≡◌, ◌+◌, map, take}
use Rattle.ring_omega.specs.Ring.{one_quad}
use Rattle.bit_lists.specs.Lists.{all_lists}
use Rattle.comparison.specs.Scalars.{scalar_entry}
use Rattle.comparison.specs.Products.{joined}
use Rattle.dense_matrix.proofs.matrix.DenseMatrix.identity.Given as goal

-- the entries so far
abbrev pub invariant-places : goal.invariant-places
invariant-places l = l.entries.items ≡ map (joined l.qubits (scalar_entry one_quad)) (take l.place (all_lists (l.qubits + l.qubits)))
