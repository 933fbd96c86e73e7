use Rattle.std.proofs.Common.{◌≡◌, ◌+◌, ◌<◌, Bool, List, length}
use Rattle.bit_lists.specs.Lists.{place_of}
use Rattle.circuit_model.specs.Vector.{at}
use Rattle.comparison.specs.Scalars.{scalar_entry}
use Rattle.comparison.specs.Products.{joined}
use Rattle.dense_matrix.proofs.witness.first_differing.Given as goal

-- the entries so far are as in the corner times the identity
abbrev pub invariant-places : goal.invariant-places
invariant-places l = (x : List Bool) → length x ≡ l.qubits + l.qubits → place_of x < l.place → at l.entries x ≡ joined l.qubits (scalar_entry l.corner) x
