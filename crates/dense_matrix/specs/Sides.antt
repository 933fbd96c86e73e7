-- Words that only the clauses of private functions cite: the two sides of a matrix, told apart as late as possible.
use Rattle.std.specs.Prelude.{ℕ, Bool, List, ◌++◌}
use Rattle.ring_omega.specs.declared.quad.Quad.{Quad}
use Rattle.bit_lists.specs.Lists.{place_of, bits_at, with_bits}
use Rattle.gate_set.specs.declared.gate.Gate.{Gate}
use Rattle.gate_set.specs.declared.kind.Kind.{Kind}
use Rattle.gate_set.specs.declared.entry.Entry.{Entry}
use Rattle.gate_set.specs.Matrix.{entry_of, times_entry}
use Rattle.circuit_model.specs.Vector.{at}
use Rattle.comparison.specs.declared.turns.Side.{Side}
use Rattle.comparison.specs.declared.turns.Side.TheVariants.{Left, Right}

-- the one of row and column that a gate on this side reads and sets
abbrev pub own : {X : Type 0} → Side → X → X → X
own Left row column = row
own Right row column = column

-- the position with that one replaced, as one list
abbrev pub put : Side → List Bool → List Bool → List Bool → List Bool
put Left row column z = z ++ column
put Right row column z = row ++ z

-- the entry of the kind's matrix for the own bits a and the summed bits b
abbrev pub entry_on : Side → Kind → ℕ → ℕ → Entry
entry_on Left k a b = entry_of k a b
entry_on Right k a b = entry_of k b a

-- one term of an entry after the kind's matrix
unfoldable pub part : Side → Gate → List Quad → List Bool → List Bool → List Bool → Quad
part side g state r c y =
    times_entry (entry_on side g.kind (place_of (bits_at (own side r c) g.on)) (place_of y)) (at state (put side r c (with_bits (own side r c) g.on y)))
