use Rattle.slice_quad.specs.Vectors.{Stands}
use Rattle.vector_calls.proofs.states.same_bits.Given as goal

abbrev pub invariant-loop-i : goal.invariant-loop-i
invariant-loop-i l = Stands l.d.store l.q
