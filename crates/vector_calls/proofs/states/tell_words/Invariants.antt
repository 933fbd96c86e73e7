use Rattle.slice_quad.specs.Vectors.{Stands}
use Rattle.vector_calls.proofs.states.tell_words.Given as goal

abbrev pub invariant-words : goal.invariant-words
invariant-words l = Stands l.d.store l.q
