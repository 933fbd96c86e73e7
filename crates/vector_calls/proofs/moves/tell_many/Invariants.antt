use Rattle.std.proofs.Common.{◌≡◌}
use Rattle.slice_quad.specs.Vectors.{Stands}
use Rattle.vector_calls.proofs.moves.tell_many.Given as goal

abbrev pub invariant-steps : goal.invariant-steps
invariant-steps l = record {
  stands : Stands l.d.store l.q;
  order : l.d.store.order ≡ l.initial.d.store.order;
}
