use Rattle.slice_weights.specs.OnTop.{IsOutcomeWalk}
use Rattle.vector_calls.proofs.weights.tell_each.Given as goal

abbrev pub invariant-outcomes : goal.invariant-outcomes
invariant-outcomes l = IsOutcomeWalk l.fn.d.store l.fn.q.four l.fn.measured l.walk
