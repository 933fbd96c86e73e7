use Rattle.std.proofs.Common.{◌≡◌, length}
use Rattle.std.specs.Option.{ForSome}
use Rattle.probabilities.specs.Outcomes.{measured_count}
use Rattle.vector_calls.proofs.weights.tell_following.Given as goal

abbrev pub invariant-outcomes : goal.invariant-outcomes
invariant-outcomes l = ForSome l.last (λ y. length y ≡ measured_count l.fn.measured)
