use Rattle.std.proofs.Common.{[], ◌∷◌, arith}
use Rattle.std.proofs.lemmas.List.Elements.{All-nil, All-cons}
use Rattle.state_update.specs.declared.events.Event.TheVariants as events
use Rattle.state_update.specs.Events.{IsWithin}
use Rattle.tests_states.proofs.event_tests.narrow.Goals as goal

pub ran_once-requires-clause-within : goal.ran_once-requires-clause-within
ran_once-requires-clause-within c = All-cons (IsWithin 2) c.hadamard-first.result ((events.Swap 0) ∷ c.hadamard-second.result ∷ events.Reclaim ∷ []) c.hadamard-first.ensures.two (All-cons (IsWithin 2) (events.Swap 0) (c.hadamard-second.result ∷ events.Reclaim ∷ []) (omega arith) (All-cons (IsWithin 2) c.hadamard-second.result (events.Reclaim ∷ []) c.hadamard-second.ensures.two (All-cons (IsWithin 2) events.Reclaim [] tt (All-nil (IsWithin 2)))))
