use Rattle.std.proofs.Common.{[], ◌∷◌}
use Rattle.std.proofs.lemmas.List.Elements.{All-nil, All-cons}
use Rattle.state_update.specs.declared.events.Event.TheVariants as events
use Rattle.state_update.specs.Events.{IsWithin}
use Rattle.tests_states.proofs.event_tests.upkept.Goals as goal

pub ran_once-requires-clause-within : goal.ran_once-requires-clause-within
ran_once-requires-clause-within c = All-cons (IsWithin 1) c.hadamard-first.result (events.Reclaim ∷ events.ForgetCache ∷ events.SiftAll ∷ c.hadamard-last.result ∷ []) c.hadamard-first.ensures.one (All-cons (IsWithin 1) events.Reclaim (events.ForgetCache ∷ events.SiftAll ∷ c.hadamard-last.result ∷ []) tt (All-cons (IsWithin 1) events.ForgetCache (events.SiftAll ∷ c.hadamard-last.result ∷ []) tt (All-cons (IsWithin 1) events.SiftAll (c.hadamard-last.result ∷ []) tt (All-cons (IsWithin 1) c.hadamard-last.result [] c.hadamard-last.ensures.one (All-nil (IsWithin 1))))))
