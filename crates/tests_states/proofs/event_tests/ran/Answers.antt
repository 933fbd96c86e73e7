use Rattle.std.proofs.Common.{ℕ, All, sym, subst}
use Rattle.state_update.specs.Events.{IsWithin}
use Rattle.tests_states.proofs.event_tests.ran.Goals as goal

pub run-answer-requires-clause-within : goal.run-answer-requires-clause-within
run-answer-requires-clause-within c = subst (λ (n : ℕ). All (IsWithin n) c.args.list.now) (sym c.requires.input) c.requires.within
