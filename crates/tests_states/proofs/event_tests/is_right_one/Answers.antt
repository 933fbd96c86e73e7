use Rattle.std.proofs.Common.{[]}
use Rattle.std.proofs.lemmas.List.Elements.{All-nil, All-cons}
use Rattle.state_update.specs.Events.{IsWithin}
use Rattle.tests_states.proofs.event_tests.is_right_one.Goals as goal

pub are_gates_alone-requires-clause-within : goal.are_gates_alone-requires-clause-within
are_gates_alone-requires-clause-within c = All-cons (IsWithin 2) c.event.result [] c.event.ensures (All-nil (IsWithin 2))
