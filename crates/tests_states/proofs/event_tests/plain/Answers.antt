use Rattle.std.proofs.Common.{ℕ, sym, subst}
use Rattle.state_update.specs.declared.events.Event.{Event}
use Rattle.state_update.specs.Events.{IsWithin}
use Rattle.tests_states.proofs.event_tests.plain.Goals as goal

pub is_done-requires : goal.is_done-requires
is_done-requires g c =
    let e : Event = c.e-item.result in
    subst (λ (n : ℕ). IsWithin n e) (sym c.events.invariant) (subst (λ (x : Event). IsWithin 2 x) (sym c.e-item.is) (c.requires.within c.events.e-index e c.events-test.true))
