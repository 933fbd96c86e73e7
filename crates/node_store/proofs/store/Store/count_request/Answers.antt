use Rattle.std.proofs.Common.{ap}
use Rattle.node_store.specs.Slots.{Slotted}
use Rattle.node_store.proofs.Requests.{sound_after}
use Rattle.node_store.proofs.store.Store.count_request.Goals as goal

pub invariant_of-self : goal.invariant_of-self
invariant_of-self c = sound_after c.self.inside.slots.diagram _ (ap (λ (s : Slotted). s.diagram) c.count_request.ensures) c.self.invariant

pub returns-clause-sound : goal.returns-clause-sound
returns-clause-sound c = invariant_of-self c
