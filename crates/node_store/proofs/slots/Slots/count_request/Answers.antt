use Rattle.std.proofs.Common.{refl}
use Rattle.node_store.proofs.Copies.{counted_stored}
use Rattle.node_store.proofs.slots.Slots.count_request.Goals as goal

pub invariant_of-self : goal.invariant_of-self
invariant_of-self c = counted_stored c.self.inside _ c.self.invariant refl refl refl refl refl
