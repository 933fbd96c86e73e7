use Rattle.std.proofs.Common.{length, ◌∙◌, ap, refl}
use Rattle.node_store.proofs.Kept.{exchanged_stored, length-exchanged}
use Rattle.node_store.proofs.slots.Slots.exchange.Goals as goal

pub invariant_of-self : goal.invariant_of-self
invariant_of-self c =
    exchanged_stored c.self.inside _ c.self.invariant c.len-vars.ensures.order (ap length c.exchange.ensures ∙ length-exchanged c.self.inside.order c.args.level) refl refl refl refl

pub returns-clause-slotted : goal.returns-clause-slotted
returns-clause-slotted c = (invariant_of-self c).slotted
