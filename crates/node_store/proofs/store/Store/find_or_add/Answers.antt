use Rattle.std.proofs.Common.{length, ◌≡◌, true}
use Rattle.bit_lists.specs.Orders.{has}
use Rattle.diagram_model.proofs.Values.{below-order}
use Rattle.diagram_model.specs.Nodes.{IsProper}
use Rattle.node_store.specs.Slots.{parts}
use Rattle.node_store.proofs.Makes.{found_sound}
use Rattle.node_store.proofs.store.Store.find_or_add.Goals as goal

pub find_or_add-requires : goal.find_or_add-requires
find_or_add-requires c =
    let d = c.self.inside.slots.diagram in
    let h : has d.order c.args.var ≡ true = rw (← c.self.view_is) at c.requires.var in
    record { var = below-order (length d.order) d.order c.args.var c.self.invariant.diagram.order h }

pub invariant_of-self-2 : goal.invariant_of-self-2
invariant_of-self-2 c =
    let d = c.self.inside.slots.diagram in
    let p = parts c.args.var c.args.low.0 c.args.high.0 in
    let below : has d.order c.args.var ≡ true = rw (← c.self.view_is) at c.requires.var in
    let proper : IsProper d.slots d.order p = rw (← c.self.view_is) at c.requires.proper in
    found_sound d c.find_or_add.new.self.diagram p c.in_ok-node.node.0 c.self.invariant c.find_or_add.ensures.order c.find_or_add.ensures.limit below proper c.in_ok-node.ensures.puts

pub returns-clause-sound : goal.returns-clause-sound
returns-clause-sound c = invariant_of-self-2 c
