use Rattle.node_reclaim.specs.Reclaims.{KeepsOthers}
use Rattle.sifting.proofs.shifts.free_loose.Goals as goal

pub drop_nodes-requires : goal.drop_nodes-requires
drop_nodes-requires c = rw c.deref.ensures.value (c.requires.childless c.in_ok-numbers.numbers.items c.in_ok-numbers.ensures)

pub returns-clause-freed : goal.returns-clause-freed
returns-clause-freed c =
    let others : KeepsOthers c.args.store.now c.drop_nodes.new.store c.in_ok-numbers.numbers.items = rw c.deref.ensures.value at c.in_ok-drop_nodes.ensures.others in
    record { listed = c.in_ok-numbers.numbers.items; loose = c.in_ok-numbers.ensures; others = others }
