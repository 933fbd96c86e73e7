use Rattle.std.proofs.Common.{◌≡◌, [], ◌∷◌, length, arith, length-append}
use Rattle.bit_lists.specs.Orders.{IsOrder}
use Rattle.node_store.proofs.Kept.{empty_push, empty_stored}
use Rattle.node_store.proofs.slots.Slots.new.Goals as goal

pub loop-preserved : goal.loop-preserved
loop-preserved c =
    let items = c.in_ok-push.ensures.items in
    record {
      count = rw items (omega (arith, length-append c.loop.tables.items (c.new.result ∷ []), c.loop.invariant.count));
      empty = rw items (empty_push c.loop.tables.items c.new.result c.new.ensures.empty c.loop.invariant.empty);
    }

pub invariant_of-result : goal.invariant_of-result
invariant_of-result c =
    let order : IsOrder c.args.order.now = c.len-end.ensures.order in
    let count : length c.loop.tables.items ≡ length c.args.order.now = omega (arith, c.loop.invariant.count, c.loop-test.false, c.len-end.ensures.value) in
    empty_stored _ c.new-2.ensures.empty order c.requires.limit count c.loop.invariant.empty

pub returns-clause-slotted : goal.returns-clause-slotted
returns-clause-slotted c = (invariant_of-result c).slotted
