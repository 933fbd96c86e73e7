use Rattle.std.proofs.Common.{◌≤◌, length, arith, ap}
use Rattle.node_store.specs.Stored.{view_of}
use Rattle.node_store.proofs.Freed.{nodes_le}
use Rattle.node_store.proofs.Kept.{has_var, table_is}
use Rattle.tables.specs.NodeTable.{TableValue}
use Rattle.node_store.proofs.slots.Slots.nodes_of.Goals as goal

pub overflow_cast-result : goal.overflow_cast-result
overflow_cast-result c =
    let a = c.self.inside in
    let v = c.args.var in
    let s = c.self.invariant in
    let h = has_var a v s (rw (← c.self.view_is) at c.requires) in
    let same = ap (λ (t : TableValue). length t.entries) (table_is a v c.index.result.now s h c.index.ensures) in
    let small : c.len.result ≤ 16777216 = omega (arith, c.len.ensures, same, s.counted v, nodes_le v (view_of a).diagram.slots, s.slotted.few, s.slotted.most) in
    omega arith
