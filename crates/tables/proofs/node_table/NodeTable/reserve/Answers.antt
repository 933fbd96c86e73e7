use Rattle.std.proofs.Common.{arith}
use Rattle.tables.specs.NodePlaces.{slots_of}
use Rattle.tables.proofs.Probing.{held_used}
use Rattle.tables.proofs.node_table.NodeTable.reserve.Goals as goal

pub overflow_add-len : goal.overflow_add-len
overflow_add-len c =
    let h = held_used (slots_of c.self.inside.places.items) in
    let i = c.self.invariant in
    omega (arith, h, i.count, i.few, i.size, c.if-more-gt-MOST_KEYS.false)
