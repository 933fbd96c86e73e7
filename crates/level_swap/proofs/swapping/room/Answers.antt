use Rattle.std.proofs.Common.{◌≤◌, arith}
use Rattle.node_store.proofs.Freed.{nodes_le}
use Rattle.level_swap.proofs.swapping.room.Goals as goal

pub overflow_mul-result : goal.overflow_mul-result
overflow_mul-result c =
    let s = c.held.ensures.sound in
    let small : c.nodes_of.result ≤ 16777216 = omega (arith, c.nodes_of.ensures, nodes_le c.at-upper.result c.args.store.now.slots, s.few, s.most) in
    omega arith
