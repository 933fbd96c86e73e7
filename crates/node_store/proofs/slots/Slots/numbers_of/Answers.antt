use Rattle.std.proofs.Common.{◌<◌, length, arith, sym}
use Rattle.node_store.proofs.Kept.{has_var, within_tables}
use Rattle.node_store.proofs.Numbers.{numbers_are}
use Rattle.node_store.proofs.slots.Slots.numbers_of.Goals as goal

pub index-requires : goal.index-requires
index-requires c =
    let lt : c.args.var < length c.self.inside.order = rw (← c.self.view_is) at c.requires in
    let h = has_var c.self.inside c.args.var c.self.invariant lt in
    omega (arith, within_tables c.self.inside c.args.var c.self.invariant h, c.self.inside.tables.ok.0)

pub returns : goal.returns
returns c =
    let lt : c.args.var < length c.self.inside.order = rw (← c.self.view_is) at c.requires in
    let h = has_var c.self.inside c.args.var c.self.invariant lt in
    rw (sym c.self.view_is) (numbers_are c.self.inside c.args.var c.index.result.now c.in_ok-numbers.numbers.items c.self.invariant h c.index.ensures c.in_ok-numbers.ensures)
