use Rattle.std.proofs.Common.{◌<◌, length, arith, refl, sym, ap, set}
use Rattle.std.proofs.lemmas.List.{length-set}
use Rattle.tables.specs.NodeTable.{SameFound, found_in}
use Rattle.node_store.proofs.Kept.{has_var, within_tables, stored_same, rooms_le, spare_set}
use Rattle.node_store.proofs.slots.Slots.refresh_table.Goals as goal

pub index_mut-requires : goal.index_mut-requires
index_mut-requires c =
    let lt : c.args.var < length c.self.inside.order = rw (← c.self.view_is) at c.requires in
    let h = has_var c.self.inside c.args.var c.self.invariant lt in
    omega (arith, within_tables c.self.inside c.args.var c.self.invariant h, c.self.inside.tables.ok.0)

pub invariant_of-self : goal.invariant_of-self
invariant_of-self c =
    let lt : c.args.var < length c.self.inside.order = rw (← c.self.view_is) at c.requires in
    let h = has_var c.self.inside c.args.var c.self.invariant lt in
    let same : SameFound c.index_mut.result.now c.refresh.new.self = λ low high. ap (λ es. found_in es low high) c.refresh.ensures.entries in
    stored_same c.self.inside _ c.args.var c.index_mut.result.now c.refresh.new.self c.self.invariant refl refl refl (ap length c.refresh.ensures.entries) refl refl h c.index_mut.ensures.value same

pub returns-clause-spares : goal.returns-clause-spares
returns-clause-spares c = λ w.
    let a = c.self.inside in
    let lt : c.args.var < length a.order = rw (← c.self.view_is) at c.requires in
    let within = within_tables a c.args.var c.self.invariant (has_var a c.args.var c.self.invariant lt) in
    let le = rooms_le a.nodes a.nodes a.tables.items (set a.tables.items c.args.var c.refresh.new.self) 0 refl (omega arith) (length-set a.tables.items c.args.var c.refresh.new.self)
    (spare_set a.tables.items c.args.var c.index_mut.result.now c.refresh.new.self 0 within c.index_mut.ensures.value (omega (arith, c.refresh.ensures.spare))) w in
    rw (sym c.self.view_is) (omega (arith, le))
