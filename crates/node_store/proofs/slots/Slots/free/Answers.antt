use Rattle.std.proofs.Common.{◌-◌, sym, arith, refl}
use Rattle.std.proofs.lemmas.List.{length-set}
use Rattle.node_store.proofs.Kept.{within_tables, held_var, freed, rooms_le, spare_set}
use Rattle.node_store.proofs.slots.Slots.free.Goals as goal

pub index_mut-requires : goal.index_mut-requires
index_mut-requires c =
    let h = held_var c.self.inside (c.args.n.0 - 2) c.remove-parts.result c.self.invariant c.remove-parts.ensures.value in
    omega (arith, within_tables c.self.inside c.remove-parts.result.var c.self.invariant h, c.self.inside.tables.ok.0)

pub invariant_of-self : goal.invariant_of-self
invariant_of-self c =
    freed c.self.inside _ c.index_mut.result.now c.remove.new.self (c.args.n.0 - 2) c.remove-parts.result c.self.invariant refl refl refl
    c.remove-parts.ensures.value c.remove-parts.ensures.updates c.remove.ensures.len refl c.index_mut.ensures.value c.remove.ensures.puts

pub returns-clause-spares : goal.returns-clause-spares
returns-clause-spares c = λ w.
    let a = c.self.inside in
    let v = c.remove-parts.result.var in
    let h = held_var a (c.args.n.0 - 2) c.remove-parts.result c.self.invariant c.remove-parts.ensures.value in
    let within = within_tables a v c.self.invariant h in
    let le = rooms_le a.nodes c.remove-parts.new.self a.tables.items _ 0 c.remove-parts.ensures.capacity (omega (arith, c.remove-parts.ensures.len)) (length-set a.tables.items v c.remove.new.self)
    (spare_set a.tables.items v c.index_mut.result.now c.remove.new.self 0 within c.index_mut.ensures.value (omega (arith, c.remove.ensures.spare))) w in
    rw (sym c.self.view_is) (omega (arith, le))

pub returns-clause-slotted : goal.returns-clause-slotted
returns-clause-slotted c = (invariant_of-self c).slotted
