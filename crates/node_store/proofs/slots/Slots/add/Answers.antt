use Rattle.std.proofs.Common.{◌+◌, arith, length, refl, sym, ◌<◌, ◌≤◌}
use Rattle.diagram_model.specs.Stores.{IsNew, held}
use Rattle.node_store.specs.Slots.{parts, spare_of}
use Rattle.node_store.specs.Stored.{view_of}
use Rattle.node_store.proofs.Kept.{has_var, new_none, added, spares_le, spare_here, table_room}
use Rattle.node_store.proofs.slots.Slots.add.Goals as goal

pub insert_reserved-key-requires : goal.insert_reserved-key-requires
insert_reserved-key-requires c =
    let lt : c.args.var < length c.self.inside.order = rw (← c.self.view_is) at c.requires.var in
    let h = has_var c.self.inside c.args.var c.self.invariant lt in
    let spare : 1 ≤ spare_of (view_of c.self.inside) c.args.var = rw (← c.self.view_is) at c.requires.spare in
    (spare_here c.self.inside c.args.var c.self.invariant h spare).2

pub overflow_cast-node : goal.overflow_cast-node
overflow_cast-node c =
    let lt : c.args.var < length c.self.inside.order = rw (← c.self.view_is) at c.requires.var in
    let h = has_var c.self.inside c.args.var c.self.invariant lt in
    let spare : 1 ≤ spare_of (view_of c.self.inside) c.args.var = rw (← c.self.view_is) at c.requires.spare in
    let r = spare_here c.self.inside c.args.var c.self.invariant h spare in
    let low : c.insert_reserved-key.result < 4000000000 = omega (arith, r.0, c.insert_reserved-key.ensures.capacity, c.insert_reserved-key.ensures.key_in_range) in
    omega arith

pub overflow_add-node : goal.overflow_add-node
overflow_add-node c =
    let lt : c.args.var < length c.self.inside.order = rw (← c.self.view_is) at c.requires.var in
    let h = has_var c.self.inside c.args.var c.self.invariant lt in
    let spare : 1 ≤ spare_of (view_of c.self.inside) c.args.var = rw (← c.self.view_is) at c.requires.spare in
    let r = spare_here c.self.inside c.args.var c.self.invariant h spare in
    let low : c.insert_reserved-key.result < 4000000000 = omega (arith, r.0, c.insert_reserved-key.ensures.capacity, c.insert_reserved-key.ensures.key_in_range) in
    omega arith

pub add-requires-clause-room : goal.add-requires-clause-room
add-requires-clause-room c =
    let lt : c.args.var < length c.self.inside.order = rw (← c.self.view_is) at c.requires.var in
    let h = has_var c.self.inside c.args.var c.self.invariant lt in
    let spare : 1 ≤ spare_of (view_of c.self.inside) c.args.var = rw (← c.self.view_is) at c.requires.spare in
    table_room c.self.inside c.args.var c.index_mut.result.now c.self.invariant h c.index_mut.ensures.value spare

pub add-requires-clause-new : goal.add-requires-clause-new
add-requires-clause-new c =
    let lt : c.args.var < length c.self.inside.order = rw (← c.self.view_is) at c.requires.var in
    let h = has_var c.self.inside c.args.var c.self.invariant lt in
    let new : IsNew (view_of c.self.inside).diagram (parts c.args.var c.args.low.0 c.args.high.0) = rw (← c.self.view_is) at c.requires.new in
    new_none c.self.inside c.args.var c.args.low.0 c.args.high.0 c.index_mut.result.now c.self.invariant h c.index_mut.ensures.value new

pub invariant_of-self : goal.invariant_of-self
invariant_of-self c =
    let lt : c.args.var < length c.self.inside.order = rw (← c.self.view_is) at c.requires.var in
    let h = has_var c.self.inside c.args.var c.self.invariant lt in
    let new : IsNew (view_of c.self.inside).diagram (parts c.args.var c.args.low.0 c.args.high.0) = rw (← c.self.view_is) at c.requires.new in
    let room : held (view_of c.self.inside).diagram < c.self.inside.limit = rw (← c.self.view_is) at c.requires.room in
    (added c.self.inside _ c.index_mut.result.now c.add.new.self c.insert_reserved-key.result (parts c.args.var c.args.low.0 c.args.high.0)
    c.self.invariant refl refl (let le : c.self.inside.past ≤ c.max-self-inside.result = omega (arith, c.max-self-inside.ensures) in le) (let lt : c.insert_reserved-key.result + 2 < c.max-self-inside.result = omega (arith, c.max-self-inside.ensures) in lt) c.insert_reserved-key.ensures.was_vacant c.insert_reserved-key.ensures.updates c.add.ensures.len refl
    h new room c.index_mut.ensures.value c.add.ensures.puts).stored

pub returns-clause-spares : goal.returns-clause-spares
returns-clause-spares c = λ w.
    let lt : c.args.var < length c.self.inside.order = rw (← c.self.view_is) at c.requires.var in
    let h = has_var c.self.inside c.args.var c.self.invariant lt in
    let spare : 1 ≤ spare_of (view_of c.self.inside) c.args.var = rw (← c.self.view_is) at c.requires.spare in
    let r = spare_here c.self.inside c.args.var c.self.invariant h spare in
    let le = spares_le c.self.inside c.insert_reserved-key.new.self c.args.var c.index_mut.result.now c.add.new.self 1 c.self.invariant h c.index_mut.ensures.value
    (omega (arith, r.0, c.insert_reserved-key.ensures.capacity)) (omega (arith, c.insert_reserved-key.ensures.capacity)) (omega (arith, c.insert_reserved-key.ensures.len)) (omega (arith, c.add.ensures.spare)) w in
    rw (sym c.self.view_is) le

pub returns-clause-slotted : goal.returns-clause-slotted
returns-clause-slotted c = (invariant_of-self c).slotted
