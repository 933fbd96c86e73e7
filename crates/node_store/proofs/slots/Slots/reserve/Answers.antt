use Rattle.std.proofs.Common.{ap, arith, length, refl, sym, ◌<◌, inl}
use Rattle.node_store.proofs.Kept.{grown_rooms, on_err, has_var, within_tables, stored_same, spares_le, room_made, same_count}
use Rattle.node_store.proofs.slots.Slots.reserve.Goals as goal

pub index_mut-table-requires : goal.index_mut-table-requires
index_mut-table-requires c =
    let lt : c.args.var < length c.self.inside.order = rw (← c.self.view_is) at c.requires in
    let h = has_var c.self.inside c.args.var c.self.invariant lt in
    omega (arith, within_tables c.self.inside c.args.var c.self.invariant h, c.self.inside.tables.ok.0)

pub invariant_of-self-2 : goal.invariant_of-self-2
invariant_of-self-2 c =
    let lt : c.args.var < length c.self.inside.order = rw (← c.self.view_is) at c.requires in
    let h = has_var c.self.inside c.args.var c.self.invariant lt in
    stored_same c.self.inside _ c.args.var c.index_mut-table.result.now c.reserve-2.new.self c.self.invariant refl refl refl c.reserve-2.ensures.len (ap (λ s. s.slots) c.reserve.ensures.rest_kept) refl h c.index_mut-table.ensures.value c.reserve-2.ensures.kept

pub returns-clause-room : goal.returns-clause-room
returns-clause-room c =
    let lt : c.args.var < length c.self.inside.order = rw (← c.self.view_is) at c.requires in
    let h = has_var c.self.inside c.args.var c.self.invariant lt in
    room_made c.self.inside c.reserve.new.self c.args.var c.reserve-2.new.self c.args.more c.self.invariant h (omega arith) c.in_ok-reserve.ensures.room c.in_ok-reserve-2.ensures.room

pub returns-clause-others : goal.returns-clause-others
returns-clause-others c = λ w.
    let lt : c.args.var < length c.self.inside.order = rw (← c.self.view_is) at c.requires in
    let h = has_var c.self.inside c.args.var c.self.invariant lt in
    let le = spares_le c.self.inside c.reserve.new.self c.args.var c.index_mut-table.result.now c.reserve-2.new.self 0 c.self.invariant h c.index_mut-table.ensures.value
    (omega arith) c.reserve.ensures.capacity (same_count c.self.inside.nodes c.reserve.new.self (ap (λ s. s.slots) c.reserve.ensures.rest_kept)) (omega arith) w in
    rw (sym c.self.view_is) (omega (arith, le))

pub returns-in_err-reserve-clause-refused : goal.returns-in_err-reserve-clause-refused
returns-in_err-reserve-clause-refused c =
    on_err c.from_residual.result _ (rw (sym c.self.view_is) (grown_rooms c.self.inside.nodes c.reserve.new.self c.self.inside.tables.items c.reserve.ensures.capacity (ap (λ s. s.slots) c.reserve.ensures.rest_kept)))

pub returns-then-capacity-gt-MOST_SLOTS-clause-refused : goal.returns-then-capacity-gt-MOST_SLOTS-clause-refused
returns-then-capacity-gt-MOST_SLOTS-clause-refused c =
    rw (sym c.self.view_is) (grown_rooms c.self.inside.nodes c.reserve.new.self c.self.inside.tables.items c.reserve.ensures.capacity (ap (λ s. s.slots) c.reserve.ensures.rest_kept))

pub returns-in_err-reserve-2-clause-refused : goal.returns-in_err-reserve-2-clause-refused
returns-in_err-reserve-2-clause-refused c = on_err c.from_residual-in_err-reserve-2.result _ (inl (λ w.
    let lt : c.args.var < length c.self.inside.order = rw (← c.self.view_is) at c.requires in
    let h = has_var c.self.inside c.args.var c.self.invariant lt in
    let le = spares_le c.self.inside c.reserve.new.self c.args.var c.index_mut-table.result.now c.reserve-2.new.self 0 c.self.invariant h c.index_mut-table.ensures.value
    (omega arith) c.reserve.ensures.capacity (same_count c.self.inside.nodes c.reserve.new.self (ap (λ s. s.slots) c.reserve.ensures.rest_kept)) (omega (arith, c.reserve-2.ensures.spare)) w in
    rw (sym c.self.view_is) (omega (arith, le))))
