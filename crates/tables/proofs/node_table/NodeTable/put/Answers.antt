use Rattle.std.proofs.Common.{◌<◌, refl, sym, arith}
use Rattle.std.proofs.lemmas.List.{length-set, length-map}
use Rattle.tables.specs.NodePlaces.{slot_of, slots_of, home}
use Rattle.tables.specs.Seeking.{IsSeat}
use Rattle.tables.specs.Stored.{view_of}
use Rattle.tables.specs.declared.node_table.Place.{Place}
use Rattle.tables.specs.declared.node_table.Place.TheVariants.{Held}
use Rattle.tables.proofs.Probing.{held_used}
use Rattle.tables.proofs.Writing.{add_probed, add_used, add_count}
use Rattle.tables.proofs.Nodes.{add_puts, seat_first}
use Rattle.tables.proofs.node_table.NodeTable.put.Goals as goal

pub index_mut-requires : goal.index_mut-requires
index_mut-requires c =
    let a = c.self.inside in
    let ps = a.places.items in
    let seat : IsSeat (view_of a) c.args.low c.args.high c.args.index = rw (← c.self.view_is) at c.requires.seat in
    omega (arith, (seat_first ps a.room c.args.low c.args.high c.args.index seat).within, length-map ps slot_of)

pub overflow_add-self : goal.overflow_add-self
overflow_add-self c =
    let h = held_used (slots_of c.self.inside.places.items) in
    let i = c.self.invariant in
    omega (arith, h, i.count, i.few, i.size)

pub invariant_of-self : goal.invariant_of-self
invariant_of-self c =
    let a = c.self.inside in
    let ps = a.places.items in
    let low = c.args.low in let high = c.args.high in let node = c.args.node in let i = c.args.index in
    let p = c.self.invariant in
    let q : Place = Held low high node in
    let seat : IsSeat (view_of a) low high i = rw (← c.self.view_is) at c.requires.seat in
    let h = seat_first ps a.room low high i seat in
    let room : 0 < a.room = rw (← c.self.view_is) at c.requires.room in
    let used = add_used home slot_of ps q (low, high) node i refl p.probed h in
    let len = length-set ps i q in
    record {
      probed = add_probed home slot_of ps q (low, high) node i refl p.probed h;
      few = omega (arith, used, len, p.few, room);
      size = omega (arith, len, p.size);
      count = omega (arith, add_count home slot_of ps q (low, high) node i refl p.probed h, p.count);
    }

pub returns-clause-puts : goal.returns-clause-puts
returns-clause-puts c =
    let a = c.self.inside in
    let ps = a.places.items in
    let seat : IsSeat (view_of a) c.args.low c.args.high c.args.index = rw (← c.self.view_is) at c.requires.seat in
    let h = seat_first ps a.room c.args.low c.args.high c.args.index seat in
    rw (sym c.self.view_is) (add_puts ps c.args.low c.args.high c.args.node c.args.index _ _ c.self.invariant.probed h)

pub returns-clause-len : goal.returns-clause-len
returns-clause-len c =
    let a = c.self.inside in
    let ps = a.places.items in
    let low = c.args.low in let high = c.args.high in
    let seat : IsSeat (view_of a) low high c.args.index = rw (← c.self.view_is) at c.requires.seat in
    let h = seat_first ps a.room low high c.args.index seat in
    rw (sym c.self.view_is) (add_count home slot_of ps (Held low high c.args.node) (low, high) c.args.node c.args.index refl c.self.invariant.probed h)
