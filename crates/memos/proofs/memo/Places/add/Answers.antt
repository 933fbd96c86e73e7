use Rattle.std.proofs.Common.{◌≡◌, ◌<◌, ◌≤◌, refl, sym, length, arith, None}
use Rattle.std.proofs.lemmas.List.{length-set}
use Rattle.std.proofs.lemmas.List.Elements.{All-set}
use Rattle.tables.specs.Probing.{entries_of}
use Rattle.memos.specs.Memo.{Triple, found}
use Rattle.memos.specs.MemoPlaces.{slot_of, slots_of, home}
use Rattle.tables.specs.Searching.{LocateMeans}
use Rattle.memos.specs.declared.memo.Place.{Place}
use Rattle.tables.specs.declared.probe.Probe.TheVariants.{Found, Vacant, Full}
use Rattle.tables.proofs.Searching.{absent_new, no_place}
use Rattle.tables.proofs.Writing.{add_probed, add_used, add_count}
use Rattle.memos.proofs.Memos.{is_key, key_test, blank, blank_free, slot_here, add_puts}
use Rattle.memos.proofs.memo.Places.add.Goals as goal

pub invariant_of-self : goal.invariant_of-self
invariant_of-self c =
    let ps = c.self.inside.places.items in
    let st = c.self.inside.stamp in
    let k : Triple = (c.args.f, c.args.g, c.args.h) in
    let node = c.args.node in let i = c.in-Vacant.index in
    let p = c.self.invariant in
    let h : LocateMeans (slot_of st) ps (home (length ps) k) k (Vacant i) = rw (sym c.deref.ensures.value) c.in-Vacant.ensures in
    let room : 0 < c.self.inside.room = rw (← c.self.view_is) at c.requires.room in
    let q : Place = record { f = c.args.f; g = c.args.g; h = c.args.h; node = node; stamp = st } in
    let used = add_used home (slot_of st) ps q k node i (slot_here st q refl) p.probed h in
    let len = length-set ps i q in
    record {
      probed = add_probed home (slot_of st) ps q k node i (slot_here st q refl) p.probed h;
      few = omega (arith, used, len, p.few, room);
      size = omega (arith, len, p.size);
      past = All-set (λ (x : Place). x.stamp ≤ st) ps i q (omega arith) p.past;
    }

pub unreachable-requires : goal.unreachable-requires
unreachable-requires c =
    let ps = c.self.inside.places.items in
    let st = c.self.inside.stamp in
    let k : Triple = (c.args.f, c.args.g, c.args.h) in
    let h : LocateMeans (slot_of st) ps (home (length ps) k) k (Found c.in-Found.index c.in-Found.node) = rw (sym c.deref.ensures.value) c.in-Found.ensures in
    let new : found (entries_of (slots_of st ps)) c.args.f c.args.g c.args.h ≡ None = rw (← c.self.view_is) at c.requires.new in
    absent_new (is_key c.args.f c.args.g c.args.h) k (key_test c.args.f c.args.g c.args.h) (home (length ps)) (slots_of st ps) c.self.invariant.probed new c.in-Found.index c.in-Found.node h.1

pub unreachable-requires-in-Full : goal.unreachable-requires-in-Full
unreachable-requires-in-Full c =
    let ps = c.self.inside.places.items in
    let st = c.self.inside.stamp in
    let k : Triple = (c.args.f, c.args.g, c.args.h) in
    let h : LocateMeans (slot_of st) ps (home (length ps) k) k Full = rw (sym c.deref.ensures.value) c.in-Full.ensures in
    let room : 0 < c.self.inside.room = rw (← c.self.view_is) at c.requires.room in
    no_place (slot_of st) (blank st) (blank_free st) ps k c.self.inside.room h (let few = c.self.invariant.few in omega arith) room

pub returns-clause-puts : goal.returns-clause-puts
returns-clause-puts c =
    let ps = c.self.inside.places.items in
    let st = c.self.inside.stamp in
    let k : Triple = (c.args.f, c.args.g, c.args.h) in
    let h : LocateMeans (slot_of st) ps (home (length ps) k) k (Vacant c.in-Vacant.index) = rw (sym c.deref.ensures.value) c.in-Vacant.ensures in
    let q : Place = record { f = c.args.f; g = c.args.g; h = c.args.h; node = c.args.node; stamp = st } in
    rw (sym c.self.view_is) (add_puts st ps q c.in-Vacant.index refl c.self.invariant.probed h)

pub returns-clause-len : goal.returns-clause-len
returns-clause-len c =
    let ps = c.self.inside.places.items in
    let st = c.self.inside.stamp in
    let k : Triple = (c.args.f, c.args.g, c.args.h) in
    let h : LocateMeans (slot_of st) ps (home (length ps) k) k (Vacant c.in-Vacant.index) = rw (sym c.deref.ensures.value) c.in-Vacant.ensures in
    let q : Place = record { f = c.args.f; g = c.args.g; h = c.args.h; node = c.args.node; stamp = st } in
    rw (sym c.self.view_is) (add_count home (slot_of st) ps q k c.args.node c.in-Vacant.index (slot_here st q refl) c.self.invariant.probed h)
