use Rattle.std.proofs.Common.{sym, length}
use Rattle.memos.specs.Memo.{Triple}
use Rattle.memos.specs.MemoPlaces.{slot_of, slots_of, home}
use Rattle.tables.specs.Searching.{LocateMeans}
use Rattle.tables.specs.declared.probe.Probe.TheVariants.{Found, Vacant, Full}
use Rattle.tables.proofs.Probing.{absent_vacant}
use Rattle.tables.proofs.Searching.{find_found, find_absent, absent_full}
use Rattle.memos.proofs.Memos.{is_key, key_test, blank, blank_free}
use Rattle.memos.proofs.memo.Places.find.Goals as goal

pub returns-in-Found : goal.returns-in-Found
returns-in-Found c =
    let ps = c.self.inside.places.items in
    let st = c.self.inside.stamp in
    let k : Triple = (c.args.f, c.args.g, c.args.h) in
    let h : LocateMeans (slot_of st) ps (home (length ps) k) k (Found c.in-Found.index c.in-Found.node) = rw (sym c.deref.ensures.value) c.in-Found.ensures in
    rw (sym c.self.view_is) (sym (find_found (is_key c.args.f c.args.g c.args.h) k (key_test c.args.f c.args.g c.args.h) (home (length ps)) (slots_of st ps) c.in-Found.index c.in-Found.node c.self.invariant.probed h.1))

pub returns-in-Vacant : goal.returns-in-Vacant
returns-in-Vacant c =
    let ps = c.self.inside.places.items in
    let st = c.self.inside.stamp in
    let k : Triple = (c.args.f, c.args.g, c.args.h) in
    let h : LocateMeans (slot_of st) ps (home (length ps) k) k (Vacant c.in-Vacant.index) = rw (sym c.deref.ensures.value) c.in-Vacant.ensures in
    rw (sym c.self.view_is) (sym (find_absent (is_key c.args.f c.args.g c.args.h) k (key_test c.args.f c.args.g c.args.h) (slots_of st ps) (absent_vacant (home (length ps)) (slots_of st ps) k c.in-Vacant.index c.self.invariant.probed h)))

pub returns-in-Full : goal.returns-in-Full
returns-in-Full c =
    let ps = c.self.inside.places.items in
    let st = c.self.inside.stamp in
    let k : Triple = (c.args.f, c.args.g, c.args.h) in
    let h : LocateMeans (slot_of st) ps (home (length ps) k) k Full = rw (sym c.deref.ensures.value) c.in-Full.ensures in
    rw (sym c.self.view_is) (sym (find_absent (is_key c.args.f c.args.g c.args.h) k (key_test c.args.f c.args.g c.args.h) (slots_of st ps) (absent_full (slot_of st) (blank st) (blank_free st) ps k h)))
