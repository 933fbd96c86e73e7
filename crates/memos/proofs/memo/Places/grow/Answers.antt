use Rattle.std.proofs.Common.{◌≡◌, ◌+◌, length, arith, ap}
use Rattle.tables.specs.Probing.{entries_of}
use Rattle.memos.specs.MemoPlaces.{slots_of, MemoValue}
use Rattle.tables.proofs.Probing.{held_used}
use Rattle.memos.proofs.memo.Places.grow.Goals as goal

pub refill-requires-clause-room : goal.refill-requires-clause-room
refill-requires-clause-room c =
    let ps = c.self.inside.places.items in
    let h = held_used (slots_of c.self.inside.stamp ps) in
    let few = c.self.invariant.few in
    let n = c.in_ok-places.ensures in
    let s = c.in_ok-larger.ensures.spare in
    rw c.deref.ensures.value (omega (arith, h, few, n, s, c.len.ensures, c.len-2.ensures))

pub returns-clause-room : goal.returns-clause-room
returns-clause-room c =
    let ps = c.self.inside.places.items in
    let h = held_used (slots_of c.self.inside.stamp ps) in
    let few = c.self.invariant.few in
    let n = c.in_ok-places.ensures in
    let s = c.in_ok-larger.ensures.spare in
    let r : c.refill.new.self.spare + length (entries_of (slots_of c.self.inside.stamp ps)) ≡ c.in_ok-larger.larger.spare = rw c.deref.ensures.value at c.refill.ensures.spare in
    let v = ap (λ (m : MemoValue). m.spare) c.drop.view_is in
    omega (arith, h, few, n, s, r, v, c.len.ensures, c.len-2.ensures)
