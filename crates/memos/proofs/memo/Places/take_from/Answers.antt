use Rattle.std.proofs.Common.{◌≡◌, ◌+◌, length, arith}
use Rattle.tables.specs.Probing.{entries_of}
use Rattle.memos.specs.MemoPlaces.{slots_of}
use Rattle.tables.proofs.Probing.{held_used}
use Rattle.memos.proofs.memo.Places.take_from.Goals as goal

pub refill-requires-clause-room : goal.refill-requires-clause-room
refill-requires-clause-room c =
    let ps = c.other.inside.places.items in
    let h = held_used (slots_of c.other.inside.stamp ps) in
    let few = c.other.invariant.few in
    let s = c.in_ok-empty_for.ensures.room in
    rw c.deref.ensures.value (omega (arith, h, few, s, c.len.ensures, c.len-2.ensures))

pub returns-clause-room : goal.returns-clause-room
returns-clause-room c =
    let ps = c.other.inside.places.items in
    let h = held_used (slots_of c.other.inside.stamp ps) in
    let few = c.other.invariant.few in
    let s = c.in_ok-empty_for.ensures.room in
    let r : c.refill.new.self.spare + length (entries_of (slots_of c.other.inside.stamp ps)) ≡ c.empty_for.new.self.spare = rw c.deref.ensures.value at c.refill.ensures.spare in
    omega (arith, h, few, s, r, c.len.ensures, c.len-2.ensures)
