use Rattle.std.proofs.Common.{◌≡◌, None, refl, arith, ap, ◌+◌, ◌∙◌, get_or}
use Rattle.tables.specs.Probing.{entries_of}
use Rattle.memos.specs.Memo.{found}
use Rattle.memos.specs.MemoPlaces.{slot_of}
use Rattle.memos.specs.declared.memo.Place.{Place}
use Rattle.tables.proofs.Probing.{held}
use Rattle.tables.proofs.Copying.{first_new, count_take}
use Rattle.memos.proofs.Memos.{is_key, key_test, blank, blank_free, within, count_more, copies_held, copies_free, slot_here, slot_past}
use Rattle.memos.proofs.memo.Places.refill.Goals as goal
use Rattle.memos.proofs.memo.Places.refill.Goals.{then-place-stamp, else-place-stamp}

pub loop-place-init : goal.loop-place-init
unfolding entries_of
loop-place-init c =
    let e = c.requires.empty in
    record { same = λ a b d. rw e refl; spare = omega arith; len = rw e refl }

pub add-requires-clause-room : goal.add-requires-clause-room
add-requires-clause-room c =
    let ps = c.args.from.now in
    let st = c.args.stamp in
    let i = c.loop-place.place-index in
    let z : Place = record { f = 0; g = 0; h = 0; node = 0; stamp = 0 } in
    let p = get_or ps i z in
    let is = slot_here st p c.if-place-stamp.true in
    let one : held (slot_of st p) ≡ 1 = ap (λ s. held s) is in
    let more = count_more st ps i z c.loop-place-test.true in
    let all = count_take (slot_of st) (blank st) (blank_free st) ps (i + 1) in
    omega (arith, one, more, all, c.requires.room, c.loop-place.invariant.spare)

pub add-requires-clause-new : goal.add-requires-clause-new
add-requires-clause-new c =
    let ps = c.args.from.now in
    let st = c.args.stamp in
    let i = c.loop-place.place-index in
    let z : Place = record { f = 0; g = 0; h = 0; node = 0; stamp = 0 } in
    let p = get_or ps i z in
    let is = slot_here st p c.if-place-stamp.true in
    c.loop-place.invariant.same p.f p.g p.h ∙ first_new (slot_of st) (blank st) (blank_free st) (is_key p.f p.g p.h) ps i (p.f, p.g, p.h) p.node (key_test p.f p.g p.h) c.requires.apart c.loop-place-test.true (within st ps i z c.loop-place-test.true ∙ is)

pub loop-place-preserved : goal.loop-place-preserved
loop-place-preserved c =
    let ps = c.args.from.now in
    let st = c.args.stamp in
    let i = c.loop-place.place-index in
    let lt = c.loop-place-test.true in
    let old = c.loop-place.invariant in
    let t = c.loop-place.self in
    let z : Place = record { f = 0; g = 0; h = 0; node = 0; stamp = 0 } in
    let p = get_or ps i z in
    let more = count_more st ps i z lt in
    elim c.if-place-stamp.branch [
      | then-place-stamp w ↦
          let is = slot_here st p w.if-place-stamp.true in
          let one : held (slot_of st p) ≡ 1 = ap (λ s. held s) is in
          let none : found t.entries p.f p.g p.h ≡ None = old.same p.f p.g p.h ∙ first_new (slot_of st) (blank st) (blank_free st) (is_key p.f p.g p.h) ps i (p.f, p.g, p.h) p.node (key_test p.f p.g p.h) c.requires.apart lt (within st ps i z lt ∙ is) in
          rw w.self-is (record {
            same = copies_held st t.entries w.add.new.self.entries ps i p.f p.g p.h p.node z lt is old.same none w.add.ensures.puts;
            spare = omega (arith, one, more, old.spare, w.add.ensures.spare);
            len = omega (arith, one, more, old.len, w.add.ensures.len);
          })
      | else-place-stamp w ↦
          let is = slot_past st p w.if-place-stamp.false in
          let none : held (slot_of st p) ≡ 0 = ap (λ s. held s) is in
          rw w.self-is (record { same = copies_free st t.entries ps i z lt is old.same; spare = omega (arith, none, more, old.spare); len = omega (arith, none, more, old.len) })
    ]
