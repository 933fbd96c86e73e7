use Rattle.std.proofs.Common.{◌≡◌, None, refl, ap, arith, ◌+◌, ◌∙◌}
use Rattle.tables.specs.Probing.{entries_of}
use Rattle.tables.specs.NodeTable.{found}
use Rattle.tables.specs.declared.node_table.Place.TheVariants.{Held, Free, Removed}
use Rattle.tables.specs.NodePlaces.{slot_of}
use Rattle.tables.proofs.Probing.{held}
use Rattle.tables.proofs.Copying.{first_new, count_take}
use Rattle.tables.proofs.Nodes.{is_key, key_test, one_more, copies_held, copies_none}
use Rattle.tables.proofs.node_table.NodeTable.refill.Goals as goal
use Rattle.tables.proofs.node_table.NodeTable.refill.Goals.{in-Held, in-Removed, in-Free}

pub loop-place-init : goal.loop-place-init
unfolding entries_of
loop-place-init c =
    let e = c.requires.empty in
    record { same = λ l h. rw e refl; spare = omega arith; len = rw e refl }

pub add-requires-clause-room : goal.add-requires-clause-room
add-requires-clause-room c =
    let ps = c.args.from.now in
    let i = c.loop-place.place-index in
    let more = one_more ps i (Held c.in-Held.low c.in-Held.high c.in-Held.node) c.loop-place-test.true c.in-Held.is in
    let all = count_take slot_of Free refl ps (i + 1) in
    omega (arith, more, all, c.requires.room, c.loop-place.invariant.spare)

pub add-requires-clause-new : goal.add-requires-clause-new
add-requires-clause-new c =
    let ps = c.args.from.now in
    c.loop-place.invariant.same c.in-Held.low c.in-Held.high ∙ first_new slot_of Free refl (is_key c.in-Held.low c.in-Held.high) ps c.loop-place.place-index (c.in-Held.low, c.in-Held.high) c.in-Held.node (key_test c.in-Held.low c.in-Held.high) c.requires.apart c.loop-place-test.true (ap slot_of c.in-Held.is)

pub loop-place-preserved : goal.loop-place-preserved
loop-place-preserved c =
    let ps = c.args.from.now in
    let i = c.loop-place.place-index in
    let lt = c.loop-place-test.true in
    let old = c.loop-place.invariant in
    let t = c.loop-place.self in
    elim c.match-place.branch [
      | in-Held w ↦
          let low = w.in-Held.low in let high = w.in-Held.high in let node = w.in-Held.node in
          let none : found t low high ≡ None = old.same low high ∙ first_new slot_of Free refl (is_key low high) ps i (low, high) node (key_test low high) c.requires.apart lt (ap slot_of w.in-Held.is) in
          let more = one_more ps i (Held low high node) lt w.in-Held.is in
          rw w.self-is (record {
            same = copies_held t w.add.new.self ps i low high node lt w.in-Held.is old.same none w.add.ensures.puts;
            spare = omega (arith, more, old.spare, w.add.ensures.spare);
            len = omega (arith, more, old.len, w.add.ensures.len);
          })
      | in-Removed w ↦
          let more = one_more ps i Removed lt w.in-Removed.is in
          rw w.self-is (record { same = copies_none t ps i lt (ap (λ p. held (slot_of p)) w.in-Removed.is) old.same; spare = omega (arith, more, old.spare); len = omega (arith, more, old.len) })
      | in-Free w ↦
          let more = one_more ps i Free lt w.in-Free.is in
          rw w.self-is (record { same = copies_none t ps i lt (ap (λ p. held (slot_of p)) w.in-Free.is) old.same; spare = omega (arith, more, old.spare); len = omega (arith, more, old.len) })
    ]
