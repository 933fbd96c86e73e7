use Rattle.std.proofs.Common.{◌≡◌, length, arith, refl, ◌∙◌, ap}
use Rattle.node_store.proofs.Copies.{slots_same, copy_stored}
use Rattle.node_store.proofs.slots.Slots.try_copy.Goals as goal

pub invariant_of-result : goal.invariant_of-result
invariant_of-result c =
    let a = c.self.inside in
    let clones = c.in_ok-clone.ensures.cases in
    let same = slots_same _ (λ p q e. e) a.nodes.slots c.in_ok-clone.field-0.slots clones.slots in
    let all : c.loop-table.table-index ≡ length a.tables.items = omega (arith, c.loop-table-test.false, c.loop-table.auto, ap length c.deref-table-items.ensures.value) in
    copy_stored a _ c.self.invariant refl refl refl same (c.loop-table.invariant.count ∙ all)
    (rw all at c.loop-table.invariant.same)
