use Rattle.std.proofs.Common.{refl, arith}
use Rattle.node_store.proofs.Sweeping.{swept_all, swept_first}
use Rattle.node_store.proofs.slots.Slots.free_unmarked.Goals as goal

pub returns-clause-kept : goal.returns-clause-kept
returns-clause-kept c =
    swept_all c.args.self.now.diagram c.loop-number.self.diagram c.args.marks.now c.loop-number.number c.loop-number.invariant.swept
    (λ n h. omega (arith, c.loop-number.invariant.past n h, c.loop-number-test.false))

pub loop-number-init : goal.loop-number-init
loop-number-init c = record {
  swept = swept_first c.args.self.now.diagram.slots c.args.marks.now c.held-held.ensures.slotted.ground;
  fewer = omega arith;
  order = refl;
  limit = refl;
  made = refl;
  spares = λ v. omega arith;
  past = c.past-number-end.ensures;
}
