use Rattle.std.proofs.Common.{◌∙◌, arith}
use Rattle.node_store.proofs.slots.Slots.refresh.Goals as goal

pub loop-var-preserved : goal.loop-var-preserved
loop-var-preserved c = record {
  same = c.refresh_table.ensures.diagram ∙ c.loop-var.invariant.same;
  spares = λ v. omega (arith, c.refresh_table.ensures.spares v, c.loop-var.invariant.spares v);
}
