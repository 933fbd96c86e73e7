use Rattle.std.proofs.Common.{◌∙◌, arith}
use Rattle.tables.proofs.node_table.free_removed.Goals as goal

pub loop-index-preserved : goal.loop-index-preserved
loop-index-preserved c =
    let old = c.loop-index.invariant in
    let step = c.free_one-freed.ensures in
    record {
      len = step.len ∙ old.len;
      few = omega (arith, old.few, step.one, c.loop-index-test.true);
      entries = step.entries ∙ old.entries;
      used = omega (arith, step.used, old.used);
      probed = λ start p. step.probed start (old.probed start p);
    }
