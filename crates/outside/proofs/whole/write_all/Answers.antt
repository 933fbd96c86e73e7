use Rattle.std.proofs.Common.{◌++◌, take, rules, arith}
use Rattle.std.proofs.lemmas.Grind.{common_steps}
use Rattle.outside.proofs.BytesLemmas.{added_then}
use Rattle.outside.proofs.whole.write_all.Goals as goal

pub rest-preserved : goal.rest-preserved
rest-preserved g c =
    let so_far = c.rest.invariant.bytes in
    let piece = take c.in_ok-count.count c.rest.rest.now in
    record {
      bytes = (so_far.0 ++ piece, grind (arith, common_steps, so_far.1), added_then _ _ _ so_far.0 piece so_far.2 c.in_ok-count.ensures.bytes);
      counts = search rules;
    }
