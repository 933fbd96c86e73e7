use Rattle.snapshot.proofs.Rebuilding.{nodes_both, there_both}
use Rattle.snapshot.proofs.making.pair_of.Goals as goal

pub returns-clause-nodes : goal.returns-clause-nodes
returns-clause-nodes c =
    let s = c.split_at.ensures in
    nodes_both c.args.nodes.now c.args.bits.now c.split_at.result.0.now c.split_at.result.1.now c.in_ok-first.first c.in_ok-second.second c.args.width s.front s.back c.in_ok-first.ensures.nodes c.in_ok-second.ensures.nodes

pub returns-clause-there : goal.returns-clause-there
returns-clause-there c =
    let s = c.split_at.ensures in
    there_both c.args.nodes.now c.args.bits.now c.split_at.result.0.now c.split_at.result.1.now c.args.width s.front s.back c.in_ok-first.ensures.there c.in_ok-second.ensures.there
