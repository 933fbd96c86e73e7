use Rattle.std.proofs.Common.{◌<◌, length, get_or, refl}
use Rattle.std.proofs.lemmas.List.Elements.{All-more}
use Rattle.snapshot.proofs.Rebuilding.{nodes_more}
use Rattle.snapshot.proofs.making.integer.Goals as goal

pub loop-i-preserved : goal.loop-i-preserved
loop-i-preserved c =
    let ns = c.args.nodes.now in
    let bits = c.args.bits.now in
    let i = c.loop-i.i-index in
    let n = get_or ns (get_or bits i 0) (record { 0 = 0 }) in
    record {
      nodes = nodes_more ns bits i c.loop-i.out.items c.add.new.nodes.items n c.loop-i-test.true c.loop-i.invariant.nodes refl c.in_ok-add.ensures;
      there = All-more (λ k. k < length ns) bits i 0 c.loop-i-test.true c.loop-i.invariant.there c.if-i-nodes.false;
    }
