use Rattle.std.proofs.Common.{take, sym, rules}
use Rattle.std.proofs.lemmas.List.{take_all}
use Rattle.std.proofs.lemmas.List.Elements.{All-more, All-nil}
use Rattle.diagram_model.specs.Stores.{IsLive}
use Rattle.node_store.specs.declared.node.Node.{Node}
use Rattle.node_calls.proofs.live.are_live.Goals as goal

pub loop-root-init : goal.loop-root-init
loop-root-init c = All-nil (λ (n : Node). IsLive c.args.store.now n.0)

pub loop-root-preserved : goal.loop-root-preserved
loop-root-preserved c =
    let z : Node = record { 0 = 0 } in
    All-more (λ (n : Node). IsLive c.args.store.now n.0) c.args.roots.now c.loop-root.root-index z c.loop-root-test.true c.loop-root.invariant (c.is_live.ensures (search rules))

pub returns : goal.returns
returns c = λ e. rw (sym (take_all c.loop-root.root-index c.args.roots.now c.loop-root-test.false)) c.loop-root.invariant
