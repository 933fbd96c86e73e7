use Rattle.std.proofs.Common.{take}
use Rattle.std.specs.List.{All}
use Rattle.diagram_model.specs.Stores.{IsLive}
use Rattle.node_store.specs.declared.node.Node.{Node}
use Rattle.node_calls.proofs.live.are_live.Given as goal

abbrev pub invariant-loop-root : goal.invariant-loop-root
invariant-loop-root l = All (λ (n : Node). IsLive l.store n.0) (take l.root-index l.roots)
