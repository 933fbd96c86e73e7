use Rattle.std.proofs.Common.{◌≡◌}
use Rattle.diagram_model.specs.Functions.{bit}
use Rattle.diagram_model.specs.Nodes.{value}
use Rattle.diagram_model.specs.Stores.{IsLive, depth}
use Rattle.node_store.proofs.store.Store.value.Given as goal

abbrev pub invariant-loop-parts : goal.invariant-loop-parts
invariant-loop-parts l = record {
  live : IsLive l.self l.at;
  same : value l.self.slots l.self.order (bit l.x) l.at ≡ value l.self.slots l.self.order (bit l.x) l.fn.n.0;
}

abbrev pub decreases-loop-parts : goal.decreases-loop-parts
decreases-loop-parts l = depth l.self l.at
