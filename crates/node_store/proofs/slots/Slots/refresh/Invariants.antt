use Rattle.std.proofs.Common.{◌≡◌}
use Rattle.node_store.specs.Slots.{LowersNone}
use Rattle.node_store.proofs.slots.Slots.refresh.Given as goal

abbrev pub invariant-loop-var : goal.invariant-loop-var
invariant-loop-var l = record {
  same : l.self.diagram ≡ l.fn.self.diagram;
  spares : LowersNone l.fn.self l.self;
}
