use Rattle.std.proofs.Common.{◌≡◌, ◌≤◌, ℕ, ◌<◌}
use Rattle.diagram_model.specs.Stores.{held, HasParts}
use Rattle.node_store.specs.Slots.{LowersNone}
use Rattle.node_store.proofs.Sweeping.{AreSwept}
use Rattle.node_store.proofs.slots.Slots.free_unmarked.Given as goal

abbrev pub invariant-loop-number : goal.invariant-loop-number
invariant-loop-number l = record {
  swept : AreSwept l.fn.self.diagram.slots l.self.diagram.slots l.fn.marks l.number;
  fewer : held l.self.diagram ≤ held l.fn.self.diagram;
  order : l.self.diagram.order ≡ l.fn.self.diagram.order;
  limit : l.self.diagram.limit ≡ l.fn.self.diagram.limit;
  made : l.self.diagram.made ≡ l.fn.self.diagram.made;
  spares : LowersNone l.fn.self l.self;
  past : (n : ℕ) → HasParts l.fn.self.diagram n → n < l.number-end;
}
