use Rattle.std.proofs.Common.{◌≡◌, ◌≤◌, take}
use Rattle.diagram_model.specs.Stores.{held}
use Rattle.node_reclaim.specs.Reclaims.{KeepsOthers}
use Rattle.node_reclaim.proofs.dropping.free_each.Given as goal

abbrev pub invariant-loop-number : goal.invariant-loop-number
invariant-loop-number l = record {
  others : KeepsOthers l.fn.slots.diagram l.slots.diagram (take l.number-index l.numbers);
  fewer : held l.slots.diagram ≤ held l.fn.slots.diagram;
  order : l.slots.diagram.order ≡ l.fn.slots.diagram.order;
  limit : l.slots.diagram.limit ≡ l.fn.slots.diagram.limit;
  made : l.slots.diagram.made ≡ l.fn.slots.diagram.made;
}
