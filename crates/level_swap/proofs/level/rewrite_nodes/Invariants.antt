use Rattle.std.proofs.Common.{◌≡◌, ◌≤◌, ◌+◌, ◌*◌, ℕ, List, length, take}
use Rattle.diagram_model.specs.Stores.{held}
use Rattle.node_store.specs.Slots.{IsSlotted, spare_of}
use Rattle.level_swap.specs.Rewriting.{IsTopPair, IsPartlySwapped, AreDone, AreUsed}
use Rattle.level_swap.proofs.level.rewrite_nodes.Given as goal

abbrev pub invariant-loop-number : goal.invariant-loop-number
invariant-loop-number l = record {
  order : l.slots.diagram.order ≡ l.fn.slots.diagram.order;
  limit : l.slots.diagram.limit ≡ l.fn.slots.diagram.limit;
  made : l.slots.diagram.made ≡ l.fn.slots.diagram.made;
  partly : (k : ℕ) (post : List ℕ) → IsTopPair l.fn.slots.diagram.slots k l.fn.upper l.fn.lower post → IsPartlySwapped l.fn.slots.diagram.slots l.slots.diagram.slots l.fn.upper l.fn.lower post;
  done : AreDone l.fn.slots.diagram.slots l.slots.diagram.slots l.fn.upper l.fn.lower (take l.number-index l.numbers);
  used : AreUsed l.fn.slots.diagram.slots l.slots.diagram.slots l.fn.upper;
  held : held l.slots.diagram ≤ held l.fn.slots.diagram + 2 * l.number-index;
  spare_upper : 3 * length l.numbers ≤ spare_of l.slots l.fn.upper + 3 * l.number-index;
  spare_lower : 3 * length l.numbers ≤ spare_of l.slots l.fn.lower + 3 * l.number-index;
  slotted : IsSlotted l.slots.diagram;
}
