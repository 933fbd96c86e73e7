use Rattle.std.proofs.Common.{◌≡◌, length, [], All}
use Rattle.diagram_model.specs.Stores.{IsLive}
use Rattle.node_store.specs.declared.node.Node.{Node}
use Rattle.sifting.specs.Answers.{AreInTurn, last_order}
use Rattle.sifting.specs.Sifts.{KeepsRoots, IsTidy, functions_of}
use Rattle.sifting.proofs.all.sift_each.Given as goal

abbrev pub invariant-loop-var : goal.invariant-loop-var
invariant-loop-var l = record {
  live : All (λ (n : Node). IsLive l.d.store n.0) l.fn.roots;
  empty : l.d.cache.entries ≡ [];
  capacity : l.d.cache.capacity ≡ l.fn.d.cache.capacity;
  tidy : IsTidy l.d.store l.fn.roots;
  keeps : KeepsRoots l.fn.d.store l.d.store l.fn.roots;
  vars_is : l.vars ≡ length l.d.store.order;
  count : l.var ≡ length l.all.items;
  order : l.d.store.order ≡ last_order l.fn.d.store.order l.all.items;
  turns : AreInTurn (functions_of l.fn.d.store l.fn.roots) l.fn.d.store.limit l.fn.d.store.order 0 l.all.items;
}
