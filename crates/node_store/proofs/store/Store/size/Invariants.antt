use Rattle.std.proofs.Common.{◌≡◌, ℕ, true, take}
use Rattle.diagram_model.specs.Reach.{is_in, Reaches}
use Rattle.diagram_model.specs.Stores.{HasParts}
use Rattle.node_store.specs.Walks.{IsClosed}
use Rattle.node_store.proofs.Counts.{numbers}
use Rattle.node_store.proofs.store.Store.size.Given as goal

abbrev pub invariant-loop-root : goal.invariant-loop-root
invariant-loop-root l = record {
  closed : IsClosed l.self l.seen.keys;
  roots : (m : ℕ) → is_in (numbers (take l.root-index l.roots)) m ≡ true → HasParts l.self m → is_in l.seen.keys m ≡ true;
  reached : (q : ℕ) → is_in l.seen.keys q ≡ true → Reaches l.self.slots (numbers l.roots) q;
}
