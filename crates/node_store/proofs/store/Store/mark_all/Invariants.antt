use Rattle.std.proofs.Common.{◌≡◌, ℕ, true, take, length}
use Rattle.diagram_model.specs.Reach.{is_in, Reaches}
use Rattle.diagram_model.specs.Stores.{HasParts}
use Rattle.node_store.specs.Marks.{is_marked, numbers}
use Rattle.node_store.specs.Marking.{HasPlaces, AreClosed}
use Rattle.node_store.proofs.store.Store.mark_all.Given as goal

abbrev pub invariant-loop-root : goal.invariant-loop-root
invariant-loop-root l = record {
  len : length l.marks ≡ length l.fn.marks;
  places : HasPlaces l.self l.marks;
  closed : AreClosed l.self l.marks;
  roots : (m : ℕ) → is_in (numbers (take l.root-index l.roots)) m ≡ true → HasParts l.self m → is_marked l.marks m ≡ true;
  reached : (q : ℕ) → is_marked l.marks q ≡ true → Reaches l.self.slots (numbers l.roots) q;
}
