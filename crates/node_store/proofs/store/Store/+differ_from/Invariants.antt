use Rattle.std.proofs.Common.{◌+◌, ◌<◌, ℕ, true, false, [], ◌∷◌, get_or}
use Rattle.diagram_model.specs.Nodes.{follow}
use Rattle.diagram_model.specs.Stores.{depth}
use Rattle.node_store.specs.Pairs.{AllCoincide, CoincideAt}
use Rattle.node_store.proofs.store.Store.+differ_from.Given as goal

abbrev pub decreases-differ_from : goal.decreases-differ_from
decreases-differ_from l = depth l.self.now l.f.0 + depth l.self.now l.g.0

abbrev pub invariant-loop-bit : goal.invariant-loop-bit
invariant-loop-bit l = record {
  same : AllCoincide l.self l.p l.same.keys;
  done : (k : ℕ) → k < l.bit-index → CoincideAt l.self l.p (follow l.self.slots l.var (get_or (false ∷ true ∷ []) k false) l.f.0) (follow l.self.slots l.var (get_or (false ∷ true ∷ []) k false) l.g.0);
}
