use Rattle.diagram_model.specs.Stores.{depth}
use Rattle.node_store.proofs.store.Store.+mark.Given as goal

abbrev pub decreases-mark : goal.decreases-mark
decreases-mark l = depth l.self.now l.n
