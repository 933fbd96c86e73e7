use Rattle.diagram_model.specs.Stores.{depth}
use Rattle.node_store.proofs.store.Store.+reach.Given as goal

abbrev pub decreases-reach : goal.decreases-reach
decreases-reach l = depth l.self.now l.n
