-- The store of diagrams, lent.
use Rattle.std.specs.Borrow.{Lends, MutBor, Fml}
use Rattle.diagram_model.specs.Stores.{Diagram}
use Rattle.diagram_ops.specs.Diagrams.{StoreAndCache}
use Rattle.diagram_ops.specs.contracts.diagrams.Diagrams as diagrams
use Rattle.node_store.specs.contracts.store.Store as stored

-- the diagrams end with the store as the borrower left it, and with the cache as it was
abbrev pub lends_store : MutBor StoreAndCache → MutBor Diagram → Fml
lends_store d r = Lends diagrams.the_row stored.the_row d r (λ w. record d.now { store = w })
