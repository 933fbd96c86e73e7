use Rattle.std.proofs.Common.{sym}
use Rattle.node_store.proofs.store.Store.past.Goals as goal

pub returns : goal.returns
returns c = rw (sym c.self.view_is) c.past.ensures
