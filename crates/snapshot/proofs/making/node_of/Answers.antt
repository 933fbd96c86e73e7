use Rattle.snapshot.proofs.Once.{held_more}
use Rattle.snapshot.proofs.making.node_of.Goals as goal

pub returns-in-Ok-clause-held : goal.returns-in-Ok-clause-held
returns-in-Ok-clause-held g c = held_more c.args.store.now c.make.new.self c.in-Ok.node.0 c.in-Ok.ensures.only
