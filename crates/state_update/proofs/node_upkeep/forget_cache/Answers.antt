use Rattle.state_update.proofs.NodesKept.{cache_kept}
use Rattle.state_update.proofs.node_upkeep.forget_cache.Goals as goal

pub returns-clause-keeps : goal.returns-clause-keeps
returns-clause-keeps c = cache_kept c.args.d.now c.forget.new.self c.args.q.now c.requires c.forget.ensures.store c.forget.ensures.capacity c.forget.ensures.sound
