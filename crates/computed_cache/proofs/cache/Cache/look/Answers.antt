use Rattle.std.proofs.Common.{◌≡◌, ◌∙◌, rules}
use Rattle.computed_cache.specs.Entries.{same_key}
use Rattle.lru.specs.LruCache.{promoted}
use Rattle.computed_cache.proofs.Puts.{promoted_is}
use Rattle.computed_cache.proofs.cache.Cache.look.Goals as goal

pub returns-clause-order : goal.returns-clause-order
returns-clause-order c =
    let e : c.get.follows.lender-at-none.entries ≡ promoted (same_key c.args.key.now) c.args.self.now.entries = search rules in
    e ∙ promoted_is c.args.self.now.entries c.args.key.now
