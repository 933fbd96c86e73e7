use Rattle.std.proofs.Common.{◌≡◌, rules, IsOk, IsSome, sym, ◌∙◌, subst}
use Rattle.computed_cache.specs.Entries.{Cached, same_key, value_at}
use Rattle.lru.specs.LruCache.{put_entries, lru_cache}
use Rattle.computed_cache.proofs.Puts.{put_is}
use Rattle.computed_cache.proofs.cache.Cache.keep.Goals as goal

-- a key that is there needs no memory
pub returns-in_err-put-clause-there : goal.returns-in_err-put-clause-there
returns-in_err-put-clause-there c = λ h.
    let P : Cached → Type 0 = λ v. IsSome (value_at v.entries c.args.key) in
    let ok : IsOk c.put.result = c.put.ensures.succeeds (subst P (sym c.self.view_is) h) in
    search rules

pub returns-clause-kept : goal.returns-clause-kept
returns-clause-kept c =
    let e : c.put.new.self.entries ≡ put_entries same_key (lru_cache c.args.self.now.entries c.args.self.now.capacity) c.args.key c.args.value = search rules in
    e ∙ put_is c.args.self.now.entries c.args.self.now.capacity c.args.key c.args.value
