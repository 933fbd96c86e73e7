use Rattle.std.proofs.Common.{◌<◌, rules}
use Rattle.level_swap.proofs.Levels.{filter_keeps, filter_only}
use Rattle.sifting.specs.Hanging.{rank_of}
use Rattle.sifting.proofs.Lowered.{loose_among, filter_among, not_above}
use Rattle.sifting.proofs.ranks.loose_nodes.Goals as goal

pub returns : goal.returns
returns c =
    let rs = c.args.ranks.now in
    let b = c.args.bound in
    let f = c.retain.ensures.filtered in
    loose_among c.args.store.now c.args.var rs b _ _ c.in_ok-numbers.ensures
    (filter_among f.0 _ _ f.4)
    (filter_keeps _ (λ n. b < rank_of rs n) _ (λ x t g k. search (rules, not_above)) _ _ f)
    (filter_only _ (λ n. b < rank_of rs n) _ (λ x t g k. search (rules, not_above)) _ _ f)
