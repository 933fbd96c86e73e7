use Rattle.std.proofs.Common.{rules, arith}
use Rattle.level_swap.specs.Rewriting.{Crosses}
use Rattle.level_swap.proofs.Levels.{filter_keeps, filter_only, crosses_or_not, crossing_among}
use Rattle.level_swap.proofs.level.crossing_nodes.Goals as goal

pub returns : goal.returns
returns c =
    let s = c.args.slots.now.diagram.slots in
    let u = c.args.upper in
    let v = c.args.lower in
    crossing_among c.args.slots.now.diagram u v _ _ c.in_ok-numbers.ensures
    (filter_keeps _ (Crosses s u v) _ (λ x b f k. search (rules, crosses_or_not)) _ _ c.retain.ensures.filtered)
    (filter_only _ (Crosses s u v) _ (λ x b f k. search (rules, crosses_or_not)) _ _ c.retain.ensures.filtered)
    (omega (arith, c.retain.ensures.bound))
