use Rattle.std.proofs.Common.{◌≡◌, ◌+◌, ap, ◌∙◌}
use Rattle.std.specs.Prelude.{slice_index}
use Rattle.diagram_model.specs.Stores.{Diagram}
use Rattle.level_swap.specs.Rewriting.{IsRewrittenLevel}
use Rattle.level_swap.proofs.Levels.{level_vars, level_whole, level_swapped}
use Rattle.level_swap.proofs.level.swap_level.Goals as goal

pub rewrite_nodes-requires-clause-pair : goal.rewrite_nodes-requires-clause-pair
rewrite_nodes-requires-clause-pair c =
    let d = c.args.slots.now.diagram in
    let level = c.args.level in
    let eu : c.at-upper.result ≡ slice_index d.order level = c.at-upper.ensures ∙ ap (λ o. slice_index o level) c.order-order.ensures in
    let ev : c.at-lower.result ≡ slice_index d.order (level + 1) = c.at-lower.ensures ∙ ap (λ o. slice_index o (level + 1)) c.order-order.ensures in
    let at = level_vars d level c.requires.sound c.requires.level in
    rw (c.reserve_both.ensures.kept, eu, ev) at.pair

pub returns-clause-functions : goal.returns-clause-functions
returns-clause-functions c =
    let d = c.args.slots.now.diagram in
    let level = c.args.level in
    let eu : c.at-upper.result ≡ slice_index d.order level = c.at-upper.ensures ∙ ap (λ o. slice_index o level) c.order-order.ensures in
    let ev : c.at-lower.result ≡ slice_index d.order (level + 1) = c.at-lower.ensures ∙ ap (λ o. slice_index o (level + 1)) c.order-order.ensures in
    let same : c.reserve_both.new.slots.diagram ≡ d = c.reserve_both.ensures.kept in
    let rewritten : IsRewrittenLevel d.slots c.rewrite_nodes.new.slots.diagram.slots (slice_index d.order level) (slice_index d.order (level + 1)) = rw (same, eu, ev) at c.rewrite_nodes.ensures.rewritten in
    let all = level_whole d c.rewrite_nodes.new.slots.diagram c.exchange.new.self.diagram level c.requires.sound c.requires.level rewritten
    (c.rewrite_nodes.ensures.order ∙ ap (λ (e : Diagram). e.order) same) c.exchange.ensures.order c.exchange.ensures.slots c.exchange.ensures.slotted in
    all.functions

pub returns-clause-sound : goal.returns-clause-sound
returns-clause-sound c =
    let d = c.args.slots.now.diagram in
    let level = c.args.level in
    let eu : c.at-upper.result ≡ slice_index d.order level = c.at-upper.ensures ∙ ap (λ o. slice_index o level) c.order-order.ensures in
    let ev : c.at-lower.result ≡ slice_index d.order (level + 1) = c.at-lower.ensures ∙ ap (λ o. slice_index o (level + 1)) c.order-order.ensures in
    let same : c.reserve_both.new.slots.diagram ≡ d = c.reserve_both.ensures.kept in
    let rewritten : IsRewrittenLevel d.slots c.rewrite_nodes.new.slots.diagram.slots (slice_index d.order level) (slice_index d.order (level + 1)) = rw (same, eu, ev) at c.rewrite_nodes.ensures.rewritten in
    let all = level_whole d c.rewrite_nodes.new.slots.diagram c.exchange.new.self.diagram level c.requires.sound c.requires.level rewritten
    (c.rewrite_nodes.ensures.order ∙ ap (λ (e : Diagram). e.order) same) c.exchange.ensures.order c.exchange.ensures.slots c.exchange.ensures.slotted in
    all.sound

pub returns-clause-swapped : goal.returns-clause-swapped
returns-clause-swapped c =
    let d = c.args.slots.now.diagram in
    let level = c.args.level in
    let eu : c.at-upper.result ≡ slice_index d.order level = c.at-upper.ensures ∙ ap (λ o. slice_index o level) c.order-order.ensures in
    let ev : c.at-lower.result ≡ slice_index d.order (level + 1) = c.at-lower.ensures ∙ ap (λ o. slice_index o (level + 1)) c.order-order.ensures in
    let same : c.reserve_both.new.slots.diagram ≡ d = c.reserve_both.ensures.kept in
    let rewritten : IsRewrittenLevel d.slots c.rewrite_nodes.new.slots.diagram.slots (slice_index d.order level) (slice_index d.order (level + 1)) = rw (same, eu, ev) at c.rewrite_nodes.ensures.rewritten in
    let pair = (level_vars d level c.requires.sound c.requires.level).pair in
    level_swapped d.slots c.rewrite_nodes.new.slots.diagram.slots c.exchange.new.self.diagram.slots (slice_index d.order level) (slice_index d.order (level + 1)) pair rewritten c.exchange.ensures.slots
