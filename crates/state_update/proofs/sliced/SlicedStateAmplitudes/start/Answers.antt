use Rattle.std.proofs.Common.{◌≡◌, ◌∙◌, ap, sym}
use Rattle.std.specs.List.{range_with_len}
use Rattle.computed_cache.specs.Entries.{Cached}
use Rattle.amp_dense.specs.Rules.{Settings}
use Rattle.amp_dense.specs.contracts.rules.Rules.{the_view as rules_view}
use Rattle.state_update.specs.Kept.{IsKept}
use Rattle.state_update.proofs.StateLemmas.{size_of_order, state_with, kept_start}
use Rattle.state_update.proofs.sliced.SlicedStateAmplitudes.start.Goals as goal

pub start-requires-clause-len : goal.start-requires-clause-len
start-requires-clause-len c = sym (size_of_order c.in_ok-diagrams.diagrams.store.order c.len.result c.in_ok-diagrams.ensures.order ∙ c.len.ensures.value)

pub invariant_of-result-2 : goal.invariant_of-result-2
invariant_of-result-2 c =
    let d = c.in_ok-diagrams.diagrams in let extends = c.start.ensures.extends in let input = c.args.input.now in
    let same : rules_view c.rules.inside ≡ c.args.rules.now = c.rules.view_is in
    let kept : IsKept (state_with input c.args.rules.now c.new-2.result.items c.start.new.d c.in-Ok.quad) =
    kept_start input c.args.rules.now c.new-2.result.items c.start.new.d c.in-Ok.quad c.requires c.width-width.ensures.sound c.new-2.ensures.items c.start.ensures.sound
    (extends.order ∙ c.in_ok-diagrams.ensures.order ∙ ap (range_with_len 0) c.len.ensures.value)
    (extends.limit ∙ c.in_ok-diagrams.ensures.limit ∙ ap (λ (r : Settings). r.nodes) same)
    (c.start.ensures.capacity ∙ ap (λ (e : Cached). e.capacity) c.in_ok-diagrams.ensures.cache ∙ ap (λ (r : Settings). r.cache) same)
    c.in-Ok.ensures.start in
    rw same kept
