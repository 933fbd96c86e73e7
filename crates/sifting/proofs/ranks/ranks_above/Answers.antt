use Rattle.std.proofs.Common.{◌≡◌, ◌<◌, length, arith, ◌∙◌, ap}
use Rattle.std.specs.Prelude.{slice_index}
use Rattle.sifting.proofs.Lowered.{ranking_on, ranking_done}
use Rattle.sifting.proofs.ranks.ranks_above.Goals as goal

pub loop-place-preserved : goal.loop-place-preserved
loop-place-preserved c =
    let d = c.args.store.now in
    let place = c.loop-place.place in
    let at : c.at.result ≡ slice_index d.order place = c.at.ensures ∙ ap (λ o. slice_index o place) c.order-order.ensures in
    record {
      ranking = ranking_on d c.args.roots.now c.loop-place.ranks.items c.lower_children.new.ranks.items place c.at.result c.held-held.ensures.sound (omega (arith, c.requires.end, c.loop-place-test.true)) at c.loop-place.invariant.ranking c.in_ok-lower_children.ensures;
    }

pub returns : goal.returns
returns c =
    let d = c.args.store.now in
    let place = c.loop-place.place in
    let same : place ≡ c.args.end = omega (arith, c.loop-place-test.false, c.loop-place.auto.place-end) in
    let vars = c.len-vars.ensures.value in
    let long : length c.order-order.result ≡ length d.order = ap length c.order-order.ensures in
    let small : place < 255 = omega (arith, same, c.requires.end, vars, long) in
    λ j le. ranking_done d c.args.roots.now c.loop-place.ranks.items place small c.loop-place.invariant.ranking j (omega (arith, le, same))
