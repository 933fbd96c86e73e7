use Rattle.std.proofs.Common.{◌≡◌, ◌<◌, ◌-◌, suc, length, take, get_or, ap, ◌∙◌, arith}
use Rattle.snapshot.proofs.OrderLemmas.{length-exchanged, front-exchanged, here-exchanged}
use Rattle.snapshot.proofs.ordering.bring.Goals as goal

pub loop-at-preserved : goal.loop-at-preserved
loop-at-preserved c =
    let o = c.loop-at.order in
    let p = c.loop-at.at - 1 in
    let up : c.args.to < c.loop-at.at = c.loop-at-test.true in
    let next : suc p ≡ c.loop-at.at = omega (arith, up) in
    record {
      within = omega (arith, c.loop-at.invariant.within);
      down = omega (arith, up);
      len = ap length c.exchange.ensures ∙ length-exchanged o p ∙ c.loop-at.invariant.len;
      above = ap (take c.args.to) c.exchange.ensures ∙ front-exchanged o p c.args.to (omega (arith, up)) ∙ c.loop-at.invariant.above;
      here = ap (λ l. get_or l p 0) c.exchange.ensures ∙ here-exchanged o p (omega (arith, next, c.loop-at.invariant.within, c.loop-at.invariant.len)) ∙ ap (λ i. get_or o i 0) next ∙ c.loop-at.invariant.here;
    }
