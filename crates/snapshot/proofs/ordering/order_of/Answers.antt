use Rattle.std.proofs.Common.{◌≡◌, ◌<◌, length, get_or, refl, ap, sym, ◌∙◌, arith}
use Rattle.std.proofs.lemmas.List.{get_or-take}
use Rattle.std.proofs.lemmas.List.FromFn.{length-range_with_len}
use Rattle.snapshot.proofs.OrderLemmas.{vars_below, vars_once}
use Rattle.snapshot.proofs.ordering.order_of.Goals as goal

pub loop-place-init : goal.loop-place-init
loop-place-init c = record { len = ap length c.natural-order.ensures ∙ length-range_with_len 0 (length c.args.variables.now); front = refl }

pub returns-then-var-from-clause-order : goal.returns-then-var-from-clause-order
returns-then-var-from-clause-order c = λ is.
    let vs = c.args.variables.now in
    let within : c.loop-place.place < length vs = omega (arith, c.loop-place-test.true) in
    let below : get_or vs c.loop-place.place 0 < length vs = vars_below (length vs) vs c.loop-place.place is.once within in
    absurd (omega (arith, below, c.if-var-from.true, c.from.ensures))

pub returns-then-from-place-clause-order : goal.returns-then-from-place-clause-order
returns-then-from-place-clause-order c = λ is.
    let vs = c.args.variables.now in
    let i = c.loop-place.place in
    let f = c.place_of-from.result in
    let o = c.loop-place.order in
    let within : i < length vs = omega (arith, c.loop-place-test.true) in
    let same : get_or vs f 0 ≡ get_or vs i 0 = sym (get_or-take i vs f 0 c.if-from-place.true) ∙ ap (λ l. get_or l f 0) (sym c.loop-place.invariant.front) ∙ get_or-take i o f 0 c.if-from-place.true ∙ c.place_of-from.ensures.there in
    absurd (vars_once (length vs) vs f i is.once c.if-from-place.true within same)
