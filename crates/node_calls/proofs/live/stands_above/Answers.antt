use Rattle.std.proofs.Common.{◌≡◌, ◌<◌, length, true, sym, ◌∙◌, ap, arith, inr}
use Rattle.std.proofs.lemmas.Bool.{ltb-true}
use Rattle.bit_lists.specs.Orders.{has, place_in}
use Rattle.node_store.proofs.Climbs.{below_by_place}
use Rattle.node_calls.proofs.live.stands_above.Goals as goal

pub returns-then-parts-len-clause-above : goal.returns-then-parts-len-clause-above
returns-then-parts-len-clause-above c = λ e.
    let d = c.args.store.now in
    let s = c.parts_of.ensures.sound in
    let is = sym c.parts_of.ensures.parts ∙ c.in-Some.is in
    let h : has d.order c.in-Some.parts.var ≡ true = s.diagram.within c.args.n.0 c.in-Some.parts is in
    let len : c.len.result ≡ length d.order = c.len.ensures.value ∙ ap length c.order.ensures in
    let v : has d.order c.args.var ≡ true = s.all c.args.var (omega (arith, c.if-var-len.false, len)) in
    let less = ltb-true c.place_of.result c.place_of-then-parts-len.result e in
    let places : place_in d.order c.args.var < place_in d.order c.in-Some.parts.var = omega (arith, less, c.place_of.ensures.place, c.place_of-then-parts-len.ensures.place) in
    inr (record { parts = c.in-Some.parts; is = is; below = below_by_place d.order c.args.var c.in-Some.parts.var v h places })
