use Rattle.std.proofs.Common.{◌≡◌, ◌+◌, length, true, sym, ◌∙◌, ap, arith}
use Rattle.bit_lists.specs.Orders.{has, after, place_in}
use Rattle.diagram_model.specs.Stores.{depth, depth_of}
use Rattle.diagram_model.proofs.Heights.{length-place}
use Rattle.diagram_model.proofs.Values.{below-order}
use Rattle.node_store.proofs.store.Store.height.Goals as goal

pub place_of-requires : goal.place_of-requires
place_of-requires c =
    let d = c.args.self.now in
    let h : has d.order c.in-Some.parts.var ≡ true = c.parts.ensures.sound.diagram.within c.args.n.0 c.in-Some.parts (sym c.parts.ensures.value ∙ c.in-Some.is) in
    let below = below-order (length d.order) d.order c.in-Some.parts.var c.parts.ensures.sound.diagram.order h in
    omega (arith, below, ap length c.order_ref-order.ensures.value)

pub returns-in-Some : goal.returns-in-Some
returns-in-Some c =
    let d = c.args.self.now in
    let is = sym c.parts.ensures.value ∙ c.in-Some.is in
    let h : has d.order c.in-Some.parts.var ≡ true = c.parts.ensures.sound.diagram.within c.args.n.0 c.in-Some.parts is in
    let len = length-place d.order c.in-Some.parts.var h in
    let deep : depth d c.args.n.0 ≡ 1 + length (after d.order c.in-Some.parts.var) = ap (depth_of d.order) is in
    let place : c.place_of.result ≡ place_in d.order c.in-Some.parts.var = c.place_of.ensures.place ∙ ap (λ o. place_in o c.in-Some.parts.var) c.order_ref-order.ensures.value in
    omega (arith, len, deep, place, c.len.ensures.value, ap length c.order_ref-order.ensures.value)
