use Rattle.std.proofs.Common.{◌≡◌, ◌-◌, ◌<◌, max, length, get_or, ◌∙◌, ap, arith}
use Rattle.diagram_model.specs.Stores.{depth}
use Rattle.diagram_model.proofs.Heights.{top_is}
use Rattle.node_store.proofs.Climbs.{depth-le, max-le}
use Rattle.node_store.proofs.store.Store.top_of.Goals as goal

pub overflow_sub-len : goal.overflow_sub-len
overflow_sub-len c =
    let d = c.args.self.now in
    let s = c.order_ref-order.ensures.sound in
    let f = depth-le d c.args.f.0 s c.requires.f in
    let g = depth-le d c.args.g.0 s c.requires.g in
    let h = depth-le d c.args.h.0 s c.requires.h in
    let all = max-le (depth d c.args.f.0) (depth d c.args.g.0) (depth d c.args.h.0) (length d.order) f g h in
    omega (arith, all, c.max-height.ensures, c.max.ensures, c.height.ensures, c.height-2.ensures, c.height-3.ensures, c.len.ensures.value, ap length c.order_ref-order.ensures.value)

pub at-requires : goal.at-requires
at-requires c =
    let d = c.args.self.now in
    let s = c.order_ref-order.ensures.sound in
    let f = depth-le d c.args.f.0 s c.requires.f in
    let g = depth-le d c.args.g.0 s c.requires.g in
    let h = depth-le d c.args.h.0 s c.requires.h in
    let all = max-le (depth d c.args.f.0) (depth d c.args.g.0) (depth d c.args.h.0) (length d.order) f g h in
    omega (arith, all, c.max-height.ensures, c.max.ensures, c.height.ensures, c.height-2.ensures, c.height-3.ensures, c.len.ensures.value, ap length c.order_ref-order.ensures.value, c.if-height-eq0.false)

pub returns-clause-top : goal.returns-clause-top
returns-clause-top c =
    let d = c.args.self.now in
    let t = c.max-height.result in
    let is : t ≡ max (max (depth d c.args.f.0) (depth d c.args.g.0)) (depth d c.args.h.0) = omega (arith, c.max-height.ensures, c.max.ensures, c.height.ensures, c.height-2.ensures, c.height-3.ensures) in
    let some : 0 < t = omega (arith, c.if-height-eq0.false) in
    let order = c.order_ref-order.ensures.value in
    let len : c.len.result ≡ length d.order = c.len.ensures.value ∙ ap length order in
    let at : c.at.result ≡ get_or d.order (length d.order - t) 0 =
    c.at.ensures ∙ ap (λ o. get_or o (c.len.result - t) 0) order ∙ ap (λ k. get_or d.order (k - t) 0) len in
    rw at (top_is d c.args.f.0 c.args.g.0 c.args.h.0 t c.order_ref-order.ensures.sound c.requires.f c.requires.g c.requires.h is some)
