use Rattle.std.proofs.Common.{◌≡◌, ◌++◌, ◌∙◌, replicate, sym, ap, arith}
use Rattle.diagram_ops.specs.declared.node_memo.Mark.{Mark}
use Rattle.diagram_ops.proofs.Marks.{longer_same}
use Rattle.diagram_ops.proofs.node_memo.NodeMemo.lengthen.Goals as goal

pub returns-clause-same : goal.returns-clause-same
returns-clause-same c n =
    let ms = c.self.inside.marks.items in
    let z : Mark = record { stamp = 0; node = 0 } in
    let more = c.max-more.result in
    let items : c.in_ok-places.places.items ≡ replicate more z = c.in_ok-places.ensures.items_if_clones_equal (λ y e. e) in
    let longer : c.extend_from_slice.new.self.items ≡ ms ++ replicate more z = c.in_ok-extend_from_slice.ensures.items ∙ ap (λ ps. ms ++ ps) (c.deref.ensures.value ∙ items) in
    rw (sym c.self.view_is) (rw longer (longer_same c.self.inside.stamp more z ms (λ e. omega (arith, e, c.self.invariant.some)) n))
