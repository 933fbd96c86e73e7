use Rattle.std.proofs.Common.{◌+◌, ◌-◌, ◌∷◌, [], refl, ap, ◌∙◌, arith}
use Rattle.std.proofs.lemmas.List.{map-append}
use Rattle.node_store.specs.declared.node.Node.{Node}
use Rattle.slice_quad.specs.Fields.{numbers}
use Rattle.slice_quad.proofs.Narrow.{widened_none, widened_more, last_sign}
use Rattle.slice_quad.proofs.widths.widened.Goals as goal

pub loop-place-init : goal.loop-place-init
loop-place-init c =
    let xs = c.args.x in let n = c.bit-sign.result.0 in
    widened_none xs (numbers c.x.inside.bits.items) n c.width-from.result c.x.view_is c.width-from.ensures c.requires.some
    (last_sign xs n (c.width-from.result - 1) c.requires.some (omega arith) c.bit-sign.ensures)

pub loop-place-preserved : goal.loop-place-preserved
loop-place-preserved c =
    let before = c.loop-place.bits.items in
    widened_more c.args.x (numbers before) (numbers c.push.new.self.items) c.bit-sign.result.0 c.loop-place._place (c.loop-place._place + 1) c.loop-place.invariant (omega arith)
    (ap numbers c.in_ok-push.ensures.items ∙ map-append (λ (m : Node). m.0) before (c.bit-sign.result ∷ [])) refl

pub returns-clause-width : goal.returns-clause-width
returns-clause-width c = omega (arith, c.loop-place.invariant.long)

pub returns-clause-same : goal.returns-clause-same
returns-clause-same c = c.loop-place.invariant.same
