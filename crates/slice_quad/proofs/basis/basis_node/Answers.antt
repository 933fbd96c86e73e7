use Rattle.std.proofs.Common.{rules, ◌≡◌, length, ℕ, ◌-◌, true, List, sym, ap, subst, arith}
use Rattle.bit_lists.specs.Orders.{has}
use Rattle.diagram_model.specs.Stores.{Diagram, Extends, requested}
use Rattle.diagram_model.proofs.Growing.{extends_trans}
use Rattle.diagram_model.proofs.Values.{below-order}
use Rattle.diagram_ops.proofs.Results.{same_store}
use Rattle.slice_quad.specs.Started.{StartStopIs}
use Rattle.slice_quad.proofs.Starting.{IsPlace, place_of_loop, built_none, built_as, built_next, built_full, built_room, var_has, low_child, high_child}
use Rattle.slice_quad.proofs.basis.basis_node.Goals as goal

pub loop-i-init : goal.loop-i-init
loop-i-init g c =
    record {
      built = built_none c.args.store.now c.args.x.now (length c.args.store.now.order - 0) c.held-held.ensures.sound c.requires.empty (omega arith);
      extends = same_store c.args.store.now;
    }

pub get-bit-requires : goal.get-bit-requires
get-bit-requires g c =
    let d = c.args.store.now in let e = c.loop-i.store in let i = c.loop-i.i in let v = c.at-var.result in
    let p : IsPlace d i v = place_of_loop d c.order-order.result i v c.len.result c.len-i-end.result c.order-order.ensures c.len.ensures.value c.len-i-end.ensures.value c.loop-i-test.true c.at-var.ensures in
    let there : has d.order v ≡ true = var_has d i v p in
    omega (arith, c.requires.len, below-order (length d.order) d.order v c.held-held.ensures.sound.diagram.order there)

pub make-requires-clause-var : goal.make-requires-clause-var
make-requires-clause-var g c =
    let d = c.args.store.now in let e = c.loop-i.store in let i = c.loop-i.i in let v = c.at-var.result in
    let p : IsPlace d i v = place_of_loop d c.order-order.result i v c.len.result c.len-i-end.result c.order-order.ensures c.len.ensures.value c.len-i-end.ensures.value c.loop-i-test.true c.at-var.ensures in
    subst (λ (o : List ℕ). has o v ≡ true) (sym c.loop-i.invariant.built.order) (var_has d i v p)

pub make-requires-clause-low : goal.make-requires-clause-low
make-requires-clause-low g c =
    let d = c.args.store.now in let e = c.loop-i.store in let i = c.loop-i.i in let v = c.at-var.result in
    let p : IsPlace d i v = place_of_loop d c.order-order.result i v c.len.result c.len-i-end.result c.order-order.ensures c.len.ensures.value c.len-i-end.ensures.value c.loop-i-test.true c.at-var.ensures in
    low_child d e c.args.x.now i c.loop-i.node.0 v c.get-bit.result c.low_of.result.0 p c.loop-i.invariant.built c.low_of.ensures

pub make-requires-clause-high : goal.make-requires-clause-high
make-requires-clause-high g c =
    let d = c.args.store.now in let e = c.loop-i.store in let i = c.loop-i.i in let v = c.at-var.result in
    let p : IsPlace d i v = place_of_loop d c.order-order.result i v c.len.result c.len-i-end.result c.order-order.ensures c.len.ensures.value c.len-i-end.ensures.value c.loop-i-test.true c.at-var.ensures in
    high_child d e c.args.x.now i c.loop-i.node.0 v c.get-bit.result c.high_of.result.0 p c.loop-i.invariant.built c.high_of.ensures

pub returns-in_err-node-clause-full : goal.returns-in_err-node-clause-full
returns-in_err-node-clause-full g c =
    let d = c.args.store.now in let e = c.loop-i.store in let i = c.loop-i.i in
    let stop : StartStopIs d (length c.args.x.now) c.in_err-node.field-0.0 =
    built_full d e e c.args.x.now (length d.order - i) c.loop-i.node.0 c.at-var.result c.low_of.result.0 c.high_of.result.0 (length c.args.x.now) c.loop-i.invariant.built
    (omega (arith, c.loop-i-test.true, c.len-i-end.ensures.value, ap (λ (o : List ℕ). length o) c.order-order.ensures)) c.requires.len c.in_err-node.field-0.0 c.in_err-node.ensures.stop in
    search rules

pub returns-in_err-node-clause-extends : goal.returns-in_err-node-clause-extends
returns-in_err-node-clause-extends g c =
    let x = c.loop-i.invariant.extends in
    let counted : Extends c.args.store.now (requested c.loop-i.store) = record { order = x.order; limit = x.limit; kept = x.kept } in
    subst (λ (s : Diagram). Extends c.args.store.now s) (sym c.in_err-node.ensures.refused) counted

pub loop-i-preserved : goal.loop-i-preserved
loop-i-preserved g c =
    let d = c.args.store.now in let e = c.loop-i.store in let i = c.loop-i.i in let v = c.at-var.result in
    let p : IsPlace d i v = place_of_loop d c.order-order.result i v c.len.result c.len-i-end.result c.order-order.ensures c.len.ensures.value c.len-i-end.ensures.value c.loop-i-test.true c.at-var.ensures in
    let h = c.in_ok-node.ensures in
    record {
      built = built_next d e c.make.new.self c.args.x.now i c.loop-i.node.0 c.in_ok-node.node.0 v c.get-bit.result p c.loop-i.invariant.built c.get-bit.ensures
          c.make.ensures.sound c.make.ensures.extends c.make.ensures.functions h.only c.low_of.result.0 c.high_of.result.0 c.low_of.ensures c.high_of.ensures h.live h.denotes;
      extends = extends_trans d e c.make.new.self c.loop-i.invariant.extends c.make.ensures.extends;
    }

pub returns-clause-built : goal.returns-clause-built
returns-clause-built g c =
    let d = c.args.store.now in
    built_as d c.loop-i.store c.args.x.now (length d.order - c.loop-i.i) 0 c.loop-i.node.0 (omega (arith, c.loop-i-test.false, c.len-i-end.ensures.value, ap (λ (o : List ℕ). length o) c.order-order.ensures)) c.loop-i.invariant.built

pub returns-clause-room : goal.returns-clause-room
returns-clause-room g c =
    let d = c.args.store.now in
    built_room d c.loop-i.store c.args.x.now c.loop-i.node.0 (length c.args.x.now)
    (built_as d c.loop-i.store c.args.x.now (length d.order - c.loop-i.i) 0 c.loop-i.node.0 (omega (arith, c.loop-i-test.false, c.len-i-end.ensures.value, ap (λ (o : List ℕ). length o) c.order-order.ensures)) c.loop-i.invariant.built)
    c.requires.len

pub returns-clause-extends : goal.returns-clause-extends
returns-clause-extends g c = c.loop-i.invariant.extends

pub returns-clause-sound : goal.returns-clause-sound
returns-clause-sound g c = c.loop-i.invariant.built.sound
