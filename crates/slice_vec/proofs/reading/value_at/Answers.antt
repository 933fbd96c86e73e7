use Rattle.std.proofs.Common.{◌≡◌, ◌∙◌, ap, arith, rules, ◌-◌, length, FitsSigned, to_z, of_z}
use Rattle.std.specs.Int.{w128}
use Rattle.std.proofs.lemmas.Int.{to_z-of_z}
use Rattle.diagram_model.specs.Functions.{bit}
use Rattle.diagram_model.specs.Nodes.{value}
use Rattle.slice_vec.specs.Digits.{from_bit}
use Rattle.slice_vec.specs.Slices.{digits_of}
use Rattle.slice_vec.proofs.Ranges.{InRange}
use Rattle.slice_vec.proofs.Readings.{first_value, next_value, last_value, narrow}
use Rattle.slice_vec.proofs.reading.value_at.Goals as goal

pub loop-i-init : goal.loop-i-init
loop-i-init c =
    let d = c.args.d.now.store in
    let xs = c.args.x.now in
    let x = bit c.args.at.now in
    let r = c.signed-value.result in
    let fits : FitsSigned w128 r = search rules in
    let kept : to_z w128 (of_z w128 r) ≡ r = to_z-of_z w128 r fits in
    let top : c.width-top.result - 1 ≡ length xs - 1 = omega (arith, c.width-top.ensures) in
    let read : c.value.result ≡ value d.slots d.order x c.bit.result.0 = c.value.ensures ∙ ap (λ s. value s.slots s.order x c.bit.result.0) c.store-store.ensures.value in
    record { value = kept ∙ first_value d xs x (c.width-top.result - 1) c.bit.result.0 c.value.result r top c.bit.ensures read c.signed-value.ensures }

pub doubled-value-requires-clause-low : goal.doubled-value-requires-clause-low
doubled-value-requires-clause-low c =
    let xs = c.args.x.now in
    let range : InRange 126 (to_z w128 c.loop-i.value-bits) = narrow c.loop-i.i (from_bit (length xs - 1 - c.loop-i.i) (digits_of c.args.d.now.store xs)) (bit c.args.at.now) (to_z w128 c.loop-i.value-bits) (omega (arith, c.loop-i-test.true, c.width-top.ensures, c.requires.width)) c.loop-i.invariant.value in
    range.low

pub doubled-value-requires-clause-high : goal.doubled-value-requires-clause-high
doubled-value-requires-clause-high c =
    let xs = c.args.x.now in
    let range : InRange 126 (to_z w128 c.loop-i.value-bits) = narrow c.loop-i.i (from_bit (length xs - 1 - c.loop-i.i) (digits_of c.args.d.now.store xs)) (bit c.args.at.now) (to_z w128 c.loop-i.value-bits) (omega (arith, c.loop-i-test.true, c.width-top.ensures, c.requires.width)) c.loop-i.invariant.value in
    range.high

pub loop-i-preserved : goal.loop-i-preserved
loop-i-preserved c =
    let d = c.args.d.now.store in
    let xs = c.args.x.now in
    let x = bit c.args.at.now in
    let r = c.doubled-value.result in
    let i = c.loop-i.i in
    let n = c.bit-in-loop-i.result.0 in
    let fits : FitsSigned w128 r = search rules in
    let kept : to_z w128 (of_z w128 r) ≡ r = to_z-of_z w128 r fits in
    let top : c.width-top.result - 1 ≡ length xs - 1 = omega (arith, c.width-top.ensures) in
    let read : c.value-in-loop-i.result ≡ value d.slots d.order x n = c.value-in-loop-i.ensures ∙ ap (λ s. value s.slots s.order x n) c.store-store.ensures.value in
    record { value = kept ∙ next_value d xs x (c.width-top.result - 1) i n c.value-in-loop-i.result (to_z w128 c.loop-i.value-bits) r top c.loop-i-test.true c.bit-in-loop-i.ensures read c.loop-i.invariant.value c.doubled-value.ensures }

pub returns : goal.returns
returns c =
    last_value c.args.d.now.store c.args.x.now (bit c.args.at.now) c.loop-i.i (to_z w128 c.loop-i.value-bits) (omega (arith, c.loop-i-test.false, c.loop-i.auto.i-end, c.width-top.ensures)) c.loop-i.invariant.value
