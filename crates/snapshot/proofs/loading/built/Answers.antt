use Rattle.std.proofs.Common.{◌≡◌, length, sym, ◌∙◌, ap, arith}
use Rattle.amp_dense.specs.Rules.{Settings}
use Rattle.snapshot.specs.Snapshots.{Snapshot}
use Rattle.snapshot.specs.Reading.{Spells}
use Rattle.snapshot.specs.Making.{OnBad}
use Rattle.snapshot.specs.Judging.{ArePartsOf}
use Rattle.snapshot.proofs.TextLemmas.{handed_on}
use Rattle.snapshot.proofs.Rebuilding.{on_bad}
use Rattle.snapshot.proofs.Shapes.{shape_for, spelled_shape}
use Rattle.snapshot.proofs.Judged.{parts_for, no_order}
use Rattle.snapshot.proofs.loading.built.Goals as goal

pub returns-in_default-clause-bad : goal.returns-in_default-clause-bad
returns-in_default-clause-bad g c = λ s h. c.in_default.ensures.none (shape_for s) (spelled_shape c.args.numbers.now s h)

pub returns-in_default-order_of-clause-bad : goal.returns-in_default-order_of-clause-bad
returns-in_default-order_of-clause-bad g c = λ s h.
    let parts = c.parts_of-parts.result in
    no_order c.args.numbers.now c.in-Some.shape parts.order.now parts.lines.now parts.bits.now s c.order_of.result c.in-Some.ensures.some c.parts_of-parts.ensures.cut c.in_default-order_of.is c.order_of.ensures.order h

pub returns-in_err-quad-clause-bad : goal.returns-in_err-quad-clause-bad
returns-in_err-quad-clause-bad g c =
    let parts = c.parts_of-parts.result in
    let shape = c.in-Some.shape in
    let made = c.in_ok-diagrams.diagrams.store.order in
    let bad : Type 0 = (s : Snapshot) → Spells c.args.numbers.now s → ⊥ in
    let x = c.in_err-quad.field-0.0 in
    handed_on c.from_residual-in_err-quad.result x (OnBad bad) c.from_residual-in_err-quad.ensures.1
    (on_bad ((s : Snapshot) → ArePartsOf s shape made parts.lines.now parts.bits.now → ⊥) bad x (λ not s h.
    not s (parts_for c.args.numbers.now shape parts.order.now parts.lines.now parts.bits.now c.in-Some-order_of.order made s c.order_of.result c.in-Some.ensures.some c.parts_of-parts.ensures.cut c.in-Some-order_of.is c.order_of.ensures.order c.in_ok-diagrams.ensures.order h))
    c.in_err-quad.ensures.bad)

pub returns-clause-built : goal.returns-clause-built
returns-clause-built g c =
    let parts = c.parts_of-parts.result in
    let shape = c.in-Some.shape in
    let has = c.in-Some.ensures.some in
    let made = c.in_ok-diagrams.diagrams.store.order in
    let q = c.in_ok-quad.ensures in
    let d = c.in_ok-diagrams.ensures in
    let long : length c.vector_of.new.d.store.order ≡ shape.qubits = ap length (q.order ∙ d.order) ∙ c.in-Some-order_of.ensures.len ∙ c.parts_of-parts.ensures.order in
    let few = has.few in
    let small = has.small in
    let exponent = q.exponent in
    let limit_q = q.limit in
    let limit_d = d.limit in
    let most = c.max-limit.ensures in
    let rules = ap (λ (r : Settings). r.nodes) c.rules.view_is in
    let held_q = q.held in
    let held_d = d.empty in
    record {
      shape = shape;
      has = has;
      qubits = sym long;
      few = omega (arith, long, few);
      exponent = omega (arith, exponent, small);
      sound = q.sound;
      stands = q.stands;
      kept = q.kept;
      limit = omega (arith, limit_q, limit_d, most, rules);
      held = omega (arith, held_q, held_d);
      same = λ s h. q.same s (parts_for c.args.numbers.now shape parts.order.now parts.lines.now parts.bits.now c.in-Some-order_of.order made s c.order_of.result has c.parts_of-parts.ensures.cut c.in-Some-order_of.is c.order_of.ensures.order d.order h);
    }
