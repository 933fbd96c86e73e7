use Rattle.std.proofs.Common.{◌≡◌, sym, ◌∙◌, ap, subst, arith}
use Rattle.std.specs.List.{All}
use Rattle.diagram_model.specs.Stores.{Diagram, IsLive}
use Rattle.node_store.specs.declared.node.Node.{Node}
use Rattle.slice_quad.specs.Fields.{numbers}
use Rattle.slice_quad.specs.declared.coord.Coord.TheVariants.{A, B, C, D}
use Rattle.snapshot.specs.Snapshots.{Snapshot, functions_in}
use Rattle.snapshot.specs.Private.{functions}
use Rattle.snapshot.specs.Making.{AreLinesOf, AreThere, OnBad}
use Rattle.snapshot.specs.Judging.{ArePartsOf}
use Rattle.snapshot.proofs.TextLemmas.{handed_on}
use Rattle.snapshot.proofs.Rebuilding.{on_bad, quad_stands}
use Rattle.snapshot.proofs.Judged.{bits_there, built_is}
use Rattle.snapshot.proofs.loading.vector_of.Goals as goal

pub returns-in_err-nodes-clause-bad : goal.returns-in_err-nodes-clause-bad
returns-in_err-nodes-clause-bad g c =
    let x = c.in_err-nodes.field-0.0 in
    let bad : Type 0 = (s : Snapshot) → ArePartsOf s c.args.shape c.args.d.now.store.order c.args.lines.now c.args.bits.now → ⊥ in
    let store = ap (λ (d : Diagram). d.order) (c.lend.ensures.value ∙ c.forget.ensures.store) in
    handed_on c.from_residual.result x (OnBad bad) c.from_residual.ensures.1
    (on_bad ((s : Snapshot) → AreLinesOf c.lend.result.now.order c.args.lines.now s → ⊥) bad x (λ not s h. not s (record { snapshot = h.snapshot; order = store ∙ h.order; lines = h.lines })) c.in_err-nodes.ensures.bad)

pub returns-in_err-four-clause-bad : goal.returns-in_err-four-clause-bad
returns-in_err-four-clause-bad g c =
    let x = c.in_err-four.field-0.0 in
    let bad : Type 0 = (s : Snapshot) → ArePartsOf s c.args.shape c.args.d.now.store.order c.args.lines.now c.args.bits.now → ⊥ in
    let store = ap (λ (d : Diagram). d.order) (c.lend.ensures.value ∙ c.forget.ensures.store) in
    let nodes = c.deref.result.now in
    handed_on c.from_residual-in_err-four.result x (OnBad bad) c.from_residual-in_err-four.ensures.1
    (on_bad (AreThere nodes c.args.bits.now → ⊥) bad x (λ not s h.
    let told = c.in_ok-nodes.ensures.told s (record { snapshot = h.snapshot; order = store ∙ h.order; lines = h.lines }) in
    not (subst (λ ns. AreThere ns c.args.bits.now) (sym c.deref.ensures.value) (bits_there c.nodes_of.new.store s c.in_ok-nodes.nodes.items c.args.bits.now h.snapshot told h.bits))) c.in_err-four.ensures.bad)

pub quad_of-quad-requires-clause-least : goal.quad_of-quad-requires-clause-least
quad_of-quad-requires-clause-least g c = let a = c.in_ok-four.ensures.width A in let l = c.requires.least in omega (arith, a, l)

pub quad_of-quad-requires-clause-greatest : goal.quad_of-quad-requires-clause-greatest
quad_of-quad-requires-clause-greatest g c = let a = c.in_ok-four.ensures.width A in let l = c.requires.greatest in omega (arith, a, l)

pub quad_of-quad-requires-clause-width_b : goal.quad_of-quad-requires-clause-width_b
quad_of-quad-requires-clause-width_b g c = c.in_ok-four.ensures.width B ∙ sym (c.in_ok-four.ensures.width A)

pub quad_of-quad-requires-clause-width_c : goal.quad_of-quad-requires-clause-width_c
quad_of-quad-requires-clause-width_c g c = c.in_ok-four.ensures.width C ∙ sym (c.in_ok-four.ensures.width A)

pub quad_of-quad-requires-clause-width_d : goal.quad_of-quad-requires-clause-width_d
quad_of-quad-requires-clause-width_d g c = c.in_ok-four.ensures.width D ∙ sym (c.in_ok-four.ensures.width A)

pub returns-clause-stands : goal.returns-clause-stands
returns-clause-stands g c =
    let f = c.in_ok-four.ensures in
    let q = c.quad_of-quad.ensures in
    let live = subst (λ l. All (λ (m : Node). IsLive c.nodes_of.new.store m.0) l) (sym c.deref.ensures.value) c.in_ok-nodes.ensures.live in
    quad_stands c.nodes_of.new.store c.deref.result.now c.args.bits.now c.in_ok-four.four c.quad_of-quad.result c.args.shape.width live f.there f.nodes f.width c.requires.least c.requires.greatest q.four q.kept

pub returns-clause-same : goal.returns-clause-same
returns-clause-same g c = λ s h.
    let d = c.nodes_of.new.store in
    let f = c.in_ok-four.ensures in
    let q = c.quad_of-quad.ensures in
    let nodes = c.deref.result.now in
    let n = c.in_ok-nodes.ensures in
    let store = ap (λ (e : Diagram). e.order) (c.lend.ensures.value ∙ c.forget.ensures.store) in
    let told = subst (λ l. functions d (numbers l) ≡ functions_in s) (sym c.deref.ensures.value) (n.told s (record { snapshot = h.snapshot; order = store ∙ h.order; lines = h.lines })) in
    let live = subst (λ l. All (λ (m : Node). IsLive d m.0) l) (sym c.deref.ensures.value) n.live in
    let stands = quad_stands d nodes c.args.bits.now c.in_ok-four.four c.quad_of-quad.result c.args.shape.width live f.there f.nodes f.width c.requires.least c.requires.greatest q.four q.kept in
    let parts = subst (λ o. ArePartsOf s c.args.shape o c.args.lines.now c.args.bits.now) (sym (n.extends.order ∙ store)) h in
    built_is d s c.args.shape c.quad_of-quad.result c.in_ok-four.four nodes c.args.lines.now c.args.bits.now n.sound parts stands told q.four f.nodes (f.width A) q.exponent
