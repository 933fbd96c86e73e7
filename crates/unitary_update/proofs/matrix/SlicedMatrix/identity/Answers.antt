use Rattle.std.proofs.Common.{◌≡◌, ◌<◌, ◌≤◌, ◌*◌, ◌∙◌, ap, subst, map, refl}
use Rattle.amp_dense.specs.Rules.{Settings}
use Rattle.computed_cache.specs.Entries.{Cached}
use Rattle.diagram_model.specs.Stores.{Diagram}
use Rattle.slice_quad.specs.Started.{StartStopIs}
use Rattle.amp_dense.specs.contracts.rules.Rules.{the_view as rules_view}
use Rattle.unitary_update.specs.Kept.{IsKept, step_in}
use Rattle.unitary_update.proofs.MatrixLemmas.{state_with, kept_start}
use Rattle.unitary_update.proofs.matrix.SlicedMatrix.identity.Goals as goal

pub invariant_of-result-in-Ok : goal.invariant_of-result-in-Ok
invariant_of-result-in-Ok c =
    let d = c.in_ok-diagrams.diagrams in let extends = c.identity.ensures.extends in
    let same : rules_view c.rules.inside ≡ c.args.rules.now = c.rules.view_is in
    let kept : IsKept (state_with c.args.qubits c.args.rules.now (map step_in c.new-in-Ok.result.items) c.identity.new.d c.in-Ok.quad) =
    kept_start c.args.qubits c.args.rules.now (map step_in c.new-in-Ok.result.items) c.identity.new.d c.in-Ok.quad c.requires c.width-width.ensures.sound (ap (map step_in) c.new-in-Ok.ensures.items) c.identity.ensures.sound
    (extends.order ∙ c.in_ok-diagrams.ensures.order)
    (extends.limit ∙ c.in_ok-diagrams.ensures.limit ∙ ap (λ (r : Settings). r.nodes) same)
    (c.identity.ensures.capacity ∙ ap (λ (e : Cached). e.capacity) c.in_ok-diagrams.ensures.cache ∙ ap (λ (r : Settings). r.cache) same)
    c.in-Ok.ensures.identity in
    rw same kept

pub returns-in-Ok-clause-room : goal.returns-in-Ok-clause-room
returns-in-Ok-clause-room c =
    let limit = c.in_ok-diagrams.ensures.limit ∙ ap (λ (r : Settings). r.nodes) c.rules.view_is in
    subst (λ i. 3 * c.args.qubits ≤ i) limit c.in-Ok.ensures.room

pub returns-in-Err-Full-clause-stops : goal.returns-in-Err-Full-clause-stops
returns-in-Err-Full-clause-stops c =
    let d = c.in_ok-diagrams.diagrams in
    let full = subst (StartStopIs d.store (3 * c.args.qubits)) c.in-Err-Full.field-0-is c.in-Err-Full.ensures.full in
    let limit = c.in_ok-diagrams.ensures.limit ∙ ap (λ (r : Settings). r.nodes) c.rules.view_is in
    let order = c.order.ensures ∙ ap (λ (e : Diagram). e.order) c.store.ensures.value ∙ c.identity.ensures.extends.order ∙ c.in_ok-diagrams.ensures.order in
    let told : c.in-Err-Full.held ≡ c.args.rules.now.nodes = full.0 ∙ limit in
    let held_is = c.in-Err-Full.held-is in
    (subst (λ i. i < 3 * c.args.qubits) limit full.1, rw (held_is, told, order) refl)
