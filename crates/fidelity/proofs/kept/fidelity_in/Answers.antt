use Rattle.std.proofs.Common.{◌≡◌, ◌*◌, ◌/◌, ℕ, length, Result, Err, sym, ◌∙◌, ap, arith}
use Rattle.diagram_ops.specs.Diagrams.{StoreAndCache}
use Rattle.fidelity.specs.declared.tracing.TraceStop.{TraceStop}
use Rattle.fidelity.specs.declared.tracing.TraceStop.TheVariants.{TooWide}
use Rattle.fidelity.proofs.KeptMatrix.{few_powers, kept_value, kept_narrow, kept_wide}
use Rattle.fidelity.proofs.kept.fidelity_in.Goals as goal

-- as many qubits as half of the variables
half_of : (order vars n : ℕ) → order ≡ vars → vars ≡ 2 * n → order / 2 ≡ n
half_of order vars n e f = omega (arith, e, f)

-- the same stop, of another call
handed : {T U : Type 0} (s t : TraceStop) → (let r : Result T TraceStop = Err s in r) ≡ Err t → (let r : Result U TraceStop = Err s in r) ≡ Err t
handed s t e = let same : s ≡ t = cc in ap Err same

pub overlap-requires-clause-exponent : goal.overlap-requires-clause-exponent
overlap-requires-clause-exponent c =
    let m = c.args.matrix.now in
    omega (arith, c.exponent.ensures, few_powers m.qubits m.steps, c.accepted-few.ensures.value, c.accepted-few.ensures.few)

pub returns-in-Ok-clause-value : goal.returns-in-Ok-clause-value
returns-in-Ok-clause-value c =
    let m = c.args.matrix.now in
    let d = c.parts.result.0.now in
    let q = c.parts.result.1.now in
    let n = c.len-qubits.result / 2 in
    let size : n ≡ m.qubits = half_of c.len-qubits.result (length m.diagrams.store.order) m.qubits (c.len-qubits.ensures.value ∙ ap length c.order.ensures) c.parts.ensures.variables in
    c.overlap.ensures ∙ kept_value m d q n c.parts.ensures.diagrams c.parts.ensures.quad size c.parts.ensures.shows c.in-Ok.t c.exponent.result c.in-Ok.ensures.trace c.exponent.ensures

pub returns-in-Ok-clause-narrow : goal.returns-in-Ok-clause-narrow
returns-in-Ok-clause-narrow c =
    let m = c.args.matrix.now in
    let size = half_of c.len-qubits.result (length m.diagrams.store.order) m.qubits (c.len-qubits.ensures.value ∙ ap length c.order.ensures) c.parts.ensures.variables in
    kept_narrow m c.parts.result.0.now c.parts.result.1.now (c.len-qubits.result / 2) c.parts.ensures.diagrams c.parts.ensures.quad size c.parts.ensures.shows c.in-Ok.ensures.narrow

pub returns-in-Err-clause-too_wide : goal.returns-in-Err-clause-too_wide
returns-in-Err-clause-too_wide c = λ e.
    let m = c.args.matrix.now in
    let d = c.parts.result.0.now in
    let n = c.len-qubits.result / 2 in
    let size : n ≡ m.qubits = half_of c.len-qubits.result (length m.diagrams.store.order) m.qubits (c.len-qubits.ensures.value ∙ ap length c.order.ensures) c.parts.ensures.variables in
    let long : length d.store.order ≡ 2 * n = ap (λ (s : StoreAndCache). length s.store.order) c.parts.ensures.diagrams ∙ c.parts.ensures.variables ∙ ap (λ k. 2 * k) (sym size) in
    kept_wide m d c.parts.result.1.now n c.parts.ensures.diagrams c.parts.ensures.quad size c.parts.ensures.shows c.cached-sound.ensures.sound.store long (c.in-Err.ensures.too_wide (handed c.in-Err.stop TooWide e))
