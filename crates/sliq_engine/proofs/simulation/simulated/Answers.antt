use Rattle.std.proofs.Common.{rules, ◌≡◌, ◌<◌, ◌≤◌, ℕ, Err, Ok, length, get_or, take, sym, ◌∙◌, ap, subst, arith}
use Rattle.std.proofs.Math.Seq.{take-length}
use Rattle.gate_set.specs.declared.gate.Gate.{Gate}
use Rattle.gate_set.specs.Shape.{IsOn}
use Rattle.amp_dense.specs.declared.stop.Stop.{Stop}
use Rattle.amp_dense.specs.Standing.{Walks, begun}
use Rattle.amp_dense.proofs.Walking.{walked, walk_on, walk_stops}
use Rattle.causes.specs.Stops.{cause_of}
use Rattle.sliq_engine.proofs.Endings.{simulation_stops}
use Rattle.sliq_engine.proofs.simulation.simulated.Goals as goal

pub gates-init : goal.gates-init
gates-init g c = ap Ok c.in_ok-state.ensures.begun

pub apply-requires-clause-within : goal.apply-requires-clause-within
apply-requires-clause-within g c =
    let so_far = walked g.A.Amplitudes.policy (begun c.args.input.now c.args.rules.now) _ _ c.gates.invariant in
    let gate : Gate = c.gate-item.result in
    let on : IsOn c.args.circuit.now.qubits gate = search rules in
    subst (λ (n : ℕ). IsOn n gate) (sym (ap length so_far.input ∙ c.requires.size)) on

pub apply-requires-clause-few : goal.apply-requires-clause-few
apply-requires-clause-few g c =
    let so_far = walked g.A.Amplitudes.policy (begun c.args.input.now c.args.rules.now) _ _ c.gates.invariant in
    let gates = c.args.circuit.now.gates in
    let i = c.gates.gate-index in
    let fewer : length (take i gates) ≤ length gates = search rules in
    omega (arith, ap length so_far.accepted, fewer, c.gates-gate-items.ensures.sound.few_gates)

pub gates-preserved : goal.gates-preserved
gates-preserved g c =
    let gates = c.args.circuit.now.gates in
    let i = c.gates.gate-index in
    let gate : Gate = c.gate-item.result in
    let within : i < length gates = search rules in
    let here : gate ≡ get_or gates i gate = search rules in
    walk_on g.A.Amplitudes.policy (begun c.args.input.now c.args.rules.now) _ gates i gate within here c.gates.invariant _ c.in_ok-apply.ensures.accepts

pub returns-in_err-apply-clause-stop : goal.returns-in_err-apply-clause-stop
returns-in_err-apply-clause-stop g c =
    let gates = c.args.circuit.now.gates in
    let i = c.gates.gate-index in
    let gate : Gate = c.gate-item.result in
    let stop : Stop = c.in_err-apply.field-0.0 in
    let within : i < length gates = search rules in
    let here : gate ≡ get_or gates i gate = search rules in
    let e : c.from_residual-in_err-apply.result ≡ Err (cause_of stop) = search rules in
    let stops = walk_stops g.A.Amplitudes.policy (begun c.args.input.now c.args.rules.now) _ gates i gate within here c.gates.invariant stop c.in_err-apply.ensures.stops in
    rw e (simulation_stops g.A.Amplitudes.policy c.args.rules.now c.args.input.now gates stop stops)

pub returns-clause-simulates : goal.returns-clause-simulates
returns-clause-simulates g c =
    let gates = c.args.circuit.now.gates in
    let all : c.gates.gate-index ≡ length gates = search rules in
    subst (λ l. Walks g.A.Amplitudes.policy (begun c.args.input.now c.args.rules.now) l (Ok (g.A.Amplitudes.standing c.gates.state))) (ap (λ (i : ℕ). take i gates) all ∙ take-length gates) c.gates.invariant
