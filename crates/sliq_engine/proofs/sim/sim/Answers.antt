use Rattle.std.proofs.Common.{rules, ◌≡◌, ℕ, Bool, List, Err, Ok, length, sym, ◌∙◌, ap, subst}
use Rattle.gate_set.specs.Circuits.{Circuit}
use Rattle.amp_dense.specs.Standing.{Standing, begun}
use Rattle.amp_dense.proofs.Walking.{walked}
use Rattle.state_update.specs.Kept.{standing_of, sliced_policy}
use Rattle.outputs.specs.declared.output.SendStop.{SendStop}
use Rattle.causes.specs.declared.cause.Cause.{Cause}
use Rattle.sliq_engine.specs.Steps.{SameQubits, Simulates}
use Rattle.sliq_engine.specs.Sim.{input_for}
use Rattle.sliq_engine.specs.Ending.{MayStopBy}
use Rattle.causes.specs.Stops.{cause_of_sending}
use Rattle.sliq_engine.proofs.SimExits.{sim_refused, sim_differs, sim_halts, sim_stops, sim_ends}
use Rattle.sliq_engine.proofs.sim.sim.Goals as goal

pub returns-in_err-circuit-clause-stop : goal.returns-in_err-circuit-clause-stop
returns-in_err-circuit-clause-stop g c =
    let cause : Cause = c.in_err-circuit.field-0.0 in
    let told : c.from_residual.result ≡ Err cause = search rules in
    rw told (sim_refused c.args.bits c.args.rules.now c.args.text.now cause (g.K.Sink.written c.args.out.now) c.in_err-circuit.ensures.stop)

pub returns-in_err-check_qubits-clause-stop : goal.returns-in_err-check_qubits-clause-stop
returns-in_err-check_qubits-clause-stop g c =
    let it : Circuit = c.in_ok-circuit.circuit in
    let start = input_for c.args.bits it.qubits in
    let input : c.input_for-input.result ≡ start = c.input_for-input.ensures ∙ ap (input_for c.args.bits) c.qubits.ensures.value in
    let count : c.len.result ≡ length start = c.len.ensures.value ∙ ap length input in
    let cause : Cause = c.in_err-check_qubits.field-0.0 in
    let told : c.from_residual-in_err-check_qubits.result ≡ Err cause = search rules in
    let stop : MayStopBy (SameQubits it.qubits (length start)) cause =
    subst (λ (m : ℕ). MayStopBy (SameQubits m (length start)) cause) c.qubits-2.ensures.value
    (subst (λ (k : ℕ). MayStopBy (SameQubits c.qubits-2.result k) cause) count c.in_err-check_qubits.ensures.stop) in
    rw told (sim_differs c.args.bits c.args.rules.now c.args.text.now it c.in_ok-circuit.ensures.reads cause (g.K.Sink.written c.args.out.now) stop)

pub simulated-requires-clause-size : goal.simulated-requires-clause-size
simulated-requires-clause-size g c =
    sym c.len.ensures.value ∙ sym c.in_ok-check_qubits.ensures.same ∙ c.qubits-2.ensures.value

pub returns-in_err-state-clause-stop : goal.returns-in_err-state-clause-stop
returns-in_err-state-clause-stop g c =
    let it : Circuit = c.in_ok-circuit.circuit in
    let start = input_for c.args.bits it.qubits in
    let input : c.input_for-input.result ≡ start = c.input_for-input.ensures ∙ ap (input_for c.args.bits) c.qubits.ensures.value in
    let same : it.qubits ≡ length start = sym c.qubits-2.ensures.value ∙ c.in_ok-check_qubits.ensures.same ∙ c.len.ensures.value ∙ ap length input in
    let cause : Cause = c.in_err-state.field-0.0 in
    let told : c.from_residual-in_err-state.result ≡ Err cause = search rules in
    let halts : MayStopBy (Simulates sliced_policy c.args.rules.now start it.gates) cause =
    subst (λ (x : List Bool). MayStopBy (Simulates sliced_policy c.args.rules.now x it.gates) cause) input c.in_err-state.ensures.stop in
    rw told (sim_halts c.args.bits c.args.rules.now c.args.text.now it c.in_ok-circuit.ensures.reads same cause (g.K.Sink.written c.args.out.now) halts)

pub send_amplitudes-requires-clause-size : goal.send_amplitudes-requires-clause-size
send_amplitudes-requires-clause-size g c =
    let it : Circuit = c.in_ok-circuit.circuit in
    let by = walked sliced_policy (begun c.input_for-input.result c.args.rules.now) it.gates _ c.in_ok-state.ensures.simulates in
    ap length by.input ∙ sym c.len.ensures.value ∙ sym c.in_ok-check_qubits.ensures.same ∙ c.qubits-2.ensures.value ∙ sym c.qubits-3.ensures.value

pub returns-in_err-send_amplitudes-clause-stop : goal.returns-in_err-send_amplitudes-clause-stop
returns-in_err-send_amplitudes-clause-stop g c =
    let it : Circuit = c.in_ok-circuit.circuit in
    let start = input_for c.args.bits it.qubits in
    let input : c.input_for-input.result ≡ start = c.input_for-input.ensures ∙ ap (input_for c.args.bits) c.qubits.ensures.value in
    let same : it.qubits ≡ length start = sym c.qubits-2.ensures.value ∙ c.in_ok-check_qubits.ensures.same ∙ c.len.ensures.value ∙ ap length input in
    let s = c.in_ok-state.state in
    let t : Standing = standing_of s in
    let simulates : Simulates sliced_policy c.args.rules.now start it.gates (Ok t) =
    subst (λ (x : List Bool). Simulates sliced_policy c.args.rules.now x it.gates (Ok t)) input c.in_ok-state.ensures.simulates in
    let stop : SendStop = c.in_err-send_amplitudes.field-0.0 in
    let told : c.from_residual-in_err-send_amplitudes.result ≡ Err (cause_of_sending stop) = search rules in
    rw told (sim_stops c.args.bits c.args.rules.now c.args.text.now it c.in_ok-circuit.ensures.reads same t simulates c.qubits-3.result c.qubits-3.ensures.value stop
    (g.K.Sink.written c.args.out.now) (g.K.Sink.written c.send_amplitudes.new.out) c.in_err-send_amplitudes.ensures.err)

pub returns-clause-done : goal.returns-clause-done
returns-clause-done g c =
    let it : Circuit = c.in_ok-circuit.circuit in
    let start = input_for c.args.bits it.qubits in
    let input : c.input_for-input.result ≡ start = c.input_for-input.ensures ∙ ap (input_for c.args.bits) c.qubits.ensures.value in
    let same : it.qubits ≡ length start = sym c.qubits-2.ensures.value ∙ c.in_ok-check_qubits.ensures.same ∙ c.len.ensures.value ∙ ap length input in
    let s = c.in_ok-state.state in
    let t : Standing = standing_of s in
    let simulates : Simulates sliced_policy c.args.rules.now start it.gates (Ok t) =
    subst (λ (x : List Bool). Simulates sliced_policy c.args.rules.now x it.gates (Ok t)) input c.in_ok-state.ensures.simulates in
    sim_ends c.args.bits c.args.rules.now c.args.text.now it c.in_ok-circuit.ensures.reads same t simulates c.qubits-3.result c.qubits-3.ensures.value
    (g.K.Sink.written c.args.out.now) (g.K.Sink.written c.send_amplitudes.new.out) c.in_ok-send_amplitudes.ensures.ok
