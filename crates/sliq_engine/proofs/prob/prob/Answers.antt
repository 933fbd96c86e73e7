use Rattle.std.proofs.Common.{rules, ◌≡◌, ◌^◌, ℕ, Bool, List, Err, Ok, length, false, sym, ◌∙◌, ap, subst}
use Rattle.std.proofs.lemmas.List.{length-replicate, length-map}
use Rattle.std.proofs.lemmas.Result.{err_from_is_err_and}
use Rattle.gate_set.specs.Circuits.{Circuit}
use Rattle.amp_dense.specs.Standing.{Standing, begun, vector}
use Rattle.amp_dense.proofs.Walking.{walked}
use Rattle.state_update.specs.Kept.{standing_of, sliced_policy}
use Rattle.probabilities.specs.Outcomes.{counted}
use Rattle.probabilities.specs.Weighing.{total_weight, IsNarrow}
use Rattle.outputs.specs.declared.output.SendStop.{SendStop}
use Rattle.causes.specs.declared.cause.Cause.{Cause}
use Rattle.sliq_engine.specs.Steps.{zeros, Simulates}
use Rattle.sliq_engine.specs.Ending.{MayStopBy}
use Rattle.causes.specs.declared.cause.Cause.TheVariants.{WeightTooWide}
use Rattle.outputs.specs.Outcomes.{outcomes_output}
use Rattle.sliq_engine.specs.Prob.{IsHeavy}
use Rattle.sliq_engine.proofs.WeighedExits.{weighed_refused, weighed_halts, weighed_too_heavy, weighed_stops, weighed_ends, below_from}
use Rattle.sliq_engine.proofs.prob.prob.Goals as goal

pub returns-in_err-circuit-clause-stop : goal.returns-in_err-circuit-clause-stop
returns-in_err-circuit-clause-stop g c =
    let cause : Cause = c.in_err-circuit.field-0.0 in
    let told : c.from_residual.result ≡ Err cause = search rules in
    rw told (weighed_refused IsHeavy WeightTooWide outcomes_output c.args.rules.now c.args.text.now cause (g.K.Sink.written c.args.out.now) c.in_err-circuit.ensures.stop)

pub returns-in_err-state-clause-stop : goal.returns-in_err-state-clause-stop
returns-in_err-state-clause-stop g c =
    let it : Circuit = c.in_ok-circuit.circuit in
    let cause : Cause = c.in_err-state.field-0.0 in
    let told : c.from_residual-in_err-state.result ≡ Err cause = search rules in
    let halts : MayStopBy (Simulates sliced_policy c.args.rules.now (zeros it.qubits) it.gates) cause =
    subst (λ (x : List Bool). MayStopBy (Simulates sliced_policy c.args.rules.now x it.gates) cause) c.zeros_of-input.ensures c.in_err-state.ensures.stop in
    rw told (weighed_halts IsHeavy WeightTooWide outcomes_output c.args.rules.now c.args.text.now it c.in_ok-circuit.ensures.reads cause (g.K.Sink.written c.args.out.now) halts)

pub check_weight-requires-clause-size : goal.check_weight-requires-clause-size
check_weight-requires-clause-size g c =
    let it : Circuit = c.in_ok-circuit.circuit in
    let by = walked sliced_policy (begun c.zeros_of-input.result c.args.rules.now) it.gates _ c.in_ok-state.ensures.simulates in
    ap length (by.input ∙ c.zeros_of-input.ensures) ∙ length-replicate it.qubits false ∙ sym c.qubits.ensures.value

pub returns-in_err-check_weight-clause-stop : goal.returns-in_err-check_weight-clause-stop
returns-in_err-check_weight-clause-stop g c =
    let it : Circuit = c.in_ok-circuit.circuit in
    let s = c.in_ok-state.state in
    let t : Standing = standing_of s in
    let simulates : Simulates sliced_policy c.args.rules.now (zeros it.qubits) it.gates (Ok t) =
    subst (λ (x : List Bool). Simulates sliced_policy c.args.rules.now x it.gates (Ok t)) c.zeros_of-input.ensures c.in_ok-state.ensures.simulates in
    let cause : Cause = c.in_err-check_weight.field-0.0 in
    let told : c.from_residual-in_err-check_weight.result ≡ Err cause = search rules in
    rw told (weighed_too_heavy IsHeavy WeightTooWide outcomes_output c.args.rules.now c.args.text.now it c.in_ok-circuit.ensures.reads t simulates c.qubits.result c.qubits.ensures.value
    cause (g.K.Sink.written c.args.out.now) c.in_err-check_weight.ensures.stop)

pub send_outcomes-requires-clause-size : goal.send_outcomes-requires-clause-size
send_outcomes-requires-clause-size g c =
    let it : Circuit = c.in_ok-circuit.circuit in
    let by = walked sliced_policy (begun c.zeros_of-input.result c.args.rules.now) it.gates _ c.in_ok-state.ensures.simulates in
    let flags : length c.counted-measured.result ≡ it.qubits =
    ap length (c.counted-measured.ensures ∙ ap counted c.measured.ensures.value) ∙ length-map it.measured _ ∙ c.measured.ensures.sound.flags in
    ap length (by.input ∙ c.zeros_of-input.ensures) ∙ length-replicate it.qubits false ∙ sym flags

pub send_outcomes-requires-clause-light : goal.send_outcomes-requires-clause-light
send_outcomes-requires-clause-light g c =
    let it : Circuit = c.in_ok-circuit.circuit in
    let s = c.in_ok-state.state in
    let t : Standing = standing_of s in
    let flags : length c.counted-measured.result ≡ it.qubits =
    ap length (c.counted-measured.ensures ∙ ap counted c.measured.ensures.value) ∙ length-map it.measured _ ∙ c.measured.ensures.sound.flags in
    subst (λ (n : ℕ). IsNarrow (total_weight n (vector t).entries)) (c.qubits.ensures.value ∙ sym flags) (below_from (2 ^ 127) (total_weight c.qubits.result (vector t).entries).a c.in_ok-check_weight.ensures.light)

pub returns-in_err-send_outcomes-clause-stop : goal.returns-in_err-send_outcomes-clause-stop
returns-in_err-send_outcomes-clause-stop g c =
    let it : Circuit = c.in_ok-circuit.circuit in
    let s = c.in_ok-state.state in
    let t : Standing = standing_of s in
    let simulates : Simulates sliced_policy c.args.rules.now (zeros it.qubits) it.gates (Ok t) =
    subst (λ (x : List Bool). Simulates sliced_policy c.args.rules.now x it.gates (Ok t)) c.zeros_of-input.ensures c.in_ok-state.ensures.simulates in
    let measured : c.counted-measured.result ≡ counted it.measured = c.counted-measured.ensures ∙ ap counted c.measured.ensures.value in
    let stop : SendStop = c.in_err-send_outcomes.field-0.0 in
    let from = err_from_is_err_and c.from_residual-in_err-send_outcomes.result c.from_residual-in_err-send_outcomes.ensures.1 in
    rw (from.1, from.2) (weighed_stops IsHeavy WeightTooWide outcomes_output c.args.rules.now c.args.text.now it c.in_ok-circuit.ensures.reads t simulates c.qubits.result c.qubits.ensures.value
    c.in_ok-check_weight.ensures.light c.counted-measured.result measured stop (g.K.Sink.written c.args.out.now) (g.K.Sink.written c.send_outcomes.new.out) c.in_err-send_outcomes.ensures.err)

pub returns-clause-done : goal.returns-clause-done
returns-clause-done g c =
    let it : Circuit = c.in_ok-circuit.circuit in
    let s = c.in_ok-state.state in
    let t : Standing = standing_of s in
    let simulates : Simulates sliced_policy c.args.rules.now (zeros it.qubits) it.gates (Ok t) =
    subst (λ (x : List Bool). Simulates sliced_policy c.args.rules.now x it.gates (Ok t)) c.zeros_of-input.ensures c.in_ok-state.ensures.simulates in
    let measured : c.counted-measured.result ≡ counted it.measured = c.counted-measured.ensures ∙ ap counted c.measured.ensures.value in
    weighed_ends IsHeavy WeightTooWide outcomes_output c.args.rules.now c.args.text.now it c.in_ok-circuit.ensures.reads t simulates c.qubits.result c.qubits.ensures.value
    c.in_ok-check_weight.ensures.light c.counted-measured.result measured (g.K.Sink.written c.args.out.now) (g.K.Sink.written c.send_outcomes.new.out) c.in_ok-send_outcomes.ensures.ok
