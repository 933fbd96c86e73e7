use Rattle.std.proofs.Common.{rules, ◌≡◌, Bool, false, List, Err, Ok, length, sym, ◌∙◌, ap, subst}
use Rattle.std.proofs.lemmas.List.{length-replicate}
use Rattle.gate_set.specs.Circuits.{Circuit}
use Rattle.amp_dense.specs.Standing.{Standing, begun}
use Rattle.amp_dense.proofs.Walking.{walked}
use Rattle.state_update.specs.Kept.{standing_of, sliced_policy}
use Rattle.outputs.specs.declared.output.SendStop.{SendStop}
use Rattle.causes.specs.declared.cause.Cause.{Cause}
use Rattle.sliq_engine.specs.Steps.{zeros, Simulates}
use Rattle.sliq_engine.specs.Ending.{MayEnd, MayStopBy}
use Rattle.sliq_engine.specs.Demo.{Demonstrates}
use Rattle.causes.specs.Stops.{cause_of_sending}
use Rattle.sliq_engine.proofs.DemoExits.{demo_starved, demo_halts, demo_stops, demo_ends}
use Rattle.sliq_engine.proofs.demo.demo.Goals as goal

pub returns-in_err-circuit-clause-stop : goal.returns-in_err-circuit-clause-stop
returns-in_err-circuit-clause-stop g c =
    let cause : Cause = c.in_err-circuit.field-0.0 in
    let told : c.from_residual.result ≡ Err cause = search rules in
    let out = g.K.Sink.written c.args.out.now in
    rw told (subst (λ (k : Cause). MayEnd (Demonstrates c.args.rules.now c.args.qubits c.args.gates c.args.seed) k out out) (sym c.in_err-circuit.ensures.memory) (demo_starved c.args.rules.now c.args.qubits c.args.gates c.args.seed out))

pub returns-in_err-state-clause-stop : goal.returns-in_err-state-clause-stop
returns-in_err-state-clause-stop g c =
    let it : Circuit = c.in_ok-circuit.circuit in
    let cause : Cause = c.in_err-state.field-0.0 in
    let told : c.from_residual-in_err-state.result ≡ Err cause = search rules in
    let halts : MayStopBy (Simulates sliced_policy c.args.rules.now (zeros it.qubits) it.gates) cause =
    subst (λ (x : List Bool). MayStopBy (Simulates sliced_policy c.args.rules.now x it.gates) cause) c.zeros_of-input.ensures c.in_err-state.ensures.stop in
    rw told (demo_halts c.args.rules.now c.args.qubits c.args.gates c.args.seed it c.in_ok-circuit.ensures.reads cause (g.K.Sink.written c.args.out.now) halts)

pub send_summary-requires-clause-size : goal.send_summary-requires-clause-size
send_summary-requires-clause-size g c =
    let it : Circuit = c.in_ok-circuit.circuit in
    let by = walked sliced_policy (begun c.zeros_of-input.result c.args.rules.now) it.gates _ c.in_ok-state.ensures.simulates in
    ap length (by.input ∙ c.zeros_of-input.ensures) ∙ length-replicate it.qubits false ∙ sym c.qubits.ensures.value

pub returns-in_err-send_summary-clause-stop : goal.returns-in_err-send_summary-clause-stop
returns-in_err-send_summary-clause-stop g c =
    let it : Circuit = c.in_ok-circuit.circuit in
    let s = c.in_ok-state.state in
    let t : Standing = standing_of s in
    let simulates : Simulates sliced_policy c.args.rules.now (zeros it.qubits) it.gates (Ok t) =
    subst (λ (x : List Bool). Simulates sliced_policy c.args.rules.now x it.gates (Ok t)) c.zeros_of-input.ensures c.in_ok-state.ensures.simulates in
    let stop : SendStop = c.in_err-send_summary.field-0.0 in
    let told : c.from_residual-in_err-send_summary.result ≡ Err (cause_of_sending stop) = search rules in
    rw told (demo_stops c.args.rules.now c.args.qubits c.args.gates c.args.seed it c.in_ok-circuit.ensures.reads t simulates c.qubits.result c.qubits.ensures.value stop
    (g.K.Sink.written c.args.out.now) (g.K.Sink.written c.send_summary.new.out) c.in_err-send_summary.ensures.err)

pub returns-clause-done : goal.returns-clause-done
returns-clause-done g c =
    let it : Circuit = c.in_ok-circuit.circuit in
    let s = c.in_ok-state.state in
    let t : Standing = standing_of s in
    let simulates : Simulates sliced_policy c.args.rules.now (zeros it.qubits) it.gates (Ok t) =
    subst (λ (x : List Bool). Simulates sliced_policy c.args.rules.now x it.gates (Ok t)) c.zeros_of-input.ensures c.in_ok-state.ensures.simulates in
    demo_ends c.args.rules.now c.args.qubits c.args.gates c.args.seed it c.in_ok-circuit.ensures.reads t simulates c.qubits.result c.qubits.ensures.value
    (g.K.Sink.written c.args.out.now) (g.K.Sink.written c.send_summary.new.out) c.in_ok-send_summary.ensures.ok
