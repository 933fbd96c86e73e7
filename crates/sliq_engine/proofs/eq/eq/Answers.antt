use Rattle.std.proofs.Common.{rules, ◌≡◌, ℕ, Ok, Err, sym, ◌∙◌, subst}
use Rattle.amp_dense.specs.declared.stop.Stop.{Stop}
use Rattle.gate_set.specs.Circuits.{Circuit}
use Rattle.circuit_model.specs.Product.{exponent}
use Rattle.comparison.specs.Scalars.{comparison, compared}
use Rattle.comparison.specs.Steps.{steps_of}
use Rattle.comparison.proofs.Verdicts.{verdict-short}
use Rattle.amp_dense.specs.Standing.{MayStop}
use Rattle.unitary_update.specs.Kept.{Standing, Multiplies}
use Rattle.outputs.specs.declared.output.SendStop.{SendStop}
use Rattle.causes.specs.declared.cause.Cause.{Cause}
use Rattle.causes.specs.declared.cause.Cause.TheVariants.{Done}
use Rattle.sliq_engine.specs.Steps.{SameQubits}
use Rattle.causes.specs.Stops.{cause_of, cause_of_sending}
use Rattle.sliq_engine.specs.Eq.{Says}
use Rattle.sliq_engine.specs.Ending.{MayEnd, MayStopBy}
use Rattle.sliq_engine.proofs.PairExits.{same_numbers, pair_refused, pair_refused_second, pair_unlike, pair_halts, pair_ends}
use Rattle.sliq_engine.proofs.EqExits.{says_stops, says_done, says_differs}
use Rattle.sliq_engine.proofs.eq.eq.Goals as goal

pub returns-in_err-u-clause-stop : goal.returns-in_err-u-clause-stop
returns-in_err-u-clause-stop g c =
    let cause : Cause = c.in_err-u.field-0.0 in
    let told : c.from_residual.result ≡ Err cause = search rules in
    rw told (pair_refused Says c.args.rules.now c.args.one.now c.args.two.now cause (g.K.Sink.written c.args.out.now) c.in_err-u.ensures.stop)

pub returns-in_err-v-clause-stop : goal.returns-in_err-v-clause-stop
returns-in_err-v-clause-stop g c =
    let cause : Cause = c.in_err-v.field-0.0 in
    let told : c.from_residual-in_err-v.result ≡ Err cause = search rules in
    rw told (pair_refused_second Says c.args.rules.now c.args.one.now c.args.two.now c.in_ok-u.u c.in_ok-u.ensures.reads cause (g.K.Sink.written c.args.out.now) c.in_err-v.ensures.stop)

pub returns-in_err-check_qubits-clause-stop : goal.returns-in_err-check_qubits-clause-stop
returns-in_err-check_qubits-clause-stop g c =
    let u : Circuit = c.in_ok-u.u in
    let v : Circuit = c.in_ok-v.v in
    let cause : Cause = c.in_err-check_qubits.field-0.0 in
    let told : c.from_residual-in_err-check_qubits.result ≡ Err cause = search rules in
    let stop : MayStopBy (SameQubits u.qubits v.qubits) cause =
    subst (λ (m : ℕ). MayStopBy (SameQubits m v.qubits) cause) c.qubits.ensures.value
    (subst (λ (n : ℕ). MayStopBy (SameQubits c.qubits.result n) cause) c.qubits-2.ensures.value c.in_err-check_qubits.ensures.stop) in
    rw told (pair_unlike Says c.args.rules.now c.args.one.now c.args.two.now u c.in_ok-u.ensures.reads v c.in_ok-v.ensures.reads cause (g.K.Sink.written c.args.out.now) stop)

pub compare-requires-clause-small : goal.compare-requires-clause-small
compare-requires-clause-small g c = c.qubits.ensures.sound.few_qubits

pub returns-in_err-verdict-clause-stop : goal.returns-in_err-verdict-clause-stop
returns-in_err-verdict-clause-stop g c =
    let u : Circuit = c.in_ok-u.u in
    let v : Circuit = c.in_ok-v.v in
    let same : u.qubits ≡ v.qubits = (same_numbers c.in_ok-u.u.qubits c.in_ok-v.v.qubits c.qubits.result c.qubits-2.result c.qubits.ensures.value c.qubits-2.ensures.value c.in_ok-check_qubits.ensures.same) in
    let stop : Stop = c.in_err-verdict.field-0.0 in
    let told : c.from_residual-in_err-verdict.result ≡ Err (cause_of stop) = search rules in
    let means : MayStop (Multiplies c.args.rules.now u.qubits (steps_of u.gates v.gates)) stop = c.in_err-verdict.ensures.stop in
    rw told (pair_halts Says c.args.rules.now c.args.one.now c.args.two.now u c.in_ok-u.ensures.reads v c.in_ok-v.ensures.reads same stop (g.K.Sink.written c.args.out.now) means)

pub send_verdict-requires : goal.send_verdict-requires
send_verdict-requires g c =
    let u : Circuit = c.in_ok-u.u in
    let v : Circuit = c.in_ok-v.v in
    verdict-short u.qubits (compared u.gates v.gates) (exponent (comparison u.gates v.gates)) c.in_ok-verdict.verdict c.qubits.ensures.sound.few_qubits c.in_ok-verdict.ensures.verdict

pub returns-in_err-send_verdict-clause-stop : goal.returns-in_err-send_verdict-clause-stop
returns-in_err-send_verdict-clause-stop g c =
    let u : Circuit = c.in_ok-u.u in
    let v : Circuit = c.in_ok-v.v in
    let same : u.qubits ≡ v.qubits = (same_numbers c.in_ok-u.u.qubits c.in_ok-v.v.qubits c.qubits.result c.qubits-2.result c.qubits.ensures.value c.qubits-2.ensures.value c.in_ok-check_qubits.ensures.same) in
    let came : (m : Standing) × Multiplies c.args.rules.now u.qubits (steps_of u.gates v.gates) (Ok m) = c.in_ok-verdict.ensures.comes in
    let stop : SendStop = c.in_err-send_verdict.field-0.0 in
    let told : c.from_residual-in_err-send_verdict.result ≡ Err (cause_of_sending stop) = search rules in
    rw told (pair_ends Says c.args.rules.now c.args.one.now c.args.two.now u c.in_ok-u.ensures.reads v c.in_ok-v.ensures.reads same came.0 came.1
    (cause_of_sending stop) (g.K.Sink.written c.args.out.now) (g.K.Sink.written c.send_verdict.new.out)
    (says_stops u v c.in_ok-verdict.verdict c.in_ok-verdict.ensures.verdict stop (g.K.Sink.written c.args.out.now) (g.K.Sink.written c.send_verdict.new.out) c.in_err-send_verdict.ensures.err))

pub returns-in_err-told-clause-stop : goal.returns-in_err-told-clause-stop
returns-in_err-told-clause-stop g c =
    let u : Circuit = c.in_ok-u.u in
    let v : Circuit = c.in_ok-v.v in
    let same : u.qubits ≡ v.qubits = (same_numbers c.in_ok-u.u.qubits c.in_ok-v.v.qubits c.qubits.result c.qubits-2.result c.qubits.ensures.value c.qubits-2.ensures.value c.in_ok-check_qubits.ensures.same) in
    let came : (m : Standing) × Multiplies c.args.rules.now u.qubits (steps_of u.gates v.gates) (Ok m) = c.in_ok-verdict.ensures.comes in
    let said = c.in_err-told.ensures.differs in
    let cause : Cause = c.in_err-told.field-0.0 in
    let told : c.from_residual-in_err-told.result ≡ Err cause = search rules in
    let P : Cause → Type 0 = λ k. MayEnd (Says u v) k (g.K.Sink.written c.args.out.now) (g.K.Sink.written c.send_verdict.new.out) in
    rw told (pair_ends Says c.args.rules.now c.args.one.now c.args.two.now u c.in_ok-u.ensures.reads v c.in_ok-v.ensures.reads same came.0 came.1
    cause (g.K.Sink.written c.args.out.now) (g.K.Sink.written c.send_verdict.new.out)
    (subst P (sym said.1) (says_differs u v c.in_ok-verdict.verdict c.in_ok-verdict.ensures.verdict (g.K.Sink.written c.args.out.now) (g.K.Sink.written c.send_verdict.new.out) (sym said.0 ∙ said.1) c.in_ok-send_verdict.ensures.ok)))

pub returns-clause-done : goal.returns-clause-done
returns-clause-done g c =
    let u : Circuit = c.in_ok-u.u in
    let v : Circuit = c.in_ok-v.v in
    let same : u.qubits ≡ v.qubits = (same_numbers c.in_ok-u.u.qubits c.in_ok-v.v.qubits c.qubits.result c.qubits-2.result c.qubits.ensures.value c.qubits-2.ensures.value c.in_ok-check_qubits.ensures.same) in
    let came : (m : Standing) × Multiplies c.args.rules.now u.qubits (steps_of u.gates v.gates) (Ok m) = c.in_ok-verdict.ensures.comes in
    pair_ends Says c.args.rules.now c.args.one.now c.args.two.now u c.in_ok-u.ensures.reads v c.in_ok-v.ensures.reads same came.0 came.1
    Done (g.K.Sink.written c.args.out.now) (g.K.Sink.written c.send_verdict.new.out)
    (says_done u v c.in_ok-verdict.verdict c.in_ok-verdict.ensures.verdict (g.K.Sink.written c.args.out.now) (g.K.Sink.written c.send_verdict.new.out) c.in_ok-told.ensures.done c.in_ok-send_verdict.ensures.ok)
