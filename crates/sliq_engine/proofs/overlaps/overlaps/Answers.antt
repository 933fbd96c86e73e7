use Rattle.std.proofs.Common.{rules, ◌≡◌, ℕ, Ok, Err, subst}
use Rattle.std.proofs.lemmas.Result.{err_from_is_err_and}
use Rattle.amp_dense.specs.declared.stop.Stop.{Stop}
use Rattle.amp_dense.specs.Standing.{MayStop}
use Rattle.gate_set.specs.Circuits.{Circuit}
use Rattle.comparison.specs.Steps.{steps_of}
use Rattle.unitary_update.specs.Kept.{Multiplies, standing_of}
use Rattle.outputs.specs.declared.output.SendStop.{SendStop}
use Rattle.causes.specs.declared.cause.Cause.{Cause}
use Rattle.causes.specs.declared.cause.Cause.TheVariants.{Done}
use Rattle.causes.specs.Stops.{cause_of, cause_of_sending}
use Rattle.sliq_engine.specs.Steps.{SameQubits}
use Rattle.sliq_engine.specs.Ending.{MayStopBy}
use Rattle.sliq_engine.proofs.PairExits.{same_numbers, pair_refused, pair_refused_second, pair_unlike, pair_halts, pair_ends}
use Rattle.sliq_engine.proofs.FidelityExits.{Rest, rest_too_wide, rest_stops, rest_done}
use Rattle.sliq_engine.proofs.overlaps.overlaps.Goals as goal

pub returns-in_err-u-clause-stop : goal.returns-in_err-u-clause-stop
returns-in_err-u-clause-stop g c =
    let cause : Cause = c.in_err-u.field-0.0 in
    let told : c.from_residual.result ≡ Err cause = search rules in
    rw told (pair_refused Rest c.args.rules.now c.args.one.now c.args.two.now cause (g.K.Sink.written c.args.out.now) c.in_err-u.ensures.stop)

pub returns-in_err-v-clause-stop : goal.returns-in_err-v-clause-stop
returns-in_err-v-clause-stop g c =
    let cause : Cause = c.in_err-v.field-0.0 in
    let told : c.from_residual-in_err-v.result ≡ Err cause = search rules in
    rw told (pair_refused_second Rest c.args.rules.now c.args.one.now c.args.two.now c.in_ok-u.u c.in_ok-u.ensures.reads cause (g.K.Sink.written c.args.out.now) c.in_err-v.ensures.stop)

pub returns-in_err-check_qubits-clause-stop : goal.returns-in_err-check_qubits-clause-stop
returns-in_err-check_qubits-clause-stop g c =
    let u : Circuit = c.in_ok-u.u in
    let v : Circuit = c.in_ok-v.v in
    let cause : Cause = c.in_err-check_qubits.field-0.0 in
    let told : c.from_residual-in_err-check_qubits.result ≡ Err cause = search rules in
    let stop : MayStopBy (SameQubits u.qubits v.qubits) cause =
    subst (λ (m : ℕ). MayStopBy (SameQubits m v.qubits) cause) c.qubits.ensures.value
    (subst (λ (n : ℕ). MayStopBy (SameQubits c.qubits.result n) cause) c.qubits-2.ensures.value c.in_err-check_qubits.ensures.stop) in
    rw told (pair_unlike Rest c.args.rules.now c.args.one.now c.args.two.now u c.in_ok-u.ensures.reads v c.in_ok-v.ensures.reads cause (g.K.Sink.written c.args.out.now) stop)

pub multiplied-requires-clause-small : goal.multiplied-requires-clause-small
multiplied-requires-clause-small g c = c.qubits.ensures.sound.few_qubits

pub returns-in_err-matrix-clause-stop : goal.returns-in_err-matrix-clause-stop
returns-in_err-matrix-clause-stop g c =
    let u : Circuit = c.in_ok-u.u in
    let v : Circuit = c.in_ok-v.v in
    let same : u.qubits ≡ v.qubits = (same_numbers c.in_ok-u.u.qubits c.in_ok-v.v.qubits c.qubits.result c.qubits-2.result c.qubits.ensures.value c.qubits-2.ensures.value c.in_ok-check_qubits.ensures.same) in
    let stop : Stop = c.in_err-matrix.field-0.0 in
    let told : c.from_residual-in_err-matrix.result ≡ Err (cause_of stop) = search rules in
    let means : MayStop (Multiplies c.args.rules.now u.qubits (steps_of u.gates v.gates)) stop = c.in_err-matrix.ensures.stop in
    rw told (pair_halts Rest c.args.rules.now c.args.one.now c.args.two.now u c.in_ok-u.ensures.reads v c.in_ok-v.ensures.reads same stop (g.K.Sink.written c.args.out.now) means)

pub returns-in_err-overlap-clause-stop : goal.returns-in_err-overlap-clause-stop
returns-in_err-overlap-clause-stop g c =
    let u : Circuit = c.in_ok-u.u in
    let v : Circuit = c.in_ok-v.v in
    let same : u.qubits ≡ v.qubits = (same_numbers c.in_ok-u.u.qubits c.in_ok-v.v.qubits c.qubits.result c.qubits-2.result c.qubits.ensures.value c.qubits-2.ensures.value c.in_ok-check_qubits.ensures.same) in
    let m = c.in_ok-matrix.matrix in
    let came : Multiplies c.args.rules.now u.qubits (steps_of u.gates v.gates) (Ok (standing_of m)) = c.in_ok-matrix.ensures.comes in
    let cause : Cause = c.in_err-overlap.field-0.0 in
    let told : c.from_residual-in_err-overlap.result ≡ Err cause = search rules in
    rw told (pair_ends Rest c.args.rules.now c.args.one.now c.args.two.now u c.in_ok-u.ensures.reads v c.in_ok-v.ensures.reads same (standing_of m) came
    cause (g.K.Sink.written c.args.out.now) (g.K.Sink.written c.args.out.now)
    (rest_too_wide c.args.rules.now u v m came cause (g.K.Sink.written c.args.out.now) c.in_err-overlap.ensures.stop))

pub returns-in_err-send_fidelity-clause-stop : goal.returns-in_err-send_fidelity-clause-stop
returns-in_err-send_fidelity-clause-stop g c =
    let u : Circuit = c.in_ok-u.u in
    let v : Circuit = c.in_ok-v.v in
    let same : u.qubits ≡ v.qubits = (same_numbers c.in_ok-u.u.qubits c.in_ok-v.v.qubits c.qubits.result c.qubits-2.result c.qubits.ensures.value c.qubits-2.ensures.value c.in_ok-check_qubits.ensures.same) in
    let m = c.in_ok-matrix.matrix in
    let came : Multiplies c.args.rules.now u.qubits (steps_of u.gates v.gates) (Ok (standing_of m)) = c.in_ok-matrix.ensures.comes in
    let stop : SendStop = c.in_err-send_fidelity.field-0.0 in
    let from = err_from_is_err_and c.from_residual-in_err-send_fidelity.result c.from_residual-in_err-send_fidelity.ensures.1 in
    rw (from.1, from.2) (pair_ends Rest c.args.rules.now c.args.one.now c.args.two.now u c.in_ok-u.ensures.reads v c.in_ok-v.ensures.reads same (standing_of m) came
    (cause_of_sending stop) (g.K.Sink.written c.args.out.now) (g.K.Sink.written c.send_fidelity.new.out)
    (rest_stops c.args.rules.now u v m came c.in_ok-overlap.overlap c.in_ok-overlap.ensures.value c.in_ok-overlap.ensures.narrow stop (g.K.Sink.written c.args.out.now) (g.K.Sink.written c.send_fidelity.new.out) c.in_err-send_fidelity.ensures.err))

pub returns-clause-done : goal.returns-clause-done
returns-clause-done g c =
    let u : Circuit = c.in_ok-u.u in
    let v : Circuit = c.in_ok-v.v in
    let same : u.qubits ≡ v.qubits = (same_numbers c.in_ok-u.u.qubits c.in_ok-v.v.qubits c.qubits.result c.qubits-2.result c.qubits.ensures.value c.qubits-2.ensures.value c.in_ok-check_qubits.ensures.same) in
    let m = c.in_ok-matrix.matrix in
    let came : Multiplies c.args.rules.now u.qubits (steps_of u.gates v.gates) (Ok (standing_of m)) = c.in_ok-matrix.ensures.comes in
    pair_ends Rest c.args.rules.now c.args.one.now c.args.two.now u c.in_ok-u.ensures.reads v c.in_ok-v.ensures.reads same (standing_of m) came
    Done (g.K.Sink.written c.args.out.now) (g.K.Sink.written c.send_fidelity.new.out)
    (rest_done c.args.rules.now u v m came c.in_ok-overlap.overlap c.in_ok-overlap.ensures.value c.in_ok-overlap.ensures.narrow (g.K.Sink.written c.args.out.now) (g.K.Sink.written c.send_fidelity.new.out) c.in_ok-send_fidelity.ensures.ok)
