use Rattle.std.proofs.Common.{◌++◌, ℕ, subst}
use Rattle.amp_dense.specs.Standing.{vector}
use Rattle.outside.specs.Bytes.{Added, AddedSome}
use Rattle.outside.proofs.BufferingLemmas.{sent_then, sent_fault, some_front, some_of, flushed, flushed_some}
use Rattle.amp_printer.specs.declared.counted.Counted.TheVariants.{Qubits, States}
use Rattle.amp_printer.specs.Texts.{count_line}
use Rattle.outputs.specs.Listing.{vector_output, listing_of, number_listed, has_no_entry, entry_line}
use Rattle.outputs.proofs.ListingLemmas.{on_err}
use Rattle.outputs.proofs.output.send_amplitudes.Goals as goal

pub returns-in_err-send_count-clause-err : goal.returns-in_err-send_count-clause-err
unfolding vector_output
returns-in_err-send_count-clause-err g c =
    let w = vector (g.A.Amplitudes.standing c.args.state.now) in
    let q = count_line Qubits c.args.qubits in
    let l = listing_of c.args.qubits (has_no_entry w) (entry_line w) in
    let t = count_line States (number_listed c.args.qubits (has_no_entry w)) in
    on_err _ _ (some_of (g.K.Sink.written c.args.out.now) (g.K.Sink.written c.send_count.new.out) c.in_ok-waiting.waiting (q ++ l ++ t) c.in_ok-waiting.ensures (some_front t (some_front l c.in_err-send_count.ensures.err)))

pub returns-in_err-states-clause-err : goal.returns-in_err-states-clause-err
unfolding vector_output
returns-in_err-states-clause-err g c =
    let w = vector (g.A.Amplitudes.standing c.args.state.now) in
    let q = count_line Qubits c.args.qubits in
    let l = listing_of c.args.qubits (has_no_entry w) (entry_line w) in
    let t = count_line States (number_listed c.args.qubits (has_no_entry w)) in
    on_err _ _ (some_of (g.K.Sink.written c.args.out.now) (g.K.Sink.written c.send_nonzero.new.out) c.in_ok-waiting.waiting (q ++ l ++ t) c.in_ok-waiting.ensures (some_front t (sent_fault c.in_ok-send_count.ensures.ok c.in_err-states.ensures.err)))

pub returns-in_err-send_count-2-clause-err : goal.returns-in_err-send_count-2-clause-err
unfolding vector_output
returns-in_err-send_count-2-clause-err g c =
    let w = vector (g.A.Amplitudes.standing c.args.state.now) in
    let q = count_line Qubits c.args.qubits in
    let l = listing_of c.args.qubits (has_no_entry w) (entry_line w) in
    let P : ℕ → Type 0 = λ m. AddedSome (g.K.Sink.written c.args.out.now) (g.K.Sink.written c.send_count-2.new.out) (q ++ l ++ count_line States m) in
    on_err _ _ (subst P c.in_ok-states.ensures.count (some_of (g.K.Sink.written c.args.out.now) (g.K.Sink.written c.send_count-2.new.out) c.in_ok-waiting.waiting (q ++ l ++ count_line States c.in_ok-states.states) c.in_ok-waiting.ensures
    (sent_fault (sent_then c.in_ok-send_count.ensures.ok c.in_ok-states.ensures.ok) c.in_err-send_count-2.ensures.err)))

pub returns-in_err-flush-clause-err : goal.returns-in_err-flush-clause-err
unfolding vector_output
returns-in_err-flush-clause-err g c =
    let w = vector (g.A.Amplitudes.standing c.args.state.now) in
    let q = count_line Qubits c.args.qubits in
    let l = listing_of c.args.qubits (has_no_entry w) (entry_line w) in
    let P : ℕ → Type 0 = λ m. AddedSome (g.K.Sink.written c.args.out.now) (g.K.Sink.written c.flush.new.out) (q ++ l ++ count_line States m) in
    on_err _ _ (subst P c.in_ok-states.ensures.count (flushed_some (g.K.Sink.written c.args.out.now) (g.K.Sink.written c.send_count-2.new.out) (g.K.Sink.written c.flush.new.out)
    c.in_ok-waiting.waiting c.send_count-2.new.waiting (q ++ l ++ count_line States c.in_ok-states.states) c.in_ok-waiting.ensures
    (sent_then (sent_then c.in_ok-send_count.ensures.ok c.in_ok-states.ensures.ok) c.in_ok-send_count-2.ensures.ok) c.in_err-flush.ensures.err))

pub returns-clause-ok : goal.returns-clause-ok
unfolding vector_output
returns-clause-ok g c =
    let w = vector (g.A.Amplitudes.standing c.args.state.now) in
    let q = count_line Qubits c.args.qubits in
    let l = listing_of c.args.qubits (has_no_entry w) (entry_line w) in
    let P : ℕ → Type 0 = λ m. Added (g.K.Sink.written c.args.out.now) (g.K.Sink.written c.flush.new.out) (q ++ l ++ count_line States m) in
    subst P c.in_ok-states.ensures.count (flushed (g.K.Sink.written c.args.out.now) (g.K.Sink.written c.send_count-2.new.out) (g.K.Sink.written c.flush.new.out)
    c.in_ok-waiting.waiting c.send_count-2.new.waiting (q ++ l ++ count_line States c.in_ok-states.states) c.in_ok-waiting.ensures
    (sent_then (sent_then c.in_ok-send_count.ensures.ok c.in_ok-states.ensures.ok) c.in_ok-send_count-2.ensures.ok) c.in_ok-flush.ensures.ok)
