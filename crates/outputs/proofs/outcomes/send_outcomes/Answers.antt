use Rattle.std.proofs.Common.{◌++◌, ℕ, subst}
use Rattle.amp_dense.specs.Standing.{vector}
use Rattle.outside.specs.Bytes.{Added, AddedSome}
use Rattle.outside.proofs.BufferingLemmas.{sent_then, sent_fault, some_front, some_of, flushed, flushed_some}
use Rattle.amp_printer.specs.declared.counted.Counted.TheVariants.{Measured, Outcomes}
use Rattle.amp_printer.specs.Texts.{count_line}
use Rattle.probabilities.specs.Outcomes.{measured_count}
use Rattle.outputs.specs.Listing.{listing_of, number_listed}
use Rattle.outputs.specs.Outcomes.{outcomes_output, has_no_weight, outcome_line}
use Rattle.outputs.proofs.ListingLemmas.{on_err}
use Rattle.outputs.proofs.outcomes.send_outcomes.Goals as goal

pub returns-in_err-send_count-clause-err : goal.returns-in_err-send_count-clause-err
unfolding outcomes_output
returns-in_err-send_count-clause-err g c =
    let m = c.args.measured.now in
    let w = vector (g.A.Amplitudes.standing c.args.state.now) in
    let l = listing_of (measured_count m) (has_no_weight m w) (outcome_line m w) in
    let t = count_line Outcomes (number_listed (measured_count m) (has_no_weight m w)) in
    let P : ℕ → Type 0 = λ k. AddedSome (g.K.Sink.written c.args.out.now) (g.K.Sink.written c.send_count.new.out) (count_line Measured k ++ l ++ t) in
    on_err _ _ (subst P c.measured_count-count.ensures (some_of (g.K.Sink.written c.args.out.now) (g.K.Sink.written c.send_count.new.out) c.in_ok-waiting.waiting (count_line Measured c.measured_count-count.result ++ l ++ t) c.in_ok-waiting.ensures
    (some_front t (some_front l c.in_err-send_count.ensures.err))))

pub returns-in_err-outcomes-clause-err : goal.returns-in_err-outcomes-clause-err
unfolding outcomes_output
returns-in_err-outcomes-clause-err g c =
    let m = c.args.measured.now in
    let w = vector (g.A.Amplitudes.standing c.args.state.now) in
    let l = listing_of (measured_count m) (has_no_weight m w) (outcome_line m w) in
    let t = count_line Outcomes (number_listed (measured_count m) (has_no_weight m w)) in
    let P : ℕ → Type 0 = λ k. AddedSome (g.K.Sink.written c.args.out.now) (g.K.Sink.written c.send_weighed.new.out) (count_line Measured k ++ l ++ t) in
    on_err _ _ (subst P c.measured_count-count.ensures (some_of (g.K.Sink.written c.args.out.now) (g.K.Sink.written c.send_weighed.new.out) c.in_ok-waiting.waiting (count_line Measured c.measured_count-count.result ++ l ++ t) c.in_ok-waiting.ensures
    (some_front t (sent_fault c.in_ok-send_count.ensures.ok c.in_err-outcomes.ensures.err))))

pub returns-in_err-send_count-2-clause-err : goal.returns-in_err-send_count-2-clause-err
unfolding outcomes_output
returns-in_err-send_count-2-clause-err g c =
    let m = c.args.measured.now in
    let w = vector (g.A.Amplitudes.standing c.args.state.now) in
    let l = listing_of (measured_count m) (has_no_weight m w) (outcome_line m w) in
    let P : ℕ → Type 0 = λ k. AddedSome (g.K.Sink.written c.args.out.now) (g.K.Sink.written c.send_count-2.new.out) (count_line Measured k ++ l ++ count_line Outcomes (number_listed (measured_count m) (has_no_weight m w))) in
    let Q : ℕ → Type 0 = λ k. AddedSome (g.K.Sink.written c.args.out.now) (g.K.Sink.written c.send_count-2.new.out) (count_line Measured c.measured_count-count.result ++ l ++ count_line Outcomes k) in
    on_err _ _ (subst P c.measured_count-count.ensures (subst Q c.in_ok-outcomes.ensures.count
    (some_of (g.K.Sink.written c.args.out.now) (g.K.Sink.written c.send_count-2.new.out) c.in_ok-waiting.waiting (count_line Measured c.measured_count-count.result ++ l ++ count_line Outcomes c.in_ok-outcomes.outcomes) c.in_ok-waiting.ensures
    (sent_fault (sent_then c.in_ok-send_count.ensures.ok c.in_ok-outcomes.ensures.ok) c.in_err-send_count-2.ensures.err))))

pub returns-in_err-flush-clause-err : goal.returns-in_err-flush-clause-err
unfolding outcomes_output
returns-in_err-flush-clause-err g c =
    let m = c.args.measured.now in
    let w = vector (g.A.Amplitudes.standing c.args.state.now) in
    let l = listing_of (measured_count m) (has_no_weight m w) (outcome_line m w) in
    let P : ℕ → Type 0 = λ k. AddedSome (g.K.Sink.written c.args.out.now) (g.K.Sink.written c.flush.new.out) (count_line Measured k ++ l ++ count_line Outcomes (number_listed (measured_count m) (has_no_weight m w))) in
    let Q : ℕ → Type 0 = λ k. AddedSome (g.K.Sink.written c.args.out.now) (g.K.Sink.written c.flush.new.out) (count_line Measured c.measured_count-count.result ++ l ++ count_line Outcomes k) in
    on_err _ _ (subst P c.measured_count-count.ensures (subst Q c.in_ok-outcomes.ensures.count
    (flushed_some (g.K.Sink.written c.args.out.now) (g.K.Sink.written c.send_count-2.new.out) (g.K.Sink.written c.flush.new.out)
    c.in_ok-waiting.waiting c.send_count-2.new.waiting (count_line Measured c.measured_count-count.result ++ l ++ count_line Outcomes c.in_ok-outcomes.outcomes) c.in_ok-waiting.ensures
    (sent_then (sent_then c.in_ok-send_count.ensures.ok c.in_ok-outcomes.ensures.ok) c.in_ok-send_count-2.ensures.ok) c.in_err-flush.ensures.err)))

pub returns-clause-ok : goal.returns-clause-ok
unfolding outcomes_output
returns-clause-ok g c =
    let m = c.args.measured.now in
    let w = vector (g.A.Amplitudes.standing c.args.state.now) in
    let l = listing_of (measured_count m) (has_no_weight m w) (outcome_line m w) in
    let P : ℕ → Type 0 = λ k. Added (g.K.Sink.written c.args.out.now) (g.K.Sink.written c.flush.new.out) (count_line Measured k ++ l ++ count_line Outcomes (number_listed (measured_count m) (has_no_weight m w))) in
    let Q : ℕ → Type 0 = λ k. Added (g.K.Sink.written c.args.out.now) (g.K.Sink.written c.flush.new.out) (count_line Measured c.measured_count-count.result ++ l ++ count_line Outcomes k) in
    subst P c.measured_count-count.ensures (subst Q c.in_ok-outcomes.ensures.count
    (flushed (g.K.Sink.written c.args.out.now) (g.K.Sink.written c.send_count-2.new.out) (g.K.Sink.written c.flush.new.out)
    c.in_ok-waiting.waiting c.send_count-2.new.waiting (count_line Measured c.measured_count-count.result ++ l ++ count_line Outcomes c.in_ok-outcomes.outcomes) c.in_ok-waiting.ensures
    (sent_then (sent_then c.in_ok-send_count.ensures.ok c.in_ok-outcomes.ensures.ok) c.in_ok-send_count-2.ensures.ok) c.in_ok-flush.ensures.ok))
