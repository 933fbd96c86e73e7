use Rattle.std.proofs.Common.{◌++◌}
use Rattle.amp_dense.specs.Standing.{vector}
use Rattle.amp_printer.specs.declared.counted.Counted.TheVariants.{Shots}
use Rattle.amp_printer.specs.Texts.{count_line}
use Rattle.outside.proofs.BufferingLemmas.{sent_then, sent_fault, some_front, some_of, flushed, flushed_some}
use Rattle.sampler.specs.Words.{random_word}
use Rattle.outputs.specs.Shots.{shot_lines, shots_output}
use Rattle.outputs.proofs.ListingLemmas.{on_err}
use Rattle.outputs.proofs.shots.send_shots.Goals as goal

pub returns-in_err-send_drawn-clause-err : goal.returns-in_err-send_drawn-clause-err
unfolding shots_output
returns-in_err-send_drawn-clause-err g c =
    let l = shot_lines c.args.measured.now c.args.shots (random_word c.args.seed) (vector (g.A.Amplitudes.standing c.args.state.now)).entries in
    let t = count_line Shots c.args.shots in
    on_err _ _ (some_of (g.K.Sink.written c.args.out.now) (g.K.Sink.written c.send_drawn.new.out) c.in_ok-waiting.waiting (l ++ t) c.in_ok-waiting.ensures
    (some_front t c.in_err-send_drawn.ensures.err))

pub returns-in_err-send_count-clause-err : goal.returns-in_err-send_count-clause-err
unfolding shots_output
returns-in_err-send_count-clause-err g c =
    let l = shot_lines c.args.measured.now c.args.shots (random_word c.args.seed) (vector (g.A.Amplitudes.standing c.args.state.now)).entries in
    let t = count_line Shots c.args.shots in
    on_err _ _ (some_of (g.K.Sink.written c.args.out.now) (g.K.Sink.written c.send_count.new.out) c.in_ok-waiting.waiting (l ++ t) c.in_ok-waiting.ensures
    (sent_fault c.in_ok-send_drawn.ensures.ok c.in_err-send_count.ensures.err))

pub returns-in_err-flush-clause-err : goal.returns-in_err-flush-clause-err
unfolding shots_output
returns-in_err-flush-clause-err g c =
    let l = shot_lines c.args.measured.now c.args.shots (random_word c.args.seed) (vector (g.A.Amplitudes.standing c.args.state.now)).entries in
    let t = count_line Shots c.args.shots in
    on_err _ _ (flushed_some (g.K.Sink.written c.args.out.now) (g.K.Sink.written c.send_count.new.out) (g.K.Sink.written c.flush.new.out)
    c.in_ok-waiting.waiting c.send_count.new.waiting (l ++ t) c.in_ok-waiting.ensures
    (sent_then c.in_ok-send_drawn.ensures.ok c.in_ok-send_count.ensures.ok) c.in_err-flush.ensures.err)

pub returns-clause-ok : goal.returns-clause-ok
unfolding shots_output
returns-clause-ok g c =
    let l = shot_lines c.args.measured.now c.args.shots (random_word c.args.seed) (vector (g.A.Amplitudes.standing c.args.state.now)).entries in
    let t = count_line Shots c.args.shots in
    flushed (g.K.Sink.written c.args.out.now) (g.K.Sink.written c.send_count.new.out) (g.K.Sink.written c.flush.new.out)
    c.in_ok-waiting.waiting c.send_count.new.waiting (l ++ t) c.in_ok-waiting.ensures
    (sent_then c.in_ok-send_drawn.ensures.ok c.in_ok-send_count.ensures.ok) c.in_ok-flush.ensures.ok
