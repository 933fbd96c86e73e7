use Rattle.std.proofs.Common.{rules, ◌≡◌, ◌<◌, ◌+◌, ◌++◌, ℕ, List, ap, sym, ◌∙◌, subst, arith}
use Rattle.std.proofs.lemmas.List.Sums.{count_by-le-length}
use Rattle.amp_dense.specs.Standing.{vector}
use Rattle.amp_printer.specs.Texts.{outcome_text}
use Rattle.outside.specs.Buffering.{Sent, SentSome}
use Rattle.outside.proofs.BufferingLemmas.{sent_nothing, sent_some, sent_then, sent_fault}
use Rattle.probabilities.specs.Outcomes.{measured_count}
use Rattle.sampler.specs.Words.{random_word}
use Rattle.outputs.specs.Shots.{shot_line, shot_lines}
use Rattle.outputs.proofs.ListingLemmas.{on_err}
use Rattle.outputs.proofs.ShotLemmas.{few_words, length-drawn, line_drawn, shots_more, some_shots, words_begin, words_behind}
use Rattle.outputs.proofs.shots.send_drawn.Goals as goal

pub shots-init : goal.shots-init
shots-init g c = record { sent = sent_nothing (g.K.Sink.written c.args.out.now) c.args.waiting.now; words = words_begin c.args.measured.now c.args.seed c.of_seed-words.result c.of_seed-words.ensures; counts = search rules }

pub next_shot-requires-clause-number : goal.next_shot-requires-clause-number
next_shot-requires-clause-number g c =
    let ms = c.args.measured.now in
    let few = few_words c.shots._shot c.args.shots (measured_count ms) c.shots-test.true c.requires.shots (omega (arith, count_by-le-length (λ b. b) ms, c.requires.few)) in
    search rules

pub send_shot-requires : goal.send_shot-requires
send_shot-requires g c =
    let ms = c.args.measured.now in
    let v = (vector (g.A.Amplitudes.standing c.args.state.now)).entries in
    omega (arith, length-drawn v _ ms c.in_ok-y.y c.in_ok-y.ensures.drawn, count_by-le-length (λ b. b) ms, c.requires.few)

pub returns-in_err-y-clause-err : goal.returns-in_err-y-clause-err
returns-in_err-y-clause-err g c =
    let v = (vector (g.A.Amplitudes.standing c.args.state.now)).entries in
    let less : c.shots._shot < c.args.shots = c.shots-test.true in
    on_err _ _ (some_shots c.args.measured.now (random_word c.args.seed) v c.shots._shot c.args.shots (omega (arith, less)) (sent_some c.shots.invariant.sent))

pub returns-in_err-send_shot-clause-err : goal.returns-in_err-send_shot-clause-err
returns-in_err-send_shot-clause-err g c =
    let ms = c.args.measured.now in
    let v = (vector (g.A.Amplitudes.standing c.args.state.now)).entries in
    let s = c.shots._shot in
    let words = random_word c.args.seed in
    let less : s < c.args.shots = c.shots-test.true in
    let text : outcome_text c.in_ok-y.y ≡ shot_line ms words v s = line_drawn ms v s c.args.seed c.in_ok-y.y c.shots.words c.shots.invariant.words c.in_ok-y.ensures.drawn in
    let P : List ℕ → Type 0 = λ b. SentSome (g.K.Sink.written c.args.out.now) c.args.waiting.now (g.K.Sink.written c.send_shot.new.out) b in
    on_err _ _ (some_shots ms words v (s + 1) c.args.shots (omega (arith, less))
    (subst P (ap (λ t. shot_lines ms s words v ++ t) text ∙ sym (shots_more ms words v s)) (sent_fault c.shots.invariant.sent c.in_err-send_shot.ensures.err)))

pub shots-preserved : goal.shots-preserved
shots-preserved g c =
    let ms = c.args.measured.now in
    let v = (vector (g.A.Amplitudes.standing c.args.state.now)).entries in
    let s = c.shots._shot in
    let words = random_word c.args.seed in
    let text : outcome_text c.in_ok-y.y ≡ shot_line ms words v s = line_drawn ms v s c.args.seed c.in_ok-y.y c.shots.words c.shots.invariant.words c.in_ok-y.ensures.drawn in
    let P : List ℕ → Type 0 = λ b. Sent (g.K.Sink.written c.args.out.now) c.args.waiting.now (g.K.Sink.written c.send_shot.new.out) c.send_shot.new.waiting b in
    record {
      sent = subst P (ap (λ t. shot_lines ms s words v ++ t) text ∙ sym (shots_more ms words v s)) (sent_then c.shots.invariant.sent c.in_ok-send_shot.ensures.ok);
      words = words_behind ms s c.args.seed c.shots.words c.next_shot.new.words c.shots.invariant.words c.next_shot.ensures.further;
      counts = search rules;
    }

pub returns-clause-ok : goal.returns-clause-ok
returns-clause-ok g c =
    let v = (vector (g.A.Amplitudes.standing c.args.state.now)).entries in
    let all : c.shots._shot ≡ c.args.shots = search rules in
    let P : ℕ → Type 0 = λ n. Sent (g.K.Sink.written c.args.out.now) c.args.waiting.now (g.K.Sink.written c.shots.out) c.shots.waiting (shot_lines c.args.measured.now n (random_word c.args.seed) v) in
    subst P all c.shots.invariant.sent
