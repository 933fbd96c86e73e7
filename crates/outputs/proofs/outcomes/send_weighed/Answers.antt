use Rattle.std.proofs.Common.{rules, ◌≡◌, ◌≤◌, ◌<◌, ◌+◌, ◌^◌, ℕ, List, Bool, Option, Some, None, IfSome, IfNone, length, ap, sym, ◌∙◌, subst, arith}
use Rattle.std.proofs.Math.Path.{ap₂}
use Rattle.std.proofs.Math.Pow.{pow_mono}
use Rattle.std.proofs.lemmas.List.Sums.{count_by-le-length}
use Rattle.outside.specs.Buffering.{Sent, SentSome}
use Rattle.outside.proofs.BufferingLemmas.{sent_nothing, sent_some, sent_then, sent_fault, some_front}
use Rattle.ring_omega.specs.declared.weight.Weight.{Weight}
use Rattle.amp_dense.specs.Standing.{vector}
use Rattle.probabilities.specs.Outcomes.{measured_count}
use Rattle.probabilities.specs.Possible.{IsNextOutcome, NoOutcomeAfter}
use Rattle.outputs.specs.Listing.{listing_of}
use Rattle.outputs.specs.Outcomes.{has_no_weight, lowest_weight_line, outcome_line}
use Rattle.outputs.proofs.ListingLemmas.{on_err}
use Rattle.outputs.proofs.FoundLemmas.{found_weighed, some_for}
use Rattle.outputs.proofs.WalkLemmas.{state_of, place_next, counted, counted_none, counted_all, IsFound, found_count, found_shown, next_within, walked_count, walked_further, lines_none, lines_all, found_lines, walked_lines, walked_front}
use Rattle.outputs.proofs.outcomes.send_weighed.Goals as goal

pub outcomes-init : goal.outcomes-init
outcomes-init g c =
    let m = c.args.measured.now in
    let n = measured_count m in
    let w = vector (g.A.Amplitudes.standing c.args.state.now) in
    let next = c.in_ok-next.next in
    let begun : g.A.Weigh.last_outcome c.in_ok-walk.walk ≡ None = c.in_ok-walk.ensures.begins in
    let found_next = subst (λ (o : Option (List Bool)). IfSome next (λ e. IsNextOutcome m w.entries o e.0)) begun c.in_ok-next.ensures.found in
    let none_next = subst (λ (o : Option (List Bool)). IfNone next (NoOutcomeAfter m w.entries o)) begun c.in_ok-next.ensures.none in
    let found : IsFound n (has_no_weight m w) None (state_of next) = found_weighed m w None next (λ x e. cc) found_next none_next in
    let P : List ℕ → Type 0 = λ b. Sent (g.K.Sink.written c.args.out.now) c.args.waiting.now (g.K.Sink.written c.args.out.now) c.args.waiting.now b in
    record {
      sent = subst P (lines_none n (has_no_weight m w) (outcome_line m w) ∙ found_lines n (has_no_weight m w) (outcome_line m w) None (state_of next) found) (sent_nothing (g.K.Sink.written c.args.out.now) c.args.waiting.now);
      count = sym (counted_none n (has_no_weight m w)) ∙ found_count n (has_no_weight m w) None (state_of next) found;
      few = omega arith;
      shown = found_shown n (has_no_weight m w) None (state_of next) found;
      weight = some_for next _ c.in_ok-next.ensures.weight;
      at = some_for next _ c.in_ok-next.ensures.at;
      weighs = c.in_ok-next.ensures.weighs;
      counts = search rules;
    }

pub send_outcome-requires : goal.send_outcome-requires
send_outcome-requires g c =
    omega (arith, (c.outcomes.invariant.shown c.in-Some.found.0 (ap state_of c.in-Some.is)).long, count_by-le-length (λ b. b) c.args.measured.now, c.requires.few)

pub returns-in_err-send_outcome-clause-err : goal.returns-in_err-send_outcome-clause-err
returns-in_err-send_outcome-clause-err g c =
    let m = c.args.measured.now in
    let n = measured_count m in
    let y = c.in-Some.found.0 in
    let w = vector (g.A.Amplitudes.standing c.args.state.now) in
    let text : List ℕ = lowest_weight_line c.in-Some.found.1 c.exponent-k.result y in
    let same : text ≡ outcome_line m w y = ap₂ (λ (u : Weight) (k : ℕ). lowest_weight_line u k y) (c.outcomes.invariant.weight c.in-Some.found c.in-Some.is) c.exponent-k.ensures in
    let front = walked_front n (has_no_weight m w) (outcome_line m w) y (state_of c.outcomes.next) text (ap state_of c.in-Some.is) c.outcomes.invariant.shown same in
    let P : List ℕ → Type 0 = λ b. SentSome (g.K.Sink.written c.args.out.now) c.args.waiting.now (g.K.Sink.written c.send_outcome.new.out) b in
    on_err _ _ (subst P front.1 (some_front front.0 (sent_fault c.outcomes.invariant.sent c.in_err-send_outcome.ensures.err)))

pub overflow_add-outcomes : goal.overflow_add-outcomes
overflow_add-outcomes g c =
    let m = c.args.measured.now in
    let n = measured_count m in
    let within = next_within n _ (state_of c.outcomes.next) c.outcomes.invariant.shown in
    let most : 2 ^ n ≤ 2 ^ 64 = pow_mono {j = 64} (omega (arith, count_by-le-length (λ b. b) m, c.requires.few)) in
    let less : c.outcomes.outcomes + 1 < 2 ^ 128 = omega (arith, c.outcomes.invariant.few) in
    search rules

pub returns-in_err-next-2-clause-err : goal.returns-in_err-next-2-clause-err
returns-in_err-next-2-clause-err g c =
    let m = c.args.measured.now in
    let n = measured_count m in
    let y = c.in-Some.found.0 in
    let w = vector (g.A.Amplitudes.standing c.args.state.now) in
    let text : List ℕ = lowest_weight_line c.in-Some.found.1 c.exponent-k.result y in
    let same : text ≡ outcome_line m w y = ap₂ (λ (u : Weight) (k : ℕ). lowest_weight_line u k y) (c.outcomes.invariant.weight c.in-Some.found c.in-Some.is) c.exponent-k.ensures in
    let front = walked_front n (has_no_weight m w) (outcome_line m w) y (state_of c.outcomes.next) text (ap state_of c.in-Some.is) c.outcomes.invariant.shown same in
    let P : List ℕ → Type 0 = λ b. SentSome (g.K.Sink.written c.args.out.now) c.args.waiting.now (g.K.Sink.written c.send_outcome.new.out) b in
    on_err _ _ (subst P front.1 (some_front front.0 (sent_some (sent_then c.outcomes.invariant.sent c.in_ok-send_outcome.ensures.ok))))

pub outcomes-smaller : goal.outcomes-smaller
outcomes-smaller g c =
    let m = c.args.measured.now in
    let n = measured_count m in
    let y = c.in-Some.found.0 in
    let w = vector (g.A.Amplitudes.standing c.args.state.now) in
    let then = c.in_ok-next-2.next in
    let long = (c.outcomes.invariant.shown y (ap state_of c.in-Some.is)).long in
    let given : g.A.Weigh.last_outcome c.outcomes.walk ≡ Some y = c.outcomes.invariant.at c.in-Some.found c.in-Some.is in
    let found_next = subst (λ (o : Option (List Bool)). IfSome then (λ e. IsNextOutcome m w.entries o e.0)) given c.in_ok-next-2.ensures.found in
    let none_next = subst (λ (o : Option (List Bool)). IfNone then (NoOutcomeAfter m w.entries o)) given c.in_ok-next-2.ensures.none in
    let found : IsFound n (has_no_weight m w) (Some y) (state_of then) = found_weighed m w (Some y) then (λ z e. (let same : y ≡ z = cc in ap length (sym same) ∙ long)) found_next none_next in
    omega (arith, walked_further n (has_no_weight m w) y (state_of c.outcomes.next) (state_of then) (ap state_of c.in-Some.is) found, next_within n (has_no_weight m w) (state_of then) (found_shown n (has_no_weight m w) (Some y) (state_of then) found))

pub outcomes-preserved : goal.outcomes-preserved
outcomes-preserved g c =
    let m = c.args.measured.now in
    let n = measured_count m in
    let y = c.in-Some.found.0 in
    let w = vector (g.A.Amplitudes.standing c.args.state.now) in
    let so_far = c.outcomes.invariant in
    let then = c.in_ok-next-2.next in
    let long = (so_far.shown y (ap state_of c.in-Some.is)).long in
    let given : g.A.Weigh.last_outcome c.outcomes.walk ≡ Some y = so_far.at c.in-Some.found c.in-Some.is in
    let found_next = subst (λ (o : Option (List Bool)). IfSome then (λ e. IsNextOutcome m w.entries o e.0)) given c.in_ok-next-2.ensures.found in
    let none_next = subst (λ (o : Option (List Bool)). IfNone then (NoOutcomeAfter m w.entries o)) given c.in_ok-next-2.ensures.none in
    let found : IsFound n (has_no_weight m w) (Some y) (state_of then) = found_weighed m w (Some y) then (λ z e. (let same : y ≡ z = cc in ap length (sym same) ∙ long)) found_next none_next in
    let text : List ℕ = lowest_weight_line c.in-Some.found.1 c.exponent-k.result y in
    let same : text ≡ outcome_line m w y = ap₂ (λ (u : Weight) (k : ℕ). lowest_weight_line u k y) (so_far.weight c.in-Some.found c.in-Some.is) c.exponent-k.ensures in
    let P : List ℕ → Type 0 = λ b. Sent (g.K.Sink.written c.args.out.now) c.args.waiting.now (g.K.Sink.written c.send_outcome.new.out) c.send_outcome.new.waiting b in
    record {
      sent = subst P (walked_lines n (has_no_weight m w) (outcome_line m w) y (state_of c.outcomes.next) (state_of then) text (ap state_of c.in-Some.is) so_far.shown same found)
          (sent_then so_far.sent c.in_ok-send_outcome.ensures.ok);
      count = ap (λ k. k + 1) so_far.count ∙ walked_count n (has_no_weight m w) y (state_of c.outcomes.next) (state_of then) (ap state_of c.in-Some.is) so_far.shown found;
      few = omega (arith, so_far.few, walked_further n (has_no_weight m w) y (state_of c.outcomes.next) (state_of then) (ap state_of c.in-Some.is) found);
      shown = found_shown n (has_no_weight m w) (Some y) (state_of then) found;
      weight = some_for then _ c.in_ok-next-2.ensures.weight;
      at = some_for then _ c.in_ok-next-2.ensures.at;
      weighs = c.in_ok-next-2.ensures.weighs;
      counts = search rules;
    }

pub returns-clause-ok : goal.returns-clause-ok
returns-clause-ok g c =
    let m = c.args.measured.now in
    let n = measured_count m in
    let w = vector (g.A.Amplitudes.standing c.args.state.now) in
    let P : List ℕ → Type 0 = λ b. Sent (g.K.Sink.written c.args.out.now) c.args.waiting.now (g.K.Sink.written c.outcomes.out) c.outcomes.waiting b in
    subst P (lines_all n (has_no_weight m w) (outcome_line m w) (place_next n (state_of c.outcomes.next)) (ap (λ o. place_next n (state_of o)) c.in_default.is)) c.outcomes.invariant.sent

pub returns-clause-count : goal.returns-clause-count
returns-clause-count g c =
    let m = c.args.measured.now in
    let n = measured_count m in
    let w = vector (g.A.Amplitudes.standing c.args.state.now) in
    c.outcomes.invariant.count ∙ ap (λ o. counted n (has_no_weight m w) (place_next n (state_of o))) c.in_default.is ∙ counted_all n (has_no_weight m w)

pub returns-in_err-next-clause-err : goal.returns-in_err-next-clause-err
returns-in_err-next-clause-err g c =
    let m = c.args.measured.now in
    let w = vector (g.A.Amplitudes.standing c.args.state.now) in
    on_err _ _ (some_front (listing_of (measured_count m) (has_no_weight m w) (outcome_line m w)) (sent_some (sent_nothing (g.K.Sink.written c.args.out.now) c.args.waiting.now)))
