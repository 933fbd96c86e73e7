use Rattle.std.proofs.Common.{rules, ◌≡◌, ◌≤◌, ◌<◌, ◌+◌, ◌^◌, ℕ, List, Bool, Option, Some, None, IfSome, IfNone, length, ap, sym, ◌∙◌, subst, arith}
use Rattle.std.proofs.Math.Path.{ap₂}
use Rattle.std.proofs.Math.Pow.{pow_mono}
use Rattle.outside.specs.Buffering.{Sent, SentSome}
use Rattle.outside.proofs.BufferingLemmas.{sent_nothing, sent_some, sent_then, sent_fault, some_front}
use Rattle.ring_omega.specs.declared.quad.Quad.{Quad}
use Rattle.ring_omega.specs.Lowest.{lowest_form}
use Rattle.amp_dense.specs.Nonzero.{IsNextNonzero, NoneAfter}
use Rattle.amp_dense.specs.Standing.{vector}
use Rattle.amp_printer.specs.Texts.{state_line}
use Rattle.outputs.specs.Listing.{has_no_entry, entry_line}
use Rattle.outputs.proofs.ListingLemmas.{on_err}
use Rattle.outputs.proofs.FoundLemmas.{found_walked, some_for}
use Rattle.outputs.proofs.WalkLemmas.{state_of, place_next, counted, counted_none, counted_all, IsFound, found_count, found_shown, next_within, walked_count, walked_further, lines_none, lines_all, found_lines, walked_lines, walked_front}
use Rattle.outputs.proofs.output.send_nonzero.Goals as goal

pub states-init : goal.states-init
states-init g c =
    let n = c.args.qubits in
    let w = vector (g.A.Amplitudes.standing c.args.state.now) in
    let next = c.in_ok-next.next in
    let begun : g.A.Amplitudes.last c.in_ok-walk.walk ≡ None = c.in_ok-walk.ensures.begins in
    let found_next = subst (λ (o : Option (List Bool)). IfSome next (λ e. IsNextNonzero (length (g.A.Amplitudes.standing c.args.state.now).input) w.entries o e.0)) begun c.in_ok-next.ensures.found in
    let none_next = subst (λ (o : Option (List Bool)). IfNone next (NoneAfter (length (g.A.Amplitudes.standing c.args.state.now).input) w.entries o)) begun c.in_ok-next.ensures.none in
    let found : IsFound n (has_no_entry w) None (state_of next) = found_walked _ n w None next c.requires.size (λ x e. cc) found_next none_next in
    let P : List ℕ → Type 0 = λ b. Sent (g.K.Sink.written c.args.out.now) c.args.waiting.now (g.K.Sink.written c.args.out.now) c.args.waiting.now b in
    record {
      sent = subst P (lines_none n (has_no_entry w) (entry_line w) ∙ found_lines n (has_no_entry w) (entry_line w) None (state_of next) found) (sent_nothing (g.K.Sink.written c.args.out.now) c.args.waiting.now);
      count = sym (counted_none n (has_no_entry w)) ∙ found_count n (has_no_entry w) None (state_of next) found;
      few = omega arith;
      shown = found_shown n (has_no_entry w) None (state_of next) found;
      entry = some_for next _ c.in_ok-next.ensures.entry;
      at = some_for next _ c.in_ok-next.ensures.at;
      walks = c.in_ok-next.ensures.walks;
      counts = search rules;
    }

pub returns-in_err-send_state-clause-err : goal.returns-in_err-send_state-clause-err
returns-in_err-send_state-clause-err g c =
    let n = c.args.qubits in
    let w = vector (g.A.Amplitudes.standing c.args.state.now) in
    let x = c.in-Some.found.0 in
    let text : List ℕ = state_line x (lowest_form c.in-Some.found.1 c.exponent-k.result).0 (lowest_form c.in-Some.found.1 c.exponent-k.result).1 in
    let same : text ≡ entry_line w x = ap₂ (λ (q : Quad) (k : ℕ). state_line x (lowest_form q k).0 (lowest_form q k).1) (c.states.invariant.entry c.in-Some.found c.in-Some.is) c.exponent-k.ensures in
    let front = walked_front n (has_no_entry w) (entry_line w) x (state_of c.states.next) text (ap state_of c.in-Some.is) c.states.invariant.shown same in
    let P : List ℕ → Type 0 = λ b. SentSome (g.K.Sink.written c.args.out.now) c.args.waiting.now (g.K.Sink.written c.send_state.new.out) b in
    on_err _ _ (subst P front.1 (some_front front.0 (sent_fault c.states.invariant.sent c.in_err-send_state.ensures.err)))

pub overflow_add-states : goal.overflow_add-states
overflow_add-states g c =
    let n = c.args.qubits in
    let within = next_within n _ (state_of c.states.next) c.states.invariant.shown in
    let most : 2 ^ n ≤ 2 ^ 64 = pow_mono {j = 64} c.requires.few in
    let less : c.states.states + 1 < 2 ^ 128 = omega (arith, c.states.invariant.few) in
    search rules

pub returns-in_err-next-2-clause-err : goal.returns-in_err-next-2-clause-err
returns-in_err-next-2-clause-err g c =
    let n = c.args.qubits in
    let w = vector (g.A.Amplitudes.standing c.args.state.now) in
    let x = c.in-Some.found.0 in
    let text : List ℕ = state_line x (lowest_form c.in-Some.found.1 c.exponent-k.result).0 (lowest_form c.in-Some.found.1 c.exponent-k.result).1 in
    let same : text ≡ entry_line w x = ap₂ (λ (q : Quad) (k : ℕ). state_line x (lowest_form q k).0 (lowest_form q k).1) (c.states.invariant.entry c.in-Some.found c.in-Some.is) c.exponent-k.ensures in
    let front = walked_front n (has_no_entry w) (entry_line w) x (state_of c.states.next) text (ap state_of c.in-Some.is) c.states.invariant.shown same in
    let P : List ℕ → Type 0 = λ b. SentSome (g.K.Sink.written c.args.out.now) c.args.waiting.now (g.K.Sink.written c.send_state.new.out) b in
    on_err _ _ (subst P front.1 (some_front front.0 (sent_some (sent_then c.states.invariant.sent c.in_ok-send_state.ensures.ok))))

pub states-smaller : goal.states-smaller
states-smaller g c =
    let n = c.args.qubits in
    let x = c.in-Some.found.0 in
    let w = vector (g.A.Amplitudes.standing c.args.state.now) in
    let then = c.in_ok-next-2.next in
    let long = (c.states.invariant.shown x (ap state_of c.in-Some.is)).long in
    let given : g.A.Amplitudes.last c.states.walk ≡ Some x = c.states.invariant.at c.in-Some.found c.in-Some.is in
    let found_next = subst (λ (o : Option (List Bool)). IfSome then (λ e. IsNextNonzero (length (g.A.Amplitudes.standing c.args.state.now).input) w.entries o e.0)) given c.in_ok-next-2.ensures.found in
    let none_next = subst (λ (o : Option (List Bool)). IfNone then (NoneAfter (length (g.A.Amplitudes.standing c.args.state.now).input) w.entries o)) given c.in_ok-next-2.ensures.none in
    let found : IsFound n (has_no_entry w) (Some x) (state_of then) = found_walked _ n w (Some x) then c.requires.size (λ y e. (let same : x ≡ y = cc in ap length (sym same) ∙ long)) found_next none_next in
    omega (arith, walked_further n (has_no_entry w) x (state_of c.states.next) (state_of then) (ap state_of c.in-Some.is) found, next_within n (has_no_entry w) (state_of then) (found_shown n (has_no_entry w) (Some x) (state_of then) found))

pub states-preserved : goal.states-preserved
states-preserved g c =
    let n = c.args.qubits in
    let x = c.in-Some.found.0 in
    let w = vector (g.A.Amplitudes.standing c.args.state.now) in
    let so_far = c.states.invariant in
    let then = c.in_ok-next-2.next in
    let long = (so_far.shown x (ap state_of c.in-Some.is)).long in
    let given : g.A.Amplitudes.last c.states.walk ≡ Some x = c.states.invariant.at c.in-Some.found c.in-Some.is in
    let found_next = subst (λ (o : Option (List Bool)). IfSome then (λ e. IsNextNonzero (length (g.A.Amplitudes.standing c.args.state.now).input) w.entries o e.0)) given c.in_ok-next-2.ensures.found in
    let none_next = subst (λ (o : Option (List Bool)). IfNone then (NoneAfter (length (g.A.Amplitudes.standing c.args.state.now).input) w.entries o)) given c.in_ok-next-2.ensures.none in
    let found : IsFound n (has_no_entry w) (Some x) (state_of then) = found_walked _ n w (Some x) then c.requires.size (λ y e. (let same : x ≡ y = cc in ap length (sym same) ∙ long)) found_next none_next in
    let text : List ℕ = state_line x (lowest_form c.in-Some.found.1 c.exponent-k.result).0 (lowest_form c.in-Some.found.1 c.exponent-k.result).1 in
    let same : text ≡ entry_line w x = ap₂ (λ (q : Quad) (k : ℕ). state_line x (lowest_form q k).0 (lowest_form q k).1) (c.states.invariant.entry c.in-Some.found c.in-Some.is) c.exponent-k.ensures in
    let P : List ℕ → Type 0 = λ b. Sent (g.K.Sink.written c.args.out.now) c.args.waiting.now (g.K.Sink.written c.send_state.new.out) c.send_state.new.waiting b in
    record {
      sent = subst P (walked_lines n (has_no_entry w) (entry_line w) x (state_of c.states.next) (state_of then) text (ap state_of c.in-Some.is) so_far.shown same found) (sent_then so_far.sent c.in_ok-send_state.ensures.ok);
      count = ap (λ m. m + 1) so_far.count ∙ walked_count n (has_no_entry w) x (state_of c.states.next) (state_of then) (ap state_of c.in-Some.is) so_far.shown found;
      few = omega (arith, so_far.few, walked_further n (has_no_entry w) x (state_of c.states.next) (state_of then) (ap state_of c.in-Some.is) found);
      shown = found_shown n (has_no_entry w) (Some x) (state_of then) found;
      entry = some_for then _ c.in_ok-next-2.ensures.entry;
      at = some_for then _ c.in_ok-next-2.ensures.at;
      walks = c.in_ok-next-2.ensures.walks;
      counts = search rules;
    }

pub returns-clause-ok : goal.returns-clause-ok
returns-clause-ok g c =
    let n = c.args.qubits in
    let w = vector (g.A.Amplitudes.standing c.args.state.now) in
    let P : List ℕ → Type 0 = λ b. Sent (g.K.Sink.written c.args.out.now) c.args.waiting.now (g.K.Sink.written c.states.out) c.states.waiting b in
    subst P (lines_all n (has_no_entry w) (entry_line w) (place_next n (state_of c.states.next)) (ap (λ o. place_next n (state_of o)) c.in_default.is)) c.states.invariant.sent

pub returns-clause-count : goal.returns-clause-count
returns-clause-count g c =
    let n = c.args.qubits in
    let w = vector (g.A.Amplitudes.standing c.args.state.now) in
    c.states.invariant.count ∙ ap (λ o. counted n (has_no_entry w) (place_next n (state_of o))) c.in_default.is ∙ counted_all n (has_no_entry w)
