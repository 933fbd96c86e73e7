use Rattle.std.proofs.Common.{rules, ◌≡◌, ◌∙◌, sym, ap, subst, ◌≤◌, ◌+◌, ◌*◌, length, map, Ok}
use Rattle.std.proofs.lemmas.Bool.{le-ltb}
use Rattle.std.proofs.lemmas.List.{length-map}
use Rattle.std.proofs.lemmas.Result.{IfOk-weaker}
use Rattle.qasm_lex.specs.Angles.{given_by, value_by}
use Rattle.qasm_gates.specs.Bodies.{means_for}
use Rattle.qasm_gates.specs.Private.Counts.{seen_values}
use Rattle.qasm_gates.specs.Private.Views.{callee_gate}
use Rattle.qasm_gates.proofs.Steps.{all_length}
use Rattle.qasm_reader.specs.Acts.{place_count}
use Rattle.qasm_reader.specs.Calls.{listed}
use Rattle.qasm_reader.specs.Private.Seen.{seen_targets}
use Rattle.qasm_reader.specs.Private.Meanings.{outcome_in, outcomes_in, meaning_of}
use Rattle.qasm_reader.proofs.Calling.{items_fit, itemed_is}
use Rattle.qasm_reader.proofs.draft.Draft.call_on.Goals as goal

pub call_with-requires-clause-counted : goal.call_with-requires-clause-counted
call_with-requires-clause-counted c =
    let angles = listed c.args.angles in
    let valued : Ok (given_by c.in-Ok.bound.items) ≡ outcomes_in angles = sym (ap seen_values c.in-Ok.is) ∙ c.in_ok-refusal.ensures in
    ap length c.deref.ensures.value ∙ sym (length-map c.in-Ok.bound.items (λ b. value_by b.value)) ∙ all_length (map outcome_in angles) (given_by c.in-Ok.bound.items) (sym valued)
    ∙ length-map angles outcome_in ∙ c.requires.counted

pub returns-in-Ok : goal.returns-in-Ok
returns-in-Ok c =
    let d = c.args.self.now in
    let gate = callee_gate c.args.known.now c.args.callee in
    let ts = seen_targets c.args.targets.now in
    let angles = listed c.args.angles in
    let n = c.counts-items.result.1 in
    let valued : Ok (given_by c.in-Ok.bound.items) ≡ outcomes_in angles = sym (ap seen_values c.in-Ok.is) ∙ c.in_ok-refusal.ensures in
    let whole : c.from.result * c.from-2.result ≡ n * place_count ts = search rules in
    let fits : d.items + n * place_count ts ≤ 4000000 = search rules in
    let items = items_fit d.items n gate.items (place_count ts) c.counts-items.ensures.items_are fits in
    IfOk-weaker c.call_with.result _ _
    (λ why h. h ∙ itemed_is d _ gate.items (place_count ts) (meaning_of gate angles) _ ts (whole ∙ items) (le-ltb 4000000 _ (subst (λ k. d.items + k ≤ 4000000) items fits))
    (ap (λ bs. gate.means (given_by bs)) c.deref.ensures.value ∙ ap (means_for gate) valued))
    c.call_with.ensures
