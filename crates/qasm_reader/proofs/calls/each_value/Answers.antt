use Rattle.std.proofs.Common.{rules, ◌≡◌, ◌∙◌, sym, ap, [], ◌∷◌, ◌++◌, Ok, Err}
use Rattle.qasm_lex.specs.Angles.{given_by, value_by, outcome_by}
use Rattle.qasm_gates.specs.Gates.{led}
use Rattle.qasm_gates.specs.Private.Counts.{after}
use Rattle.qasm_gates.proofs.Steps.{after_step, given_more}
use Rattle.qasm_reader.specs.Private.Meanings.{outcome_in, outcomes_in}
use Rattle.qasm_reader.proofs.Meanings.{outcome_one}
use Rattle.qasm_reader.proofs.calls.each_value.Goals as goal

pub loop-angle-preserved : goal.loop-angle-preserved
loop-angle-preserved c =
    let out = c.loop-angle.out.items in
    let rest = c.next.new.self in
    let r : c.loop-angle.rest ≡ c.in-Some.angle ∷ rest = search rules in
    let v : Ok (value_by c.in-Ok.value) ≡ outcome_in c.in-Some.angle = sym (ap outcome_by c.in-Ok.is) ∙ outcome_one c.in-Some.angle (outcome_by c.value.result) c.value.ensures in
    let p : c.push.new.self.items ≡ out ++ record { from = 0; to = 0; value = c.in-Ok.value } ∷ [] = search rules in
    c.loop-angle.invariant ∙ ap (λ xs. after (given_by out) (outcomes_in xs)) r ∙ after_step (given_by out) (value_by c.in-Ok.value) (outcome_in c.in-Some.angle) (outcomes_in rest) v
    ∙ ap (λ vs. after vs (outcomes_in rest)) (sym (ap given_by p ∙ given_more out _))

pub returns-in-Err : goal.returns-in-Err
returns-in-Err c =
    let out = c.loop-angle.out.items in
    let rest = c.next.new.self in
    let r : c.loop-angle.rest ≡ c.in-Some.angle ∷ rest = search rules in
    let v : Err c.in-Err.refusal ≡ outcome_in c.in-Some.angle = sym (ap outcome_by c.in-Err.is) ∙ outcome_one c.in-Some.angle (outcome_by c.value.result) c.value.ensures in
    sym (c.loop-angle.invariant ∙ ap (λ xs. after (given_by out) (outcomes_in xs)) r ∙ ap (λ o. after (given_by out) (led o (outcomes_in rest))) (sym v))
