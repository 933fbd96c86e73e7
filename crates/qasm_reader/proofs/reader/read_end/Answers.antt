use Rattle.std.proofs.Common.{◌≡◌, sym, subst, rules, ℕ, List, false, nat_eq, None}
use Rattle.qasm_reader.specs.declared.reason.ReadStop.TheVariants.{Refused}
use Rattle.qasm_forms.specs.Cutting.{is_nothing}
use Rattle.qasm_gates.specs.declared.gates.Gates.{Gates}
use Rattle.qasm_reader.specs.Parts.{Part, last_part}
use Rattle.qasm_reader.specs.Reading.{Reads, IfRefused, refusal}
use Rattle.qasm_reader.specs.Private.Drafts.{Reached, no_form}
use Rattle.qasm_reader.specs.declared.reason.Why.TheVariants.{BadByte}
use Rattle.qasm_reader.proofs.Onward.{end_bad, end_open}
use Rattle.qasm_reader.proofs.reader.read_end.Goals as goal

pub returns-else-is_empty-clause-refused : goal.returns-else-is_empty-clause-refused
returns-else-is_empty-clause-refused c =
    let e : c.refused-else-is_empty.result ≡ Refused (record { statement = c.args.number; why = no_form (nat_eq c.args.number 1) }) = search rules in
    let some : is_nothing c.args.rest.now ≡ false = search rules in
    let none : c.args.bad ≡ None = c.in_default.is in
    subst (λ x. IfRefused x (λ r. (limit : ℕ) (all : List Part) (gates : Gates) → Reached limit all (last_part c.args.rest.now c.args.bad) c.args.draft gates c.args.number → Reads limit all (refusal r.statement r.why))) (sym e)
    (λ limit all gates r. end_open limit all c.args.draft gates c.args.number c.args.rest.now some (subst (λ b. Reached limit all (last_part c.args.rest.now b) c.args.draft gates c.args.number) none r))

pub returns-in-Some-clause-refused : goal.returns-in-Some-clause-refused
returns-in-Some-clause-refused c =
    let e : c.refused.result ≡ Refused (record { statement = c.args.number; why = BadByte c.in-Some.place }) = search rules in
    subst (λ x. IfRefused x (λ r. (limit : ℕ) (all : List Part) (gates : Gates) → Reached limit all (last_part c.args.rest.now c.args.bad) c.args.draft gates c.args.number → Reads limit all (refusal r.statement r.why))) (sym e)
    (λ limit all gates r. end_bad limit all c.args.draft gates c.args.number c.args.rest.now c.in-Some.place (subst (λ b. Reached limit all (last_part c.args.rest.now b) c.args.draft gates c.args.number) c.in-Some.is r))
