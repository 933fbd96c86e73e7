use Rattle.std.proofs.Common.{◌≡◌, ◌∙◌, sym, ap, subst, rules, arith, refl, ◌+◌, true, false, Some, None}
use Rattle.qasm_reader.specs.declared.reason.Why.TheVariants.{NoVersion}
use Rattle.qasm_reader.specs.declared.reason.ReadStop.TheVariants.{Refused}
use Rattle.qasm_forms.specs.Cutting.{is_nothing, end_at}
use Rattle.qasm_forms.specs.Private.Fronts.{seen_end, then_end}
use Rattle.qasm_reader.specs.Parts.{last_part, parts_of}
use Rattle.qasm_reader.specs.Reading.{Reads, IfRefused, refusal}
use Rattle.qasm_reader.specs.Private.Drafts.{Reached, ended_part}
use Rattle.std.proofs.lemmas.Result.{IfOk-weaker}
use Rattle.qasm_reader.proofs.PartCuts.{cut_closed, cut_open, end_shorter}
use Rattle.qasm_reader.proofs.Onward.{nothing_reads, some_lexemes, some_bad, reached_start, Next, if_refused, reached_next, reached_refused, refused_reads}
use Rattle.qasm_reader.proofs.reader.read_statements.Goals.{else-is_empty-via-then-is_empty+else-is_none, else-is_empty-via-else-is_empty}
use Rattle.qasm_reader.proofs.reader.read_statements.Goals as goal

pub returns-then-is_none-clause-refused : goal.returns-then-is_none-clause-refused
returns-then-is_none-clause-refused c =
    let e : c.refused.result ≡ Refused (record { statement = 0; why = NoVersion }) = search rules in
    let n : is_nothing c.args.lexemes.now ≡ true = search rules in
    let b : c.args.bad ≡ None = search rules in
    subst (λ x. IfRefused x (λ r. Reads c.args.limit (parts_of c.args.lexemes.now c.args.bad) (refusal r.statement r.why))) (sym e)
    (nothing_reads c.args.limit c.args.lexemes.now c.args.bad n b)

pub statements-init : goal.statements-init
statements-init c = record {
  reached = subst (λ d. Reached c.args.limit (parts_of c.args.lexemes.now c.args.bad) (parts_of c.args.lexemes.now c.args.bad) d c.new-gates.result 1) (sym c.new-draft.ensures)
      (reached_start c.args.limit (parts_of c.args.lexemes.now c.args.bad) c.new-gates.result (record { whole = c.new-gates.ensures.sound; shows = c.new-gates.ensures.shows }));
  some = elim c.else-is_empty.branch [
    | else-is_empty-via-then-is_empty+else-is_none w ↦ some_bad c.args.lexemes.now c.args.bad (search rules)
    | else-is_empty-via-else-is_empty w ↦ some_lexemes c.args.lexemes.now c.args.bad (search rules)
  ];
  short = omega arith;
}

pub returns-in_default-clause-circuit : goal.returns-in_default-clause-circuit
returns-in_default-clause-circuit c =
    let all = parts_of c.args.lexemes.now c.args.bad in
    let none : end_at false c.statements.lexemes ≡ None = sym c.statement.ensures.cut ∙ ap (λ x. then_end x c.statement.new.self) c.in_default.is in
    let last : parts_of c.statements.lexemes c.args.bad ≡ last_part c.statement.new.self c.args.bad =
    cut_open c.statements.lexemes c.args.bad none ∙ ap (λ ls. last_part ls c.args.bad) (sym (c.statement.ensures.kept c.in_default.is)) in
    let r = subst (λ ps. Reached c.args.limit all ps c.statements.draft c.new-gates.result c.statements.number) last c.statements.invariant.reached in
    IfOk-weaker c.read_end.result _ _ (λ x h. h c.args.limit all c.new-gates.result c.statements.invariant.some r) c.read_end.ensures.circuit

pub returns-in_default-clause-refused : goal.returns-in_default-clause-refused
returns-in_default-clause-refused c =
    let all = parts_of c.args.lexemes.now c.args.bad in
    let none : end_at false c.statements.lexemes ≡ None = sym c.statement.ensures.cut ∙ ap (λ x. then_end x c.statement.new.self) c.in_default.is in
    let last : parts_of c.statements.lexemes c.args.bad ≡ last_part c.statement.new.self c.args.bad =
    cut_open c.statements.lexemes c.args.bad none ∙ ap (λ ls. last_part ls c.args.bad) (sym (c.statement.ensures.kept c.in_default.is)) in
    let r = subst (λ ps. Reached c.args.limit all ps c.statements.draft c.new-gates.result c.statements.number) last c.statements.invariant.reached in
    if_refused c.read_end.result _ _ (λ x h. h c.args.limit all c.new-gates.result r) c.read_end.ensures.refused

pub returns-in-Some-conclusion-clause-refused : goal.returns-in-Some-conclusion-clause-refused
returns-in-Some-conclusion-clause-refused c =
    let all = parts_of c.args.lexemes.now c.args.bad in
    let end = seen_end c.in-Some.end in
    let cut : end_at false c.statements.lexemes ≡ Some (c.in-Some.part, end, c.statement.new.self) = sym c.statement.ensures.cut ∙ ap (λ x. then_end x c.statement.new.self) c.in-Some.is in
    let r = subst (λ ps. Reached c.args.limit all ps c.statements.draft c.new-gates.result c.statements.number)
    (cut_closed c.statements.lexemes c.args.bad c.in-Some.part end c.statement.new.self cut) c.statements.invariant.reached in
    let e : c.refused-in-Some-conclusion.result ≡ Refused (record { statement = c.statements.number; why = c.in-Some-conclusion.why }) = search rules in
    let h : Next c.args.limit all c.statements.draft c.new-gates.result c.statements.number (ended_part c.in-Some.part end) (Some c.in-Some-conclusion.why) c.follow.new.draft c.new-gates.result =
    subst (λ w. Next c.args.limit all c.statements.draft c.new-gates.result c.statements.number (ended_part c.in-Some.part end) w c.follow.new.draft c.new-gates.result) c.in-Some-conclusion.is c.in_ok-conclusion.ensures in
    subst (λ x. IfRefused x (λ r. Reads c.args.limit all (refusal r.statement r.why))) (sym e)
    (refused_reads c.args.limit all c.statements.number c.in-Some-conclusion.why
    (reached_refused c.args.limit all c.statements.draft c.new-gates.result c.statements.number (ended_part c.in-Some.part end) (parts_of c.statement.new.self c.args.bad) c.follow.new.draft c.new-gates.result c.in-Some-conclusion.why r h))

pub statements-smaller : goal.statements-smaller
statements-smaller c =
    let end = seen_end c.in-Some.end in
    let cut : end_at false c.statements.lexemes ≡ Some (c.in-Some.part, end, c.statement.new.self) = sym c.statement.ensures.cut ∙ ap (λ x. then_end x c.statement.new.self) c.in-Some.is in
    end_shorter false c.statements.lexemes c.in-Some.part end c.statement.new.self cut

pub statements-preserved : goal.statements-preserved
statements-preserved c =
    let all = parts_of c.args.lexemes.now c.args.bad in
    let end = seen_end c.in-Some.end in
    let cut : end_at false c.statements.lexemes ≡ Some (c.in-Some.part, end, c.statement.new.self) = sym c.statement.ensures.cut ∙ ap (λ x. then_end x c.statement.new.self) c.in-Some.is in
    let r = subst (λ ps. Reached c.args.limit all ps c.statements.draft c.new-gates.result c.statements.number)
    (cut_closed c.statements.lexemes c.args.bad c.in-Some.part end c.statement.new.self cut) c.statements.invariant.reached in
    let h : Next c.args.limit all c.statements.draft c.new-gates.result c.statements.number (ended_part c.in-Some.part end) None c.follow.new.draft c.new-gates.result =
    subst (λ w. Next c.args.limit all c.statements.draft c.new-gates.result c.statements.number (ended_part c.in-Some.part end) w c.follow.new.draft c.new-gates.result) c.in_default-conclusion.is c.in_ok-conclusion.ensures in
    record {
      reached =
          reached_next c.args.limit all c.statements.draft c.new-gates.result c.statements.number (ended_part c.in-Some.part end) (parts_of c.statement.new.self c.args.bad) c.follow.new.draft c.new-gates.result (c.statements.number + 1) refl r h;
      some = c.statements.invariant.some;
      short = let l = end_shorter false c.statements.lexemes c.in-Some.part end c.statement.new.self cut in let s = c.statements.invariant.short in omega arith;
    }
