use Rattle.std.proofs.Common.{◌≡◌, ◌∙◌, ◌∷◌, sym, ap, refl, subst, ◌≤◌, List, length, map, All, IfOk, rules, arith}
use Rattle.std.specs.Prelude.{Ok}
use Rattle.std.proofs.lemmas.List.{length-map}
use Rattle.std.proofs.lemmas.List.Elements.{All-head, All-tail}
use Rattle.qasm_lex.specs.Expressions.{eval}
use Rattle.qasm_lex.specs.Values.{values}
use Rattle.qasm_lex.specs.Angles.{given_by, value_by}
use Rattle.qasm_gates.specs.declared.table.Line.{Line}
use Rattle.qasm_gates.specs.Gates.{Named, all_of}
use Rattle.qasm_gates.specs.Bodies.{body_means, call_means}
use Rattle.qasm_gates.specs.Private.Counts.{Tally, tally, added, capped, seen_values}
use Rattle.qasm_gates.specs.Private.Tables.{store_of, tree_at, angles_at, IsLine, IsRow, gates_of, line_at, callee_rank}
use Rattle.qasm_gates.proofs.Tallies.{added_first, capped_once}
use Rattle.qasm_gates.proofs.Rows.{gate_at, line_later, angles_length, rank_before}
use Rattle.qasm_gates.proofs.Steps.{sum_step, call_tally, all_length}
use Rattle.qasm_gates.proofs.table.Table.+judging.Goals as goal

pub judge_row-loop-line-init : goal.judge_row-loop-line-init
judge_row-loop-line-init n c =
    let s = store_of c.args.self.now in
    let r = c.row-row.result in
    let given = given_by c.args.bound.now in
    let at = gate_at s c.args.gate r c.requires.table.store c.row-row.ensures.row in
    let row : IsRow s c.args.gate r = c.requires.table.store.rows c.args.gate r c.row-row.ensures.row in
    record {
      sum =
          ap capped (added_first _) ∙ ap (λ (ls : List Line). capped (tally (body_means given (map (line_at s (gates_of s)) ls)))) c.lines_of-rest.ensures
          ∙ sym (ap (λ (x : Named). capped (tally (x.means given))) at);
      whole = refl;
      lines = subst (All (IsLine s c.args.gate)) (sym c.lines_of-rest.ensures) row.lines;
    }

pub judge_row-loop-line-preserved : goal.judge_row-loop-line-preserved
judge_row-loop-line-preserved n c =
    let s = store_of c.args.self.now in
    let given = given_by c.args.bound.now in
    let i = c.loop-line.invariant in
    let r : c.loop-line.rest.now ≡ c.in-Some.line.now ∷ c.in-Some.after.now = search rules in
    let one : c.in_ok-one.one ≡ capped (tally (call_means given (line_at s (gates_of s) c.in-Some.line.now))) = search rules in
    let new : c.add-sum.result ≡ capped (added c.loop-line.sum c.in_ok-one.one) = c.add-sum.ensures in
    record {
      sum =
          sym (sum_step c.loop-line.sum c.in_ok-one.one c.add-sum.result (call_means given (line_at s (gates_of s) c.in-Some.line.now)) (body_means given (map (line_at s (gates_of s)) c.in-Some.after.now)) one new)
          ∙ ap (λ (ls : List Line). capped (added c.loop-line.sum (tally (body_means given (map (line_at s (gates_of s)) ls))))) (sym r) ∙ i.sum;
      whole = ap capped new ∙ capped_once _ ∙ sym new;
      lines = All-tail (IsLine s c.args.gate) c.in-Some.line.now c.in-Some.after.now (subst (All (IsLine s c.args.gate)) r i.lines);
    }

pub judge_line-judge-requires : goal.judge_line-judge-requires
judge_line-judge-requires n c =
    let s = store_of c.args.self.now in
    let l = c.args.line in
    let given = given_by c.args.bound.now in
    let call = line_at s (gates_of s) l in
    let w : seen_values c.in_ok-refusal.field-0 ≡ all_of (map (eval (values given)) call.angles) = search rules in
    let d : c.deref.result.now ≡ c.in-Ok.values.items = search rules in
    let e : all_of (map (eval (values given)) call.angles) ≡ Ok (given_by c.deref.result.now) = sym w ∙ ap seen_values c.in-Ok.is ∙ ap (λ vs. Ok (given_by vs)) (sym d) in
    let q = c.decreases in (
      omega (arith, q),
      (
        c.requires.table,
        (
          c.requires.line.callee,
          sym (length-map c.deref.result.now (λ b. value_by b.value)) ∙ all_length (map (eval (values given)) call.angles) (given_by c.deref.result.now) e
              ∙ length-map call.angles (eval (values given)) ∙ length-map (angles_at s l) (tree_at s) ∙ angles_length s (length c.args.self.now.rows.items) l c.requires.line,
        ),
      ),
    )

pub judge_row-judge_line-requires : goal.judge_row-judge_line-requires
judge_row-judge_line-requires n c =
    let s = store_of c.args.self.now in
    let r : c.loop-line.rest.now ≡ c.in-Some.line.now ∷ c.in-Some.after.now = search rules in
    let l : IsLine s c.args.gate c.in-Some.line.now = All-head (IsLine s c.args.gate) c.in-Some.line.now c.in-Some.after.now (subst (All (IsLine s c.args.gate)) r c.loop-line.invariant.lines) in
    let q = c.decreases in
    let before : callee_rank c.in-Some.line.now.callee ≤ c.args.gate = rank_before c.args.gate c.in-Some.line.now.callee l.callee in
    let known = c.requires.known in
    (omega (arith, q), (c.requires.table, line_later s c.args.gate (length c.args.self.now.rows.items) c.in-Some.line.now (omega arith) l))

pub judge_line-returns-in-Ok : goal.judge_line-returns-in-Ok
judge_line-returns-in-Ok n c =
    let s = store_of c.args.self.now in
    let l = c.args.line in
    let given = given_by c.args.bound.now in
    let w : seen_values c.in_ok-refusal.field-0 ≡ all_of (map (eval (values given)) (line_at s (gates_of s) l).angles) = search rules in
    let d : c.deref.result.now ≡ c.in-Ok.values.items = search rules in
    let e : all_of (map (eval (values given)) (line_at s (gates_of s) l).angles) ≡ Ok (given_by c.deref.result.now) = sym w ∙ ap seen_values c.in-Ok.is ∙ ap (λ vs. Ok (given_by vs)) (sym d) in
    subst (λ (x : Tally). IfOk c.judge.result (λ j. j ≡ x)) (sym (ap capped (call_tally (line_at s (gates_of s) l) given (given_by c.deref.result.now) e))) c.judge.ensures
