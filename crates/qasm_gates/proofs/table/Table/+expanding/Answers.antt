use Rattle.std.proofs.Common.{◌≡◌, ◌∙◌, ◌∷◌, ◌++◌, sym, ap, refl, subst, ◌≤◌, List, length, map, get_or, All, rules, arith}
use Rattle.std.specs.Prelude.{Ok}
use Rattle.std.proofs.lemmas.List.{length-map}
use Rattle.std.proofs.lemmas.List.Elements.{All-head, All-tail}
use Rattle.qasm_lex.specs.Expressions.{eval}
use Rattle.qasm_lex.specs.Values.{values}
use Rattle.qasm_lex.specs.Angles.{given_by, value_by}
use Rattle.qasm_gates.specs.declared.table.Line.{Line}
use Rattle.qasm_gates.specs.Gates.{Named, all_of, placed}
use Rattle.qasm_gates.specs.Bodies.{body_means, call_means, joined}
use Rattle.qasm_gates.specs.Private.Counts.{seen_values}
use Rattle.qasm_gates.specs.Private.Proper.{AreQubits, IsMeant, done_in}
use Rattle.qasm_gates.specs.Private.Tables.{store_of, tree_at, angles_at, on_at, callee_arity, IsCallee, IsLine, IsRow, AreBelow, gates_of, line_at, lines_of, callee_rank, nothing}
use Rattle.qasm_gates.proofs.Rows.{gate_at, gates_length, line_later, angles_length, rank_before}
use Rattle.qasm_gates.proofs.Steps.{all_length}
use Rattle.qasm_gates.proofs.Good.{all_good, gate_good, callee_counted, on_length}
use Rattle.qasm_gates.proofs.Placed.{pick}
use Rattle.qasm_gates.proofs.Expanded.{callee_meant, call_gates, line_qubits, joined_meant, gates_step}
use Rattle.qasm_gates.proofs.Naming.{on_ok}
use Rattle.qasm_gates.proofs.table.Table.+expanding.Goals as goal

pub expand_line-expand-requires : goal.expand_line-expand-requires
expand_line-expand-requires n c =
    let s = store_of c.args.self.now in
    let l = c.args.line in
    let rows = length c.args.self.now.rows.items in
    let given = given_by c.args.bound.now in
    let call = line_at s (gates_of s) l in
    let vs = given_by c.deref.result.now in
    let w : seen_values c.in_ok-values_of.field-0 ≡ all_of (map (eval (values given)) call.angles) = search rules in
    let d : c.deref.result.now ≡ c.in-Ok.values.items = search rules in
    let e : all_of (map (eval (values given)) call.angles) ≡ Ok vs = sym w ∙ ap seen_values c.in-Ok.is ∙ ap (λ vs. Ok (given_by vs)) (sym d) in
    let qubits : c.deref-in-Ok.result.now ≡ pick c.args.on.now (on_at s l) = search rules in
    let q = c.decreases in (
      omega (arith, q),
      (
        c.requires.table,
        (
          c.requires.line.callee,
          (
            sym (length-map c.deref.result.now (λ b. value_by b.value)) ∙ all_length (map (eval (values given)) call.angles) vs e
                ∙ length-map call.angles (eval (values given)) ∙ length-map (angles_at s l) (tree_at s) ∙ angles_length s rows l c.requires.line,
            (subst (AreQubits (callee_arity s.rows l.callee)) (sym qubits) (line_qubits s rows l c.args.on.now c.requires.line c.requires.below c.requires.qubits), callee_meant call given vs e c.requires.meant),
          ),
        ),
      ),
    )

pub expand_line-returns-in_ok-qubits-in-Ok : goal.expand_line-returns-in_ok-qubits-in-Ok
expand_line-returns-in_ok-qubits-in-Ok n c =
    let s = store_of c.args.self.now in
    let l = c.args.line in
    let rows = length c.args.self.now.rows.items in
    let given = given_by c.args.bound.now in
    let call = line_at s (gates_of s) l in
    let vs = given_by c.deref.result.now in
    let w : seen_values c.in_ok-values_of.field-0 ≡ all_of (map (eval (values given)) call.angles) = search rules in
    let d : c.deref.result.now ≡ c.in-Ok.values.items = search rules in
    let e : all_of (map (eval (values given)) call.angles) ≡ Ok vs = sym w ∙ ap seen_values c.in-Ok.is ∙ ap (λ vs. Ok (given_by vs)) (sym d) in
    let qubits : c.deref-in-Ok.result.now ≡ pick c.args.on.now (on_at s l) = search rules in
    let known : IsCallee (length (gates_of s)) l.callee = subst (λ n. IsCallee n l.callee) (sym (gates_length s)) c.requires.line.callee in
    let good = gate_good s l.callee c.requires.table.store known in
    let count = on_length s rows l c.requires.line ∙ callee_counted s (gates_of s) l.callee (all_good s c.requires.table.store) known in
    on_ok c.expand.result
    (λ g. g ∙ ap (λ on. c.args.gates.now.items ++ map (placed on) (done_in (call.called.means vs))) qubits ∙ ap (λ g. c.args.gates.now.items ++ g) (call_gates call given vs c.args.on.now good count e c.requires.meant))
    c.expand.ensures

pub expand_row-loop-line-init : goal.expand_row-loop-line-init
expand_row-loop-line-init n c =
    let s = store_of c.args.self.now in
    let r = c.row-row.result in
    let given = given_by c.args.bound.now in
    let at = gate_at s c.args.gate r c.requires.table.store c.row-row.ensures.row in
    let row : IsRow s c.args.gate r = c.requires.table.store.rows c.args.gate r c.row-row.ensures.row in
    let means : body_means given (map (line_at s (gates_of s)) c.lines_of-rest.result.now) ≡ (get_or (gates_of s) c.args.gate nothing).means given =
    ap (λ (ls : List Line). body_means given (map (line_at s (gates_of s)) ls)) c.lines_of-rest.ensures ∙ sym (ap (λ (x : Named). x.means given) at) in
    let arity : r.arity ≡ length c.args.on.now = ap (λ r. r.arity) c.row-row.ensures.value ∙ sym c.requires.qubits.counted in
    record {
      done = ap (λ m. c.args.gates.now.items ++ map (placed c.args.on.now) (done_in m)) means;
      meant = (c.requires.meant.0, means ∙ c.requires.meant.1);
      lines = subst (All (IsLine s c.args.gate)) (sym c.lines_of-rest.ensures) row.lines;
      below = subst (All (λ l. AreBelow (length c.args.on.now) (on_at s l))) (sym c.lines_of-rest.ensures) (subst (λ n. All (λ l. AreBelow n (on_at s l)) (lines_of s r)) arity row.below);
    }

pub expand_row-expand_line-requires : goal.expand_row-expand_line-requires
expand_row-expand_line-requires n c =
    let s = store_of c.args.self.now in
    let given = given_by c.args.bound.now in
    let i = c.loop-line.invariant in
    let line = c.in-Some.line.now in
    let after = c.in-Some.after.now in
    let r : c.loop-line.rest.now ≡ line ∷ after = search rules in
    let l : IsLine s c.args.gate line = All-head (IsLine s c.args.gate) line after (subst (All (IsLine s c.args.gate)) r i.lines) in
    let m : IsMeant (joined (call_means given (line_at s (gates_of s) line)) (body_means given (map (line_at s (gates_of s)) after))) =
    subst (λ (ls : List Line). IsMeant (body_means given (map (line_at s (gates_of s)) ls))) r i.meant in
    let q = c.decreases in
    let before : callee_rank line.callee ≤ c.args.gate = rank_before c.args.gate line.callee l.callee in
    let known = c.requires.known in (
      omega (arith, q),
      (
        c.requires.table,
        (
          line_later s c.args.gate (length c.args.self.now.rows.items) line (omega arith) l,
          (
            All-head (λ (l : Line). AreBelow (length c.args.on.now) (on_at s l)) line after (subst (All (λ (l : Line). AreBelow (length c.args.on.now) (on_at s l))) r i.below),
            (
              record { counted = refl; small = c.requires.qubits.small; different = c.requires.qubits.different },
              (joined_meant (call_means given (line_at s (gates_of s) line)) (body_means given (map (line_at s (gates_of s)) after)) m).0,
            ),
          ),
        ),
      ),
    )

pub expand_row-loop-line-preserved : goal.expand_row-loop-line-preserved
expand_row-loop-line-preserved n c =
    let s = store_of c.args.self.now in
    let given = given_by c.args.bound.now in
    let i = c.loop-line.invariant in
    let line = c.in-Some.line.now in
    let after = c.in-Some.after.now in
    let r : c.loop-line.rest.now ≡ line ∷ after = search rules in
    let one = call_means given (line_at s (gates_of s) line) in
    let more = body_means given (map (line_at s (gates_of s)) after) in
    let m : IsMeant (joined one more) = subst (λ (ls : List Line). IsMeant (body_means given (map (line_at s (gates_of s)) ls))) r i.meant in
    let new : c.expand_line.new.gates.items ≡ c.loop-line.gates.items ++ map (placed c.args.on.now) (done_in one) = search rules in
    record {
      done =
          gates_step c.args.on.now c.loop-line.gates.items c.expand_line.new.gates.items one more m new
          ∙ ap (λ (ls : List Line). c.loop-line.gates.items ++ map (placed c.args.on.now) (done_in (body_means given (map (line_at s (gates_of s)) ls)))) (sym r) ∙ i.done;
      meant = (joined_meant one more m).1;
      lines = All-tail (IsLine s c.args.gate) line after (subst (All (IsLine s c.args.gate)) r i.lines);
      below = All-tail (λ (l : Line). AreBelow (length c.args.on.now) (on_at s l)) line after (subst (All (λ (l : Line). AreBelow (length c.args.on.now) (on_at s l))) r i.below);
    }
