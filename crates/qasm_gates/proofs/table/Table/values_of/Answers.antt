use Rattle.std.proofs.Common.{◌≡◌, ◌∙◌, [], ◌∷◌, ◌++◌, sym, ap, refl, map, drop, All, subst, rules}
use Rattle.std.specs.Prelude.{List, Result, Ok, Err}
use Rattle.std.proofs.lemmas.List.Elements.{All-tail, All-take, All-drop}
use Rattle.qasm_lex.specs.declared.refusal.AngleRefusal.{AngleRefusal}
use Rattle.qasm_lex.specs.declared.value.Value.{Value}
use Rattle.qasm_lex.specs.Expressions.{eval}
use Rattle.qasm_lex.specs.Values.{values}
use Rattle.qasm_lex.specs.Angles.{given_by, outcome_by, value_by}
use Rattle.qasm_gates.specs.declared.table.Angle.{Angle}
use Rattle.qasm_gates.specs.Gates.{all_of}
use Rattle.qasm_gates.specs.Private.Counts.{after}
use Rattle.qasm_gates.specs.Private.Tables.{store_of, tree_at, IsStored}
use Rattle.qasm_gates.proofs.Steps.{after_step, given_more}
use Rattle.qasm_gates.proofs.table.Table.values_of.Goals as goal

nothing_before : (r : Result (List Value) AngleRefusal) → r ≡ after [] r
nothing_before (Ok vs) = refl
nothing_before (Err e) = refl

pub loop-angle-init : goal.loop-angle-init
loop-angle-init c =
    let s = store_of c.args.self.now in
    let given = given_by c.args.bound.now in
    let read = λ (places : List Angle). all_of (map (eval (values given)) (map (tree_at s) places)) in
    let none : c.new-out.result.items ≡ [] = search rules in
    record {
      all = ap read (sym c.angles_of-rest.ensures) ∙ nothing_before (read c.angles_of-rest.result.now) ∙ ap (λ bs. after (given_by bs) (read c.angles_of-rest.result.now)) (sym none);
      stored = subst (All (IsStored s)) (sym c.angles_of-rest.ensures) (All-take (IsStored s) _ (drop c.args.line.angles s.angles) (All-drop (IsStored s) c.args.line.angles s.angles c.requires.table.store.angles));
    }

pub loop-angle-preserved : goal.loop-angle-preserved
loop-angle-preserved c =
    let i = c.loop-angle.invariant in
    let given = given_by c.args.bound.now in
    let s = store_of c.args.self.now in
    let r : c.loop-angle.rest.now ≡ c.in-Some.angle.now ∷ c.in-Some.after.now = search rules in
    let v : Ok (value_by c.in-Ok.value) ≡ eval (values given) (tree_at s c.in-Some.angle.now) = sym (ap outcome_by c.in-Ok.is) ∙ c.value_of.ensures in
    let p : c.push.new.self.items ≡ c.loop-angle.out.items ++ record { from = 0; to = 0; value = c.in-Ok.value } ∷ [] = search rules in
    record {
      all =
          i.all ∙ ap (λ xs. after (given_by c.loop-angle.out.items) (all_of (map (eval (values given)) (map (tree_at s) xs)))) r
          ∙ after_step (given_by c.loop-angle.out.items) (value_by c.in-Ok.value) _ (all_of (map (eval (values given)) (map (tree_at s) c.in-Some.after.now))) v
          ∙ ap (λ vs. after vs (all_of (map (eval (values given)) (map (tree_at s) c.in-Some.after.now)))) (sym (ap given_by p ∙ given_more c.loop-angle.out.items _));
      stored = All-tail (IsStored s) c.in-Some.angle.now c.in-Some.after.now (subst (All (IsStored s)) r i.stored);
    }
