use Rattle.std.proofs.Common.{rules, ◌≡◌, ◌+◌, ◌≤◌, ◌<◌, ℕ, List, Bool, false, length, take, drop, ap, sym, refl, ◌∙◌, subst, arith, IsTrue}
use Rattle.std.proofs.Math.Path.{ap₂}
use Rattle.std.proofs.Math.Seq.{take-length}
use Rattle.gate_set.specs.declared.gate.Gate.{Gate}
use Rattle.comparison.specs.Products.{Step, work_matrix, AllStepsFit}
use Rattle.comparison.specs.Steps.{mixed, steps_of}
use Rattle.circuit_model.proofs.PrefixLemmas.{AtEach-nil}
use Rattle.comparison.specs.Sides.{step_of, lefts, rights}
use Rattle.dense_matrix.specs.Kept.{IsMatrix}
use Rattle.comparison.proofs.TurnLemmas.{take-next, one_side, length-steps_of, length-taken}
use Rattle.dense_matrix.proofs.Matrices.{next_kept, next_fits, stops_at}
use Rattle.dense_matrix.proofs.comparing.multiplied.Goals as goal

pub steps-init : goal.steps-init
steps-init c = record {
  count = refl;
  i_in = omega arith;
  j_in = omega arith;
  rest = refl;
  qubits = c.in_ok-matrix.ensures.qubits;
  kept = c.in_ok-matrix.ensures.entries;
  small = search rules;
  fits = AtEach-nil _;
}

no : (b : Bool) → b ≡ false → IsTrue b → ⊥
no b e t = cc

pub returns-then-not-multiply-clause-stop : goal.returns-then-not-multiply-clause-stop
returns-then-not-multiply-clause-stop c =
    let us = c.args.us.now in
    let vs = c.args.vs.now in
    let v = c.steps.invariant in
    let t = c.steps.step in
    let s = step_of c.next_turn-side.result.side c.next_turn-side.result.gate in
    stops_at c.args.qubits c.args.width (steps_of us vs) t s _ (v.rest ∙ c.next_turn-side.ensures.step) c.steps.matrix v.qubits v.kept v.fits
    (length-taken us vs t (let lt = c.steps-test.true in omega arith))
    (λ w h fits. no c.multiply.result c.if-not-multiply.true ((c.multiply.ensures.fits w h).1 fits))

pub steps-preserved : goal.steps-preserved
steps-preserved c =
    let us = c.args.us.now in
    let vs = c.args.vs.now in
    let v = c.steps.invariant in
    let t = c.steps.step in
    let side = c.next_turn-side.result.side in
    let s = step_of side c.next_turn-side.result.gate in
    let el : c.left_steps-i.result ≡ lefts side = c.left_steps-i.ensures in
    let er : c.right_steps-j.result ≡ rights side = c.right_steps-j.ensures in
    let next = v.rest ∙ c.next_turn-side.ensures.step in
    let yes : IsTrue c.multiply.result = c.if-not-multiply.false in
    record {
      count = omega (arith, one_side side, v.count);
      i_in = omega (arith, c.next_turn-side.ensures.i);
      j_in = omega (arith, c.next_turn-side.ensures.j);
      rest =
          (take-next (steps_of us vs) t s _ next).1.0
          ∙ ap₂ (λ k l. mixed (length us) (length vs) (c.steps.i + k) (c.steps.j + l) (drop (c.steps.i + k) us) (drop (c.steps.j + l) vs)) (sym el) (sym er);
      qubits = c.multiply.ensures.qubits ∙ v.qubits;
      kept = next_kept c.args.qubits c.args.width (steps_of us vs) t s _ next c.steps.matrix v.qubits v.kept c.multiply.new.self (c.multiply.ensures.next yes);
      small = omega (arith, c.multiply.ensures.exponent (work_matrix c.args.qubits (take t (steps_of us vs))) v.kept, v.small);
      fits = next_fits c.args.qubits c.args.width (steps_of us vs) t s _ next c.steps.matrix v.qubits v.kept v.fits (λ w h. (c.multiply.ensures.fits w h).0 yes);
    }

whole : (us vs : List Gate) (t : ℕ) → t ≡ length us + length vs → take t (steps_of us vs) ≡ steps_of us vs
whole us vs t e = ap (λ k. take k (steps_of us vs)) (e ∙ sym (length-steps_of us vs)) ∙ take-length (steps_of us vs)

at_end : (t m : ℕ) → t ≤ m → ¬ (t < m) → t ≡ m
at_end t m le no = omega arith

pub returns-clause-entries : goal.returns-clause-entries
returns-clause-entries c =
    let us = c.args.us.now in
    let vs = c.args.vs.now in
    let v = c.steps.invariant in
    let e : c.steps.step ≡ length us + length vs = search rules in
    let P : List Step → Type 0 = λ l. IsMatrix c.steps.matrix (work_matrix c.args.qubits l) in
    subst P (whole us vs c.steps.step e) v.kept

pub returns-clause-fits : goal.returns-clause-fits
returns-clause-fits c =
    let us = c.args.us.now in
    let vs = c.args.vs.now in
    let v = c.steps.invariant in
    let e : c.steps.step ≡ length us + length vs = search rules in
    let P : List Step → Type 0 = λ l. AllStepsFit c.args.width c.args.qubits l in
    subst P (whole us vs c.steps.step e) v.fits
