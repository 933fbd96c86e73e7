use Rattle.std.proofs.Common.{rules, Ok, Err, ◌≡◌, ◌+◌, ℕ, List, length, take, drop, ap, sym, refl, ◌∙◌, subst, arith}
use Rattle.std.proofs.Math.Path.{ap₂}
use Rattle.std.proofs.Math.Seq.{take-length}
use Rattle.gate_set.specs.declared.gate.Gate.{Gate}
use Rattle.gate_set.specs.Shape.{IsOn}
use Rattle.amp_dense.specs.declared.stop.Stop.{Stop}
use Rattle.comparison.specs.Products.{Step}
use Rattle.comparison.specs.Sides.{step_of, lefts, rights}
use Rattle.comparison.specs.Steps.{mixed, steps_of}
use Rattle.comparison.proofs.TurnLemmas.{take-next, one_side, length-steps_of}
use Rattle.unitary_update.specs.Kept.{standing_of, Multiplies}
use Rattle.unitary_update.proofs.Chains.{multiplied}
use Rattle.equivalence.proofs.Stepping.{begins, starts, one_after, stops_after, few_steps}
use Rattle.equivalence.proofs.comparing.stepped.Goals as goal

pub steps-init : goal.steps-init
steps-init c = record {
  count = refl;
  i_in = omega arith;
  j_in = omega arith;
  rest = refl;
  after = begins c.args.qubits c.args.rules.now (steps_of c.args.us.now c.args.vs.now) (standing_of c.in_ok-matrix.matrix) c.in_ok-matrix.ensures.begins c.in_ok-matrix.ensures.room;
}

pub multiply-requires-clause-within : goal.multiply-requires-clause-within
multiply-requires-clause-within c =
    let goes = multiplied c.args.rules.now c.args.qubits (take c.steps._step (steps_of c.args.us.now c.args.vs.now)) (standing_of c.steps.matrix) c.steps.invariant.after in
    subst (λ n. IsOn n c.next_turn-turn.result.gate) (sym goes.input) (c.next_turn-turn.ensures.on c.args.qubits c.requires.on_us c.requires.on_vs)

pub multiply-requires-clause-few : goal.multiply-requires-clause-few
multiply-requires-clause-few c =
    let long = length-steps_of c.args.us.now c.args.vs.now in
    few_steps c.args.qubits c.args.rules.now (steps_of c.args.us.now c.args.vs.now) c.steps._step 2000000 (standing_of c.steps.matrix) c.steps.invariant.after
    (omega (arith, long, c.steps-test.true)) (omega (arith, long, c.requires.few_us, c.requires.few_vs))

pub steps-preserved : goal.steps-preserved
steps-preserved c =
    let us = c.args.us.now in
    let vs = c.args.vs.now in
    let v = c.steps.invariant in
    let t = c.steps._step in
    let side = c.next_turn-turn.result.side in
    let s = step_of side c.next_turn-turn.result.gate in
    let el : c.left_steps-i.result ≡ lefts side = c.left_steps-i.ensures in
    let er : c.right_steps-j.result ≡ rights side = c.right_steps-j.ensures in
    let next = v.rest ∙ c.next_turn-turn.ensures.step in
    record {
      count = omega (arith, one_side side, v.count);
      i_in = omega (arith, c.next_turn-turn.ensures.i);
      j_in = omega (arith, c.next_turn-turn.ensures.j);
      rest =
          (take-next (steps_of us vs) t s _ next).1.0
          ∙ ap₂ (λ k l. mixed (length us) (length vs) (c.steps.i + k) (c.steps.j + l) (drop (c.steps.i + k) us) (drop (c.steps.j + l) vs)) (sym el) (sym er);
      after = one_after c.args.qubits c.args.rules.now (steps_of us vs) t s _ next (standing_of c.steps.matrix) v.after (standing_of c.multiply.new.matrix) c.in_ok-multiply.ensures.accepts;
    }

whole : (us vs : List Gate) (t : ℕ) → t ≡ length us + length vs → take t (steps_of us vs) ≡ steps_of us vs
whole us vs t e = ap (λ k. take k (steps_of us vs)) (e ∙ sym (length-steps_of us vs)) ∙ take-length (steps_of us vs)

pub returns-clause-qubits : goal.returns-clause-qubits
returns-clause-qubits c =
    (multiplied c.args.rules.now c.args.qubits (take c.steps._step (steps_of c.args.us.now c.args.vs.now)) (standing_of c.steps.matrix) c.steps.invariant.after).input

pub returns-clause-comes : goal.returns-clause-comes
returns-clause-comes c =
    let e : c.steps._step ≡ length c.args.us.now + length c.args.vs.now = search rules in
    let P : List Step → Type 0 = λ l. Multiplies c.args.rules.now c.args.qubits l (Ok (standing_of c.steps.matrix)) in
    subst P (whole c.args.us.now c.args.vs.now c.steps._step e) c.steps.invariant.after

pub returns-in_err-matrix-clause-stop : goal.returns-in_err-matrix-clause-stop
returns-in_err-matrix-clause-stop c =
    let stop : Stop = c.in_err-matrix.field-0.0 in
    let told : c.from_residual.result ≡ Err stop = search rules in
    rw told (starts c.args.qubits c.args.rules.now (steps_of c.args.us.now c.args.vs.now) stop c.in_err-matrix.ensures.stops)

pub returns-in_err-multiply-clause-stop : goal.returns-in_err-multiply-clause-stop
returns-in_err-multiply-clause-stop c =
    let us = c.args.us.now in
    let vs = c.args.vs.now in
    let v = c.steps.invariant in
    let stop : Stop = c.in_err-multiply.field-0.0 in
    let told : c.from_residual-in_err-multiply.result ≡ Err stop = search rules in
    rw told
    (stops_after c.args.qubits c.args.rules.now (steps_of us vs) c.steps._step (step_of c.next_turn-turn.result.side c.next_turn-turn.result.gate) _ (v.rest ∙ c.next_turn-turn.ensures.step)
    (standing_of c.steps.matrix) v.after stop c.in_err-multiply.ensures.stops)
