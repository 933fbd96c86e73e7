use Rattle.std.proofs.Common.{rules, ◌≡◌, ◌+◌, ◌<◌, ◌∷◌, ◌++◌, [], ℕ, List, All, length, Ok, Err, ap, sym, ◌∙◌, subst, arith}
use Rattle.std.proofs.Math.Path.{ap₂}
use Rattle.gate_set.specs.declared.gate.Gate.{Gate}
use Rattle.gate_set.specs.Shape.{qubits_of, IsOn}
use Rattle.amp_dense.specs.Standing.{FitsAfter}
use Rattle.amp_dense.specs.declared.stop.Stop.TheVariants.{OutOfMemory}
use Rattle.slice_quad.specs.Stepping.{IsStepOn}
use Rattle.slice_gates.specs.declared.side.Side.TheVariants as sides
use Rattle.slice_gates.specs.Stepped.{IsStepOf}
use Rattle.slice_gates.proofs.Shown.{step_at, one_half}
use Rattle.step_upkeep.specs.Chains.{Proceeds}
use Rattle.step_upkeep.proofs.Products.{stayed}
use Rattle.state_update.specs.Kept.{State, IsKept, standing_of, vector_chain}
use Rattle.state_update.proofs.StateLemmas.{state_with, kept_next, kept_stopped, gate_came, gate_stopped}
use Rattle.state_update.proofs.sliced.SlicedState.proceed.Goals as goal

pub returns-in_err-reserve : goal.returns-in_err-reserve
returns-in_err-reserve c =
    let s = c.self.inside in let g : Gate = c.args.gate.now in
    let e : c.from_residual.result ≡ Err OutOfMemory = search rules in
    let shown : State = state_with s.input s.rules s.gates.items s.diagrams s.quad in
    let there = stayed vector_chain FitsAfter s.input s.rules s.gates.items s.diagrams g c.self.invariant.sound in
    rw (e, c.reserve.ensures.items) (subst (λ (t : State). Proceeds vector_chain FitsAfter (standing_of t) g (Err OutOfMemory) (standing_of shown) s.diagrams.store) c.self.view_is there)

pub step_of-s-requires-clause-below : goal.step_of-s-requires-clause-below
step_of-s-requires-clause-below c =
    subst (λ n. All (λ q. q < n) (qubits_of c.args.gate.now)) (ap (λ (t : State). length t.input) (sym c.self.view_is) ∙ sym c.len.ensures.value) c.requires.within.below

pub accept-requires-clause-on : goal.accept-requires-clause-on
accept-requires-clause-on c =
    let is = c.step_of-s.ensures in
    subst (λ n. IsStepOn n c.step_of-s.result) (c.len.ensures.value ∙ sym c.self.invariant.variables) is.within

pub accept-requires-clause-exponent : goal.accept-requires-clause-exponent
accept-requires-clause-exponent c =
    let half = one_half c.len.result c.args.gate.now c.step_of-s.result c.step_of-s.ensures in
    let small = c.self.invariant.small in let few = c.self.invariant.few_gates in
    omega (arith, half, small, few)

pub invariant_of-self-in_err-accept : goal.invariant_of-self-in_err-accept
invariant_of-self-in_err-accept c =
    let s = c.self.inside in let g : Gate = c.args.gate.now in
    let shown : State = state_with s.input s.rules s.gates.items s.diagrams s.quad in
    let v = c.accept.new.d in let r = c.accept.new.q in
    let on : IsOn (length s.input) g = subst (λ (t : State). IsOn (length t.input) g) (sym c.self.view_is) c.requires.within in
    let is : IsStepOf (length s.input) sides.State g c.step_of-s.result = step_at c.len.result (length s.input) g c.step_of-s.result c.len.ensures.value c.step_of-s.ensures in
    let count : c.accepted-accepted.result ≡ length s.gates.items = c.accepted-accepted.ensures.value ∙ ap (λ (t : State). length t.gates) (sym c.self.view_is) in
    let kept : IsKept (state_with s.input s.rules s.gates.items v r) = kept_stopped shown g c.step_of-s.result v r c.accepted-accepted.result c.self.invariant on is count _ c.in_err-accept.ensures in
    rw c.reserve.ensures.items kept

pub returns-in_err-accept : goal.returns-in_err-accept
returns-in_err-accept c =
    let s = c.self.inside in let g : Gate = c.args.gate.now in
    let shown : State = state_with s.input s.rules s.gates.items s.diagrams s.quad in
    let v = c.accept.new.d in let r = c.accept.new.q in
    let on : IsOn (length s.input) g = subst (λ (t : State). IsOn (length t.input) g) (sym c.self.view_is) c.requires.within in
    let is : IsStepOf (length s.input) sides.State g c.step_of-s.result = step_at c.len.result (length s.input) g c.step_of-s.result c.len.ensures.value c.step_of-s.ensures in
    let count : c.accepted-accepted.result ≡ length s.gates.items = c.accepted-accepted.ensures.value ∙ ap (λ (t : State). length t.gates) (sym c.self.view_is) in
    let stop = c.in_err-accept.field-0.0 in
    let e : c.from_residual-in_err-accept.result ≡ Err stop = search rules in
    let there = gate_stopped shown g c.step_of-s.result v r c.accepted-accepted.result c.self.invariant on is count stop c.in_err-accept.ensures in
    rw (e, c.reserve.ensures.items)
    (subst (λ (t : State). Proceeds vector_chain FitsAfter (standing_of t) g (Err stop) (standing_of (state_with s.input s.rules s.gates.items v r)) v.store) c.self.view_is there)

pub invariant_of-self-2 : goal.invariant_of-self-2
invariant_of-self-2 c =
    let s = c.self.inside in let g : Gate = c.args.gate.now in
    let shown : State = state_with s.input s.rules s.gates.items s.diagrams s.quad in
    let v = c.accept.new.d in let r = c.accept.new.q in
    let on : IsOn (length s.input) g = subst (λ (t : State). IsOn (length t.input) g) (sym c.self.view_is) c.requires.within in
    let is : IsStepOf (length s.input) sides.State g c.step_of-s.result = step_at c.len.result (length s.input) g c.step_of-s.result c.len.ensures.value c.step_of-s.ensures in
    let count : c.accepted-accepted.result ≡ length s.gates.items = c.accepted-accepted.ensures.value ∙ ap (λ (t : State). length t.gates) (sym c.self.view_is) in
    let few : length s.gates.items < 2000000 = subst (λ (t : State). length t.gates < 2000000) (sym c.self.view_is) c.requires.few in
    let gates : c.push_reserved.new.self.items ≡ s.gates.items ++ g ∷ [] = c.push_reserved.ensures.items ∙ ap₂ (λ l p. l ++ p ∷ []) c.reserve.ensures.items c.copied.ensures.value in
    let kept : IsKept (state_with s.input s.rules (s.gates.items ++ g ∷ []) v r) = kept_next shown g c.step_of-s.result v r c.accepted-accepted.result c.self.invariant on is count few c.in_ok-accept.ensures in
    rw gates kept

pub returns : goal.returns
returns c =
    let s = c.self.inside in let g : Gate = c.args.gate.now in
    let shown : State = state_with s.input s.rules s.gates.items s.diagrams s.quad in
    let v = c.accept.new.d in let r = c.accept.new.q in
    let on : IsOn (length s.input) g = subst (λ (t : State). IsOn (length t.input) g) (sym c.self.view_is) c.requires.within in
    let is : IsStepOf (length s.input) sides.State g c.step_of-s.result = step_at c.len.result (length s.input) g c.step_of-s.result c.len.ensures.value c.step_of-s.ensures in
    let count : c.accepted-accepted.result ≡ length s.gates.items = c.accepted-accepted.ensures.value ∙ ap (λ (t : State). length t.gates) (sym c.self.view_is) in
    let few : length s.gates.items < 2000000 = subst (λ (t : State). length t.gates < 2000000) (sym c.self.view_is) c.requires.few in
    let gates : c.push_reserved.new.self.items ≡ s.gates.items ++ g ∷ [] = c.push_reserved.ensures.items ∙ ap₂ (λ l p. l ++ p ∷ []) c.reserve.ensures.items c.copied.ensures.value in
    let there = gate_came shown g c.step_of-s.result v r c.accepted-accepted.result c.self.invariant on is count few c.in_ok-accept.ensures in
    rw gates
    (subst (λ (t : State). Proceeds vector_chain FitsAfter (standing_of t) g (Ok tt) (standing_of (state_with s.input s.rules (s.gates.items ++ g ∷ []) v r)) v.store) c.self.view_is there)
