use Rattle.std.proofs.Common.{rules, ◌≡◌, ◌+◌, ◌<◌, ◌∷◌, ◌++◌, [], ℕ, List, length, map, Ok, Err, ap, sym, ◌∙◌, subst, arith}
use Rattle.std.proofs.lemmas.List.{map_push}
use Rattle.gate_set.specs.Shape.{IsOn}
use Rattle.amp_dense.specs.declared.stop.Stop.TheVariants.{OutOfMemory}
use Rattle.comparison.specs.Products.{Step, gate_of}
use Rattle.comparison.specs.Products.{RawStepFits}
use Rattle.step_upkeep.proofs.Products.{stayed}
use Rattle.unitary_update.specs.declared.accepted.MatrixStep.{MatrixStep}
use Rattle.unitary_update.specs.Kept.{State, IsKept, Steps, matrix_chain, step_in}
use Rattle.unitary_update.proofs.MatrixLemmas.{state_with, one_half, within_store, kept_next, kept_stop, step_came, step_stopped}
use Rattle.unitary_update.proofs.matrix.SlicedMatrix.multiply.Goals as goal

pub returns-in_err-reserve : goal.returns-in_err-reserve
returns-in_err-reserve c =
    let s = c.self.inside in let t : Step = step_in c.args.factor in
    let e : c.from_residual.result ≡ Err OutOfMemory = search rules in
    let shown : State = state_with s.qubits s.rules (map step_in s.steps.items) s.diagrams s.quad in
    let there : Steps shown t (Err OutOfMemory) shown = stayed matrix_chain RawStepFits s.qubits s.rules (map step_in s.steps.items) s.diagrams t c.self.invariant.sound in
    rw (e, c.reserve.ensures.items) (subst (λ (m : State). Steps m t (Err OutOfMemory) shown) c.self.view_is there)

pub sided-s-requires-clause-on : goal.sided-s-requires-clause-on
sided-s-requires-clause-on c = let t : Step = step_in c.args.factor in subst (λ (m : State). IsOn m.qubits (gate_of t)) (sym c.self.view_is) c.requires.within

pub accept-requires-clause-on : goal.accept-requires-clause-on
accept-requires-clause-on c =
    let s = c.self.inside in let t : Step = step_in c.args.factor in
    within_store (length s.diagrams.store.order) s.qubits t c.sided-s.result c.self.invariant.variables c.sided-s.ensures

pub accept-requires-clause-exponent : goal.accept-requires-clause-exponent
accept-requires-clause-exponent c =
    let s = c.self.inside in let t : Step = step_in c.args.factor in
    let half = one_half s.qubits t c.sided-s.result c.sided-s.ensures in
    let small = c.self.invariant.small in let few = c.self.invariant.few_steps in
    omega (arith, half, small, few)

pub invariant_of-self-in_err-accept : goal.invariant_of-self-in_err-accept
invariant_of-self-in_err-accept c =
    let s = c.self.inside in let t : Step = step_in c.args.factor in
    let shown : State = state_with s.qubits s.rules (map step_in s.steps.items) s.diagrams s.quad in
    let v = c.accept.new.d in let r = c.accept.new.q in
    let on : IsOn s.qubits (gate_of t) = subst (λ (m : State). IsOn m.qubits (gate_of t)) (sym c.self.view_is) c.requires.within in
    let count : c.accepted-accepted.result ≡ length (map step_in s.steps.items) = c.accepted-accepted.ensures.value ∙ ap (λ (m : State). length m.steps) (sym c.self.view_is) in
    let kept : IsKept (state_with s.qubits s.rules (map step_in s.steps.items) v r) = kept_stop shown t c.sided-s.result v r c.accepted-accepted.result c.self.invariant on c.sided-s.ensures count _ c.in_err-accept.ensures in
    rw c.reserve.ensures.items kept

pub returns-in_err-accept : goal.returns-in_err-accept
returns-in_err-accept c =
    let s = c.self.inside in let t : Step = step_in c.args.factor in
    let shown : State = state_with s.qubits s.rules (map step_in s.steps.items) s.diagrams s.quad in
    let v = c.accept.new.d in let r = c.accept.new.q in
    let on : IsOn s.qubits (gate_of t) = subst (λ (m : State). IsOn m.qubits (gate_of t)) (sym c.self.view_is) c.requires.within in
    let count : c.accepted-accepted.result ≡ length (map step_in s.steps.items) = c.accepted-accepted.ensures.value ∙ ap (λ (m : State). length m.steps) (sym c.self.view_is) in
    let stop = c.in_err-accept.field-0.0 in
    let e : c.from_residual-in_err-accept.result ≡ Err stop = search rules in
    let there : Steps shown t (Err stop) (state_with s.qubits s.rules (map step_in s.steps.items) v r) = step_stopped shown t c.sided-s.result v r c.accepted-accepted.result c.self.invariant on c.sided-s.ensures count stop c.in_err-accept.ensures in
    rw (e, c.reserve.ensures.items) (subst (λ (m : State). Steps m t (Err stop) (state_with s.qubits s.rules (map step_in s.steps.items) v r)) c.self.view_is there)

pub invariant_of-self-2 : goal.invariant_of-self-2
invariant_of-self-2 c =
    let s = c.self.inside in let t : Step = step_in c.args.factor in
    let shown : State = state_with s.qubits s.rules (map step_in s.steps.items) s.diagrams s.quad in
    let v = c.accept.new.d in let r = c.accept.new.q in
    let on : IsOn s.qubits (gate_of t) = subst (λ (m : State). IsOn m.qubits (gate_of t)) (sym c.self.view_is) c.requires.within in
    let count : c.accepted-accepted.result ≡ length (map step_in s.steps.items) = c.accepted-accepted.ensures.value ∙ ap (λ (m : State). length m.steps) (sym c.self.view_is) in
    let few : length (map step_in s.steps.items) < 2000000 = subst (λ (m : State). length m.steps < 2000000) (sym c.self.view_is) c.requires.few in
    let items : c.push_reserved.new.self.items ≡ s.steps.items ++ c.args.factor ∷ [] = c.push_reserved.ensures.items ∙ ap (λ (l : List MatrixStep). l ++ c.args.factor ∷ []) c.reserve.ensures.items in
    let steps : map step_in c.push_reserved.new.self.items ≡ map step_in s.steps.items ++ t ∷ [] = ap (map step_in) items ∙ map_push step_in s.steps.items c.args.factor in
    let kept : IsKept (state_with s.qubits s.rules (map step_in s.steps.items ++ t ∷ []) v r) = kept_next shown t c.sided-s.result v r c.accepted-accepted.result c.self.invariant on c.sided-s.ensures count few c.in_ok-accept.ensures in
    rw steps kept

pub returns : goal.returns
returns c =
    let s = c.self.inside in let t : Step = step_in c.args.factor in
    let shown : State = state_with s.qubits s.rules (map step_in s.steps.items) s.diagrams s.quad in
    let v = c.accept.new.d in let r = c.accept.new.q in
    let on : IsOn s.qubits (gate_of t) = subst (λ (m : State). IsOn m.qubits (gate_of t)) (sym c.self.view_is) c.requires.within in
    let count : c.accepted-accepted.result ≡ length (map step_in s.steps.items) = c.accepted-accepted.ensures.value ∙ ap (λ (m : State). length m.steps) (sym c.self.view_is) in
    let few : length (map step_in s.steps.items) < 2000000 = subst (λ (m : State). length m.steps < 2000000) (sym c.self.view_is) c.requires.few in
    let items : c.push_reserved.new.self.items ≡ s.steps.items ++ c.args.factor ∷ [] = c.push_reserved.ensures.items ∙ ap (λ (l : List MatrixStep). l ++ c.args.factor ∷ []) c.reserve.ensures.items in
    let steps : map step_in c.push_reserved.new.self.items ≡ map step_in s.steps.items ++ t ∷ [] = ap (map step_in) items ∙ map_push step_in s.steps.items c.args.factor in
    let there : Steps shown t (Ok tt) (state_with s.qubits s.rules (map step_in s.steps.items ++ t ∷ []) v r) = step_came shown t c.sided-s.result v r c.accepted-accepted.result c.self.invariant on c.sided-s.ensures count few c.in_ok-accept.ensures in
    rw steps (subst (λ (m : State). Steps m t (Ok tt) (state_with s.qubits s.rules (map step_in s.steps.items ++ t ∷ []) v r)) c.self.view_is there)
