use Rattle.std.proofs.Common.{◌≡◌, ap, refl, List, [], ◌∷◌, Bool, true, false, cond}
use Rattle.std.proofs.lemmas.List.Sums.{fold-append}
use Rattle.ring_omega.specs.Ring.{one_quad, zero_quad}
use Rattle.circuit_model.specs.Product.{amp, applied, same_bits, basis_state}
use Rattle.circuit_model.proofs.VectorLemmas.{same_bits-refl, same_bits-true}
use Rattle.circuit_model.proofs.product_by_last_gate.Goals as goal

pub returns-clause-at_input : goal.returns-clause-at_input
unfolding amp
returns-clause-at_input c = λ x. ap (λ b. cond b one_quad zero_quad) (same_bits-refl x)

pub returns-clause-elsewhere : goal.returns-clause-elsewhere
unfolding amp
returns-clause-elsewhere c = λ input x differs. chosen input x differs (same_bits x input) refl
  where
    chosen : (input x : List Bool) → (x ≡ input → ⊥) → (b : Bool) → same_bits x input ≡ b → cond b one_quad zero_quad ≡ zero_quad
    chosen input x differs true e = absurd (differs (same_bits-true x input e))
    chosen input x differs false e = refl

pub returns-clause-last : goal.returns-clause-last
unfolding amp
returns-clause-last c = λ gates g input x. ap (λ v. v x) (fold-append (λ v h. applied h v) (basis_state input) gates (g ∷ []))
