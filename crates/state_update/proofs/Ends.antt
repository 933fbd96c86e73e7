-- A gate that fits is accepted, or needs too many nodes.
use Rattle.std.proofs.Common.{◌≡◌, ◌⊎◌, ℕ, suc, ◌≤◌, Bool, List, [], ◌∷◌, ◌++◌, length, sym, ◌∙◌, ap, subst, arith}
use Rattle.ring_omega.specs.declared.quad.Quad.{Quad}
use Rattle.bit_lists.specs.Orders.{AreVars}
use Rattle.gate_set.specs.declared.gate.Gate.{Gate}
use Rattle.gate_set.specs.Shape.{IsOn}
use Rattle.circuit_model.specs.Product.{same_bits}
use Rattle.circuit_model.specs.Working.{Scaled, FitsWidth, raw, step, work}
use Rattle.circuit_model.proofs.WorkingLemmas.{IsHalved-halved, work-last}
use Rattle.diagram_model.specs.Functions.{Assignment}
use Rattle.amp_dense.specs.Rules.{Settings}
use Rattle.amp_dense.specs.Standing.{Standing, Fits, vector, begun, with_gate}
use Rattle.slice_quad.specs.Mix.{Vector}
use Rattle.slice_quad.specs.Stepping.{stepped}
use Rattle.slice_gates.specs.declared.side.Side.TheVariants.{State}
use Rattle.slice_gates.specs.Shown.{first_values, by_values}
use Rattle.slice_gates.specs.Stepped.{step_for}
use Rattle.slice_gates.proofs.Agreeing.{length-first_values}
use Rattle.slice_gates.proofs.Doubles.{doubled_quad}
use Rattle.slice_gates.proofs.GateWorks.{functions_same}
use Rattle.step_upkeep.proofs.Products.{accepted_or_refused as product_end}
use Rattle.step_upkeep.proofs.StepFor.{step_is}
use Rattle.step_upkeep.proofs.StoredAfter.{fits_halved, halved_out, values_in, unit_fits}
use Rattle.step_upkeep.proofs.Values.{AreIn}
use Rattle.state_update.specs.Kept.{sliced_policy, vector_chain}
use Rattle.state_update.proofs.GateSteps.{stepped_is}

-- the halved vector, as many times doubled as it was halved, is the step's
taken_out : (n : ℕ) (g : Gate) (w : Scaled) → IsOn n g → (t : ℕ) × ((x : Assignment) → doubled_quad t (by_values n (step n w g).entries x) ≡ stepped (step_for n State g) (by_values n w.entries) x)
unfolding by_values
taken_out n g w on =
    halved_out n (first_values n) (length-first_values n) (stepped (step_for n State g) (by_values n w.entries)) (raw g w).exponent (raw g w).entries (step n w g)
    (IsHalved-halved n (raw g w).entries (raw g w).exponent) (λ x. ap (λ (f : Vector). f x) (stepped_is n g w.entries on))

in_bits : (n w m : ℕ) (v : List Bool → Quad) → w ≡ suc m → FitsWidth n w v → AreIn m (by_values n v)
unfolding by_values
in_bits n = values_in n (first_values n) (length-first_values n)

-- ---- a gate has an end
-- Where the coefficients fit the width, a gate may be accepted or refused for want of nodes.
pub accepted_or_refused : (s : Standing) (g : Gate) (m : ℕ) → s.rules.width ≡ suc m → AreVars (length s.order) s.order → IsOn (length s.input) g → FitsWidth (length s.input) s.rules.width (vector s).entries
    → sliced_policy.may_accept s g ⊎ sliced_policy.may_refuse s g
accepted_or_refused s g m wide vars on fits =
    let n = length s.input in
    let IsDoubled : Scaled → ℕ → Type 0 = λ w t. (x : Assignment) → doubled_quad t (by_values n w.entries x) ≡ stepped (step_for n State g) (by_values n (vector s).entries) x in
    let out = taken_out n g (vector s) on in
    let halved : IsDoubled (work (s.gates ++ g ∷ []) s.input) out.0 = subst (λ w. IsDoubled w out.0) (sym (work-last s.gates g s.input)) out.1 in
    product_end vector_chain s g (step_for n State g) (functions_same n State g) n m out.0 wide vars (step_is n State g on.placed on.below).within (in_bits n s.rules.width m (vector s).entries wide fits) halved

-- ---- the coefficients fit on
-- after a gate that fits
pub fits_next : (s : Standing) (g : Gate) → Fits s g → FitsWidth (length s.input) s.rules.width (vector (with_gate s g)).entries
fits_next s g fits =
    let n = length s.input in
    let r = raw g (vector s) in
    subst (λ (w : Scaled). FitsWidth n s.rules.width w.entries) (sym (work-last s.gates g s.input))
    (fits_halved n s.rules.width r.exponent r.entries (step n (vector s) g) (IsHalved-halved n r.entries r.exponent) fits)

-- and at the start
pub fits_begun : (input : List Bool) (rules : Settings) → 2 ≤ rules.width → FitsWidth (length input) rules.width (vector (begun input rules)).entries
unfolding work
fits_begun input rules wide x len = unit_fits rules.width wide (same_bits x input)
