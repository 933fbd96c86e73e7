-- The step that a gate is, for any vector.
use Rattle.std.proofs.Common.{◌≡◌, ℕ, zero, suc, Bool, List, [], ◌∷◌, length, refl, sym, ◌∙◌, ap, arith}
use mathlib.Core.Path.{fun_ext}
use Rattle.ring_omega.specs.declared.quad.Quad.{Quad}
use Rattle.gate_set.specs.declared.gate.Gate.{Gate}
use Rattle.gate_set.specs.Shape.{IsOn}
use Rattle.circuit_model.specs.Product.{applied}
use Rattle.circuit_model.proofs.VectorLemmas.{applied-same}
use Rattle.diagram_model.specs.Functions.{Assignment, bit}
use Rattle.slice_quad.specs.declared.kind.Step.{Step}
use Rattle.slice_quad.specs.Mix.{Vector}
use Rattle.slice_quad.specs.Stepping.{stepped}
use Rattle.slice_gates.specs.declared.side.Side.TheVariants.{State}
use Rattle.slice_gates.specs.Shown.{at_lists, first_values, ReadsBelow, by_values}
use Rattle.slice_gates.specs.Stepped.{IsStepOf, step_for}
use Rattle.slice_gates.proofs.Agreeing.{length-first_values, at_list, stepped-reads}
use Rattle.slice_gates.proofs.Weaving.{on_state}
use Rattle.step_upkeep.proofs.StepFor.{step_is, values_agree}

first_bit : (n : ℕ) (y : List Bool) → length y ≡ n → first_values n (bit y) ≡ y
unfolding first_values
first_bit zero [] len = refl
first_bit zero (b ∷ y) len = absurd (omega (arith, len))
first_bit (suc n) [] len = absurd (omega (arith, len))
first_bit (suc n) (b ∷ y) len = ap (λ (r : List Bool). b ∷ r) (first_bit n y (omega (arith, len)))

reads_values : (n : ℕ) (v : List Bool → Quad) → ReadsBelow n (by_values n v)
unfolding by_values
reads_values n v x y same = ap v (values_agree n x y same)

value_of : (n : ℕ) (v : List Bool → Quad) (y : List Bool) → length y ≡ n → v y ≡ by_values n v (bit y)
unfolding by_values
value_of n v y len = ap v (sym (first_bit n y len))

-- the gate's matrix times the vector is the step's
pub stepped_is : (n : ℕ) (g : Gate) (v : List Bool → Quad) → IsOn n g → by_values n (applied g v) ≡ stepped (step_for n State g) (by_values n v)
unfolding by_values
stepped_is n g v on = fun_ext (λ x. at x)
  where
    s : Step
    s = step_for n State g

    V : Vector
    V = by_values n v

    is : IsStepOf n State g (step_for n State g)
    is = step_is n State g on.placed on.below

    at : (x : Assignment) → applied g v (first_values n x) ≡ stepped (step_for n State g) (by_values n v) x
    at x =
        let y = first_values n x in
        let len = length-first_values n x in
        applied-same g v (at_lists V) y (λ z long. value_of n v z (long ∙ len))
        ∙ sym (on_state g (at_lists V) y) ∙ is.applied_is V y len
        ∙ sym (at_list n (stepped s V) x (stepped-reads n s V is.within (reads_values n v)))
