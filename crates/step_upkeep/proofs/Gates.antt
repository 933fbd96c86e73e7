-- The working vector that the integers of a state are.
use Rattle.std.proofs.Common.{◌≡◌, ℕ, ◌+◌, length, sym, ◌∙◌, ap, subst}
use mathlib.Core.Path.{fun_ext}
use Rattle.circuit_model.specs.Working.{Scaled, step as next}
use Rattle.gate_set.specs.declared.gate.Gate.{Gate}
use Rattle.diagram_model.specs.Functions.{bit}
use Rattle.diagram_model.specs.Stores.{Diagram, IsSound}
use Rattle.diagram_ops.specs.Diagrams.{StoreAndCache}
use Rattle.slice_quad.specs.declared.four.Four.{Four}
use Rattle.slice_quad.specs.declared.kind.Step.{Step}
use Rattle.slice_quad.specs.declared.quad.SliceQuad.{SliceQuad}
use Rattle.slice_quad.specs.Mix.{Vector}
use Rattle.slice_quad.specs.Settled.{IsSettled}
use Rattle.slice_quad.specs.Stepping.{stepped, half_of}
use Rattle.slice_quad.specs.Vectors.{vector_in}
use Rattle.slice_gates.specs.declared.side.Side.TheVariants.{State}
use Rattle.slice_gates.specs.Shown.{first_values, ReadsBelow, IsShown, Shows, by_values}
use Rattle.slice_gates.specs.Stepped.{IsStepOf}
use Rattle.slice_gates.proofs.Agreeing.{length-first_values, at_list, vector-reads}
use Rattle.slice_gates.proofs.Shown.{step_shown}
use Rattle.step_upkeep.specs.Upkept.{KeepsQuad}

-- the four's vector, by the values of the variables
pub shown_vector : (n : ℕ) (d : Diagram) (f : Four) (k : ℕ) (w : Scaled) → IsSound d → length d.order ≡ n → IsShown n d f k w → by_values n w.entries ≡ vector_in d f
unfolding by_values
shown_vector n d f k w sound size shown =
    let reads : ReadsBelow n (vector_in d f) = subst (λ i. ReadsBelow i (vector_in d f)) size (vector-reads d f sound) in
    fun_ext (λ x. shown.entries (first_values n x) (length-first_values n x) ∙ sym (at_list n (vector_in d f) x reads))

-- the working vector stays where the four's vector stays
pub shows_kept : (u v : StoreAndCache) (q : SliceQuad) (w : Scaled) → KeepsQuad u q v → Shows u.store q w → Shows v.store q w
shows_kept u v q w k h =
    let size = k.variables in
    record { exponent = h.exponent; entries = λ x len. h.entries x (len ∙ size) ∙ ap (λ (f : Vector). f (bit x)) (sym k.vector) }

-- after the step they are the working vector of one gate more, whatever the order
pub gate_shown : (d e : Diagram) (q r : SliceQuad) (w : Scaled) (g : Gate) (s : Step) → Shows d q w → IsStepOf (length d.order) State g s → IsSound e → length e.order ≡ length d.order
    → IsSettled e (stepped s (vector_in d q.four)) (q.exponent + half_of s) r.four r.exponent → Shows e r (next (length d.order) w g)
gate_shown d e q r w g s shown is sound long settled =
    subst (λ n. IsShown n e r.four r.exponent (next (length d.order) w g)) (sym long) (step_shown (length d.order) d q.four q.exponent w g s e r.four r.exponent shown is sound long settled)
