-- A step on a matrix's rows or columns.
use Rattle.std.proofs.Common.{◌≡◌, ℕ, ◌*◌, Bool, List, length, sym, ◌∙◌, ap}
use Rattle.gate_set.specs.declared.gate.Gate.{Gate}
use Rattle.diagram_model.specs.Functions.{bit}
use Rattle.slice_quad.specs.Mix.{Vector}
use Rattle.slice_gates.specs.declared.side.Side.TheVariants.{Rows, Columns}
use Rattle.slice_quad.specs.declared.kind.Step.{Step}
use Rattle.slice_gates.specs.Shown.{at_lists}
use Rattle.slice_gates.specs.Sides.{woven, by_woven, left_product, right_product}
use Rattle.slice_quad.specs.Stepping.{stepped}
use Rattle.slice_gates.specs.Stepped.{IsStepOf}
use Rattle.slice_gates.proofs.Weaving.{on_rows, on_columns}
use Rattle.slice_gates.proofs.Moved.{length-woven}

pub left_stepped : (n : ℕ) (g : Gate) (s : Step) (v : Vector) (r c : List Bool) → IsStepOf (2 * n) Rows g s → length r ≡ n → length c ≡ n
    → left_product g (by_woven (at_lists v)) r c ≡ stepped s v (bit (woven r c))
left_stepped n g s v r c is er ec =
    sym (on_rows g (at_lists v) r c (er ∙ sym ec)) ∙ is.applied_is v (woven r c) (length-woven r c (er ∙ sym ec) ∙ ap (λ i. 2 * i) er)

pub right_stepped : (n : ℕ) (g : Gate) (s : Step) (v : Vector) (r c : List Bool) → IsStepOf (2 * n) Columns g s → length r ≡ n → length c ≡ n
    → right_product g (by_woven (at_lists v)) r c ≡ stepped s v (bit (woven r c))
right_stepped n g s v r c is er ec =
    sym (on_columns g (at_lists v) r c (er ∙ sym ec)) ∙ is.applied_is v (woven r c) (length-woven r c (er ∙ sym ec) ∙ ap (λ i. 2 * i) er)
