-- How many nodes small circuits need.
use Rattle.std.proofs.Common.{◌≡◌, ℕ, ◌<◌, List, [], ◌∷◌, false, refl, sym, ◌∙◌, ap, subst, arith}
use Rattle.gate_set.specs.declared.gate.Gate.{Gate}
use Rattle.gate_set.specs.declared.kind.Kind.TheVariants.{H, Cx}
use Rattle.gate_set.specs.Matrix.{matrix_of, entry_of, controlled_entry}
use Rattle.ring_omega.specs.Ring.{sum_of, product_of, is_zero}
use Rattle.circuit_model.specs.Product.{applied}
use Rattle.circuit_model.specs.Working.{work, halved, all_even, is_even_quad, half_quad}
use Rattle.diagram_model.specs.Size.{truths, same_truths, fix_both, size}
use Rattle.slice_vec.specs.Digits.{low_sum, slice_value, majority, odd, xor_of, and_of, less, carry, sum, flipped, one_carry, negated, choice, chosen, fixed, turned, shifted, from_bit}
use Rattle.slice_vec.specs.Slices.{first_bits}
use Rattle.slice_quad.specs.Bits.{int_bit, bits_of}
use Rattle.slice_quad.specs.Mix.{all_true, mixed, vector_of, zero_digits, entry_digits, entry_negates, from_row, from_target, old_part, term, negates, signed_term, raw}
use Rattle.slice_quad.specs.Turns.{turn}
use Rattle.slice_quad.specs.Work.{conjunctions, gate_functions, term_functions, coordinate_functions, mix_functions}
use Rattle.slice_quad.specs.Stepping.{step_functions, work_functions}
use Rattle.slice_gates.specs.Stepped.{controls_for}
use Rattle.slice_gates.specs.Shown.{first_values, by_values}
use Rattle.amp_dense.specs.Rules.{Settings}
use Rattle.amp_dense.specs.Standing.{Standing, in_order, with_gate, Accepts}
use Rattle.step_upkeep.specs.Chains.{needed, work_of}
use Rattle.state_update.specs.Kept.{sliced_policy, vector_chain}
use Rattle.sliq_engine.specs.Steps.{zeros}
use Rattle.run_laws.specs.Laws.{HasNodes, GatesHaveNodes}

-- H on the first of two qubits, and then a controlled X
abbrev rules : Settings
rules = record { width = 2; nodes = 64; cache = 1; reclaim = 0; sift = 0 }

abbrev h : Gate
h = record { kind = H; on = 0 ∷ []; extra = [] }

abbrev cx : Gate
cx = record { kind = Cx; on = 0 ∷ 1 ∷ []; extra = [] }

abbrev start : Standing
start = record { input = false ∷ false ∷ []; rules = rules; gates = []; order = 0 ∷ 1 ∷ [] }

abbrev after : Standing
after = record { input = false ∷ false ∷ []; rules = rules; gates = h ∷ []; order = 0 ∷ 1 ∷ [] }

count_h : needed start (work_of vector_chain start h) ≡ 4
unfolding turn matrix_of entry_of controlled_entry sum_of product_of is_zero applied work halved all_even is_even_quad half_quad truths same_truths fix_both size low_sum slice_value majority odd xor_of and_of less carry sum flipped one_carry negated choice chosen fixed turned shifted from_bit first_bits int_bit bits_of all_true mixed vector_of zero_digits entry_digits entry_negates from_row from_target old_part term negates signed_term raw conjunctions gate_functions term_functions coordinate_functions mix_functions step_functions work_functions controls_for first_values by_values
count_h = refl

count_cx : needed after (work_of vector_chain after cx) ≡ 4
unfolding turn matrix_of entry_of controlled_entry sum_of product_of is_zero applied work halved all_even is_even_quad half_quad truths same_truths fix_both size low_sum slice_value majority odd xor_of and_of less carry sum flipped one_carry negated choice chosen fixed turned shifted from_bit first_bits int_bit bits_of all_true mixed vector_of zero_digits entry_digits entry_negates from_row from_target old_part term negates signed_term raw conjunctions gate_functions term_functions coordinate_functions mix_functions step_functions work_functions controls_for first_values by_values
count_cx = refl

-- no sift is due
first : HasNodes vector_chain start h
first order is = subst (λ (o : List ℕ). needed (in_order start o) (work_of vector_chain start h) < 64) (sym (is.same refl)) (let few = count_h in omega (arith, few))

then : HasNodes vector_chain after cx
then order is = subst (λ (o : List ℕ). needed (in_order after o) (work_of vector_chain after cx) < 64) (sym (is.same refl)) (let few = count_cx in omega (arith, few))

comes_after : (t : Standing) → Accepts sliced_policy start h t → t ≡ after
comes_after t a = a.same ∙ ap (λ (o : List ℕ). with_gate (in_order start o) h) (a.order.same refl)

pub bell_pair : GatesHaveNodes (record { width = 2; nodes = 64; cache = 1; reclaim = 0; sift = 0 }) (zeros 2) (record { kind = H; on = 0 ∷ []; extra = [] } ∷ record { kind = Cx; on = 0 ∷ 1 ∷ []; extra = [] } ∷ [])
bell_pair = (first, λ t a. (subst (λ s. HasNodes vector_chain s cx) (sym (comes_after t a)) then, λ u b. tt))
