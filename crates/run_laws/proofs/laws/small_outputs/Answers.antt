use Rattle.std.proofs.Common.{refl}
use Rattle.std.specs.Fmt.{digits}
use Rattle.ring_omega.specs.Ring.{sum_of, product_of, is_zero}
use Rattle.ring_omega.specs.Lowest.{is_divisible, quotient, lowest_form}
use Rattle.gate_set.specs.Matrix.{matrix_of, entry_of, controlled_entry}
use Rattle.circuit_model.specs.Product.{applied, amp}
use Rattle.amp_printer.specs.Texts.{entry_text, state_line, count_line}
use Rattle.circuit_model.specs.Working.{work, halved, all_even, is_even_quad, half_quad}
use Rattle.outputs.specs.Listing.{vector_output}
use Rattle.outputs.specs.Summary.{summary_output}
use Rattle.amp_printer.specs.Texts.{weight_line, fidelity_text}
use Rattle.comparison.specs.Products.{right_product, work_matrix}
use Rattle.ring_omega.specs.Weights.{weight_of, lowest_weight_form}
use Rattle.run_laws.proofs.laws.small_outputs.Goals as goal

pub returns-clause-bell_pair : goal.returns-clause-bell_pair
unfolding vector_output entry_text state_line count_line applied amp matrix_of entry_of controlled_entry sum_of product_of is_zero is_divisible quotient lowest_form digits
returns-clause-bell_pair c = refl

pub returns-clause-no_gates : goal.returns-clause-no_gates
unfolding vector_output entry_text state_line count_line applied amp matrix_of entry_of controlled_entry sum_of product_of is_zero is_divisible quotient lowest_form digits
returns-clause-no_gates c = refl

pub returns-clause-h_twice : goal.returns-clause-h_twice
unfolding vector_output entry_text state_line count_line applied amp matrix_of entry_of controlled_entry sum_of product_of is_zero is_divisible quotient lowest_form digits
returns-clause-h_twice c = refl

pub returns-clause-h_t_h : goal.returns-clause-h_t_h
unfolding vector_output entry_text state_line count_line applied amp matrix_of entry_of controlled_entry sum_of product_of is_zero is_divisible quotient lowest_form digits
returns-clause-h_t_h c = refl

pub returns-clause-summary : goal.returns-clause-summary
unfolding summary_output entry_text state_line count_line applied work halved all_even is_even_quad half_quad matrix_of entry_of controlled_entry sum_of product_of is_zero is_divisible quotient lowest_form digits
returns-clause-summary c = refl

pub returns-clause-overlap : goal.returns-clause-overlap
unfolding fidelity_text weight_line work_matrix right_product applied halved all_even is_even_quad half_quad matrix_of entry_of controlled_entry sum_of product_of is_zero weight_of lowest_weight_form digits
returns-clause-overlap c = refl
