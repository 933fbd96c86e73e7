-- Outcomes of a measurement, and what is written of them.
use Rattle.std.specs.Prelude.{ℕ, Bool, List, ◌++◌}
use Rattle.ring_omega.specs.declared.weight.Weight.{Weight}
use Rattle.ring_omega.specs.Weights.{lowest_weight_form}
use Rattle.circuit_model.specs.Working.{Scaled}
use Rattle.amp_printer.specs.declared.counted.Counted.TheVariants.{Measured, Outcomes}
use Rattle.amp_printer.specs.Texts.{weight_line, count_line}
use Rattle.probabilities.specs.Outcomes.{measured_count, outcome_weight, is_zero_weight}
use Rattle.outputs.specs.Listing.{listing_of, number_listed}

-- whether an outcome of the measured qubits has the weight zero
abbrev pub has_no_weight : List Bool → Scaled → List Bool → Bool
has_no_weight measured v y = is_zero_weight (outcome_weight measured v.entries y)

-- the line of an outcome of this weight over the k-th power of 2, in the weight's lowest form
abbrev pub lowest_weight_line : Weight → ℕ → List Bool → List ℕ
lowest_weight_line w k y = weight_line y (lowest_weight_form w k).0 (lowest_weight_form w k).1

-- the line of an outcome
abbrev pub outcome_line : List Bool → Scaled → List Bool → List ℕ
outcome_line measured v y = lowest_weight_line (outcome_weight measured v.entries y) v.exponent y

-- what is written of a vector of which these qubits are measured
unfoldable pub outcomes_output : List Bool → Scaled → List ℕ
outcomes_output measured v =
    let n = measured_count measured in
    count_line Measured n ++ listing_of n (has_no_weight measured v) (outcome_line measured v) ++ count_line Outcomes (number_listed n (has_no_weight measured v))
