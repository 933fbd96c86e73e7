-- Listings: a line for each list of n bits in order, but for those that are left out; and the lines of a vector.
use Rattle.std.specs.Prelude.{ℕ, Bool, not, cond, List, [], ◌++◌, flat_map, count_by}
use Rattle.ring_omega.specs.Ring.{is_zero}
use Rattle.bit_lists.specs.Lists.{all_lists}
use Rattle.circuit_model.specs.Working.{Scaled}
use Rattle.amp_printer.specs.declared.counted.Counted.TheVariants.{Qubits, States}
use Rattle.amp_printer.specs.Texts.{lowest_line, count_line}

-- the lines of those that are not left out, one after another
abbrev pub listing_of : ℕ → (List Bool → Bool) → (List Bool → List ℕ) → List ℕ
listing_of n left_out line = flat_map (λ x. cond (left_out x) [] (line x)) (all_lists n)

-- how many have one
abbrev pub number_listed : ℕ → (List Bool → Bool) → ℕ
number_listed n left_out = count_by (λ x. not (left_out x)) (all_lists n)

-- whether the entry of a basis state is zero
abbrev pub has_no_entry : Scaled → List Bool → Bool
has_no_entry v x = is_zero (v.entries x)

-- the line of a basis state with the lowest form of its amplitude
abbrev pub entry_line : Scaled → List Bool → List ℕ
entry_line v x = lowest_line x (v.entries x) v.exponent

-- what is written of a vector on n qubits
unfoldable pub vector_output : ℕ → Scaled → List ℕ
vector_output n v = count_line Qubits n ++ listing_of n (has_no_entry v) (entry_line v) ++ count_line States (number_listed n (has_no_entry v))
