-- The summary of a vector.
use Rattle.std.specs.Prelude.{ℕ, ◌-◌, Bool, not, List, [], ◌++◌, length, filter, slice_get, codes, Option, Some, None}
use Rattle.bit_lists.specs.Lists.{all_lists}
use Rattle.circuit_model.specs.Working.{Scaled}
use Rattle.amp_printer.specs.declared.counted.Counted.TheVariants.{Qubits, Gates, Exponent, States}
use Rattle.amp_printer.specs.Texts.{count_line}
use Rattle.outputs.specs.Listing.{number_listed, has_no_entry, entry_line}

-- the basis states of n qubits whose amplitude isn't zero, in their order
abbrev pub shown : ℕ → Scaled → List (List Bool)
shown n v = filter (λ x. not (has_no_entry v x)) (all_lists n)

-- a label and the line of a basis state, if there is one
abbrev pub labelled : List ℕ → Scaled → Option (List Bool) → List ℕ
labelled label w None = []
labelled label w (Some x) = label ++ entry_line w x

-- what is written of a working vector on n qubits after so many gates: four numbers, and the first and the last of its basis states
unfoldable pub summary_output : ℕ → ℕ → Scaled → List ℕ
summary_output n count w =
    count_line Qubits n ++ count_line Gates count ++ count_line Exponent w.exponent ++ count_line States (number_listed n (has_no_entry w))
    ++ labelled (codes "first ") w (slice_get (shown n w) 0) ++ labelled (codes "last ") w (slice_get (shown n w) (length (shown n w) - 1))
