-- Words that only the clauses of private functions cite: the rows of the table of gates.
use Rattle.std.specs.Prelude.{ℕ, zero, suc, List, [], get_or}
use Rattle.gate_set.specs.declared.entry.Entry.{Entry}
use Rattle.gate_set.specs.declared.entry.Entry.TheVariants.{Zero}
use Rattle.gate_set.specs.declared.table.Block.{Block}
use Rattle.gate_set.specs.declared.table.Block.TheVariants.{One, Exchange}
use Rattle.gate_set.specs.Matrix.{two_by_two, exchange, controlled}

-- how many qubits the block is on
abbrev pub block_arity : Block → ℕ
block_arity (One a b c d) = 1
block_arity Exchange = 2

abbrev pub block_matrix : Block → List (List Entry)
block_matrix (One a b c d) = two_by_two a b c d
block_matrix Exchange = exchange

-- the matrix with n controls before its qubits
abbrev pub controlled_by : ℕ → List (List Entry) → List (List Entry)
controlled_by zero m = m
controlled_by (suc n) m = controlled (controlled_by n m)

-- the entry in this row and column, and zero outside the matrix
abbrev pub entry_at : List (List Entry) → ℕ → ℕ → Entry
entry_at m row col = get_or (get_or m row []) col Zero
