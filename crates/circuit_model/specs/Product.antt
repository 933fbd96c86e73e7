-- The product of the gates' matrices, applied to a basis state. A vector is a function of bit lists, with qubit 0 first. Source: the
-- textbook product of matrices, each gate's matrix standing on its qubits, further controls among them, and the identity on the others.
use Rattle.std.specs.Prelude.{ℕ, Bool, true, false, List, [], ◌∷◌, length, fold, sum_by, cond}
use Rattle.ring_omega.specs.declared.quad.Quad.{Quad}
use Rattle.ring_omega.specs.Ring.{zero_quad, one_quad, sum_of}
use Rattle.bit_lists.specs.Lists.{all_lists, place_of, bits_at, with_bits}
use Rattle.gate_set.specs.declared.entry.Entry.{Entry}
use Rattle.gate_set.specs.declared.gate.Gate.{Gate}
use Rattle.gate_set.specs.Matrix.{times_entry, half_power_of}
use Rattle.gate_set.specs.Shape.{qubits_of, gate_entry}

-- the sum of f over these lists
abbrev pub sum_over : List (List Bool) → (List Bool → Quad) → Quad
sum_over [] f = zero_quad
sum_over (y ∷ ys) f = sum_of (f y) (sum_over ys f)

-- the matrix of these entries on these qubits, times the vector v: at x the sum over all values y of the qubits
abbrev pub entries_product : (ℕ → ℕ → Entry) → List ℕ → (List Bool → Quad) → List Bool → Quad
entries_product e on v x = sum_over (all_lists (length on)) (λ y. times_entry (e (place_of (bits_at x on)) (place_of y)) (v (with_bits x on y)))

-- the gate's matrix times the vector, on its further controls and its kind's qubits
unfoldable pub applied : Gate → (List Bool → Quad) → List Bool → Quad
applied g v x = entries_product (gate_entry g) (qubits_of g) v x

abbrev pub same_bits : List Bool → List Bool → Bool
same_bits [] [] = true
same_bits (true ∷ x) (true ∷ y) = same_bits x y
same_bits (false ∷ x) (false ∷ y) = same_bits x y
same_bits _ _ = false

-- 1 at the input, 0 elsewhere
abbrev pub basis_state : List Bool → List Bool → Quad
basis_state input x = cond (same_bits x input) one_quad zero_quad

-- the entry at x of the product, the first gate applied first, on the basis state `input`. The amplitude is this over the power `exponent` of √2.
unfoldable pub amp : List Gate → List Bool → List Bool → Quad
amp gates input = fold (λ v g. applied g v) (basis_state input) gates

-- how many factors 1/√2 the gates' matrices have together
abbrev pub exponent : List Gate → ℕ
exponent gates = sum_by (λ (g : Gate). half_power_of g.kind) gates
