-- Where row equals column, by lists.
use Rattle.std.proofs.Common.{◌≡◌, ℕ, zero, suc, ◌+◌, Bool, true, false, List, [], ◌∷◌, length, refl, arith}
use Rattle.circuit_model.specs.Product.{same_bits}
use Rattle.diagram_model.specs.Functions.{bit}
use Rattle.slice_quad.specs.RowsColumns.{row_equals_column}
use Rattle.slice_gates.specs.Sides.{woven}

pub woven_diagonal : (n : ℕ) (r c : List Bool) → length r ≡ n → length c ≡ n → row_equals_column n (bit (woven r c)) ≡ same_bits r c
unfolding row_equals_column
woven_diagonal zero [] [] er ec = refl
woven_diagonal zero (a ∷ r) c er ec = absurd (omega arith)
woven_diagonal zero [] (b ∷ c) er ec = absurd (omega arith)
woven_diagonal (suc n) [] c er ec = absurd (omega arith)
woven_diagonal (suc n) (a ∷ r) [] er ec = absurd (omega arith)
woven_diagonal (suc n) (true ∷ r) (true ∷ c) er ec = woven_diagonal n r c (omega arith) (omega arith)
woven_diagonal (suc n) (false ∷ r) (false ∷ c) er ec = woven_diagonal n r c (omega arith) (omega arith)
woven_diagonal (suc n) (true ∷ r) (false ∷ c) er ec = refl
woven_diagonal (suc n) (false ∷ r) (true ∷ c) er ec = refl
