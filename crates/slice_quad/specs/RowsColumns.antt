-- Matrices over variables in turns: of qubit q, variable 2q is the row's bit and variable 2q + 1 the column's.
use Rattle.std.specs.Prelude.{◌≡◌, ℕ, zero, suc, true, ◌&&◌}
use Rattle.diagram_model.specs.Functions.{Function}
use Rattle.diagram_model.specs.Size.{same_bool}
use Rattle.diagram_model.specs.Stores.{Diagram, function_of}
use Rattle.slice_quad.specs.declared.quad.SliceQuad.{SliceQuad}

-- whether, of each of n qubits, the row's bit is the column's
unfoldable pub row_equals_column : ℕ → Function
row_equals_column zero x = true
row_equals_column (suc n) x = same_bool (x 0) (x 1) && row_equals_column n (λ v. x (suc (suc v)))

-- the kept function is "row equals column" on n qubits
abbrev pub KeepsRowEqualsColumn : ℕ → Diagram → SliceQuad → Type 0
KeepsRowEqualsColumn n d q = function_of d q.kept.0 ≡ row_equals_column n
