-- The identity matrix, over variables for rows and columns in turns.
use Rattle.std.specs.Prelude.{◌≡◌, ℕ, ◌*◌, cond, length}
use Rattle.diagram_model.specs.Functions.{Assignment}
use Rattle.diagram_model.specs.Stores.{Diagram, held}
use Rattle.ring_omega.specs.Ring.{zero_quad, one_quad}
use Rattle.slice_quad.specs.declared.quad.SliceQuad.{SliceQuad}
use Rattle.slice_quad.specs.RowsColumns.{row_equals_column, KeepsRowEqualsColumn}
use Rattle.slice_quad.specs.Vectors.{vector_in, Stands}

-- q is 1 where row equals column and 0 elsewhere, over no root, and three nodes a qubit are held
pub record IsIdentity (e : Diagram) (n : ℕ) (q : SliceQuad) : Type 0 where
  pub stands : Stands e q
  pub width : length q.four.a ≡ 2
  pub entries : (x : Assignment) → vector_in e q.four x ≡ cond (row_equals_column n x) one_quad zero_quad
  pub exponent : q.exponent ≡ 0
  pub kept : KeepsRowEqualsColumn n e q
  pub held : held e ≡ 3 * n
