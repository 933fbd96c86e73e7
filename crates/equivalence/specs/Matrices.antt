-- The matrix that four integers over a decision diagram's variables stand for. Its row and its column stand for the variables in turns:
-- the row's bit of a qubit, and then the column's.
use Rattle.diagram_model.specs.Stores.{Diagram}
use Rattle.comparison.specs.Scalars.{Matrix}
use Rattle.slice_quad.specs.declared.quad.SliceQuad.{SliceQuad}
use Rattle.slice_quad.specs.Walks.{entries_in}
use Rattle.slice_gates.specs.Sides.{woven}

-- the entry at a row and a column, over √2 to the power of the exponent
abbrev pub matrix_in : Diagram → SliceQuad → Matrix
matrix_in d q r c = entries_in d q.four (woven r c)
