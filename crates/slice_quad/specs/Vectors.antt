-- The vector that four integers stand for.
use Rattle.std.specs.Prelude.{◌≡◌, ℕ}
use Rattle.diagram_model.specs.Stores.{Diagram, IsLive}
use Rattle.diagram_model.specs.Functions.{Assignment}
use Rattle.ring_omega.specs.Ring.{quad}
use Rattle.slice_vec.specs.Slices.{StandsIn, IsWithin, value_at}
use Rattle.slice_quad.specs.declared.coord.Coord.{Coord}
use Rattle.slice_quad.specs.declared.four.Four.{Four}
use Rattle.slice_quad.specs.declared.quad.SliceQuad.{SliceQuad}
use Rattle.slice_quad.specs.Turns.{coordinate}
use Rattle.slice_quad.specs.Mix.{Vector}
use Rattle.slice_quad.specs.Fours.{nodes_of}

-- the quadruple at each assignment
abbrev pub vector_in : Diagram → Four → Vector
vector_in d q x = quad (value_at d q.a x) (value_at d q.b x) (value_at d q.c x) (value_at d q.d x)

-- the four stand for the vector
pub record AreValues (d : Diagram) (v : Vector) (f : Four) : Type 0 where
  pub stands : (z : Coord) → StandsIn d (nodes_of f z)
  pub values : (z : Coord) (x : Assignment) → value_at d (nodes_of f z) x ≡ coordinate z (v x)

-- all nodes of the vector or matrix are live
pub record Stands (d : Diagram) (q : SliceQuad) : Type 0 where
  pub integers : (z : Coord) → StandsIn d (nodes_of q.four z)
  pub kept : IsLive d q.kept.0

-- each coefficient is a signed number of w bits
abbrev pub FitsWidth : ℕ → Vector → Type 0
FitsWidth w v = (z : Coord) (x : Assignment) → IsWithin w (coordinate z (v x))
