-- A call that gives an integer for a coordinate, and may be made for each of the four, one after another.
use Rattle.std.specs.Prelude.{◌≡◌, ℕ, List}
use Rattle.diagram_model.specs.Functions.{Function}
use Rattle.diagram_model.specs.Stores.{Diagram}
use Rattle.diagram_ops.specs.Diagrams.{StoreAndCache, IsConsistent}
use Rattle.diagram_ops.specs.Made.{Property, IsPrefixOfSome}
use Rattle.slice_vec.specs.Growing.{Grows}
use Rattle.slice_quad.specs.declared.coord.Coord.{Coord}
use Rattle.slice_quad.specs.declared.four.Four.{Four}
use Rattle.slice_quad.specs.Fours.{nodes_of}

-- what a call asks of the diagram that it finds
abbrev pub Takes : Type 1
Takes = Diagram → Type 0

-- the functions for which a call makes nodes, by the diagram that it finds
abbrev pub Functions : Type 0
Functions = Diagram → List Function

-- what a call says of the nodes that it gives for a coordinate: by the diagrams that it finds and leaves
abbrev pub Gives : Type 1
Gives = Diagram → Coord → Diagram → List ℕ → Type 0

-- a function that arises from one of those, by fixing a prefix of the order
abbrev pub Among : Functions → Diagram → Property
Among fs d = IsPrefixOfSome d.order (fs d)

-- a call that finds what another one left makes nodes for the same functions and gives what it would have given before, and what was
-- given stays so
pub record IsRepeatable (takes : Takes) (fs : Functions) (gives : Gives) : Type 0 where
  pub again : (u v : StoreAndCache) → IsConsistent u → Grows u (Among fs u.store) v → takes u.store → takes v.store
  pub same : (u v : StoreAndCache) → IsConsistent u → Grows u (Among fs u.store) v → takes u.store → fs v.store ≡ fs u.store
  pub earlier : (u v w : StoreAndCache) (z : Coord) (ns : List ℕ) → IsConsistent u → Grows u (Among fs u.store) v → takes u.store → gives v.store z w.store ns → gives u.store z w.store ns
  pub later : (u v w : StoreAndCache) (z : Coord) (ns : List ℕ) → IsConsistent v → Grows v (Among fs v.store) w → gives u.store z v.store ns → gives u.store z w.store ns

-- all four are given
abbrev pub AreGiven : Gives → Diagram → Diagram → Four → Type 0
AreGiven gives u w f = (z : Coord) → gives u z w (nodes_of f z)
