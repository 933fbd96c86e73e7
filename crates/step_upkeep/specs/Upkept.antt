-- What upkeep, and a step with upkeep, keep of a vector or matrix, and what a refusal says.
use Rattle.std.specs.Prelude.{◌≡◌, ◌≤◌, List, length, map}
use Rattle.diagram_model.specs.Functions.{Function}
use Rattle.diagram_model.specs.Size.{size}
use Rattle.diagram_model.specs.Stores.{Diagram, function_of}
use Rattle.diagram_ops.specs.Diagrams.{StoreAndCache, IsConsistent}
use Rattle.diagram_ops.specs.Made.{Property, IsPrefixOfSome}
use Rattle.slice_quad.specs.declared.kind.Step.{Step}
use Rattle.slice_quad.specs.declared.quad.SliceQuad.{SliceQuad}
use Rattle.slice_quad.specs.declared.stop.QuadStop.{QuadStop}
use Rattle.slice_quad.specs.declared.stop.QuadStop.TheVariants as quads
use Rattle.slice_quad.specs.Fields.{roots_of}
use Rattle.slice_quad.specs.Stepping.{work_functions}
use Rattle.slice_quad.specs.Vectors.{vector_in, Stands}

-- the vector or matrix q stands in the diagrams as before, over as many variables, whatever nodes they lost or got and in whatever order
pub record KeepsQuad (old : StoreAndCache) (q : SliceQuad) (new : StoreAndCache) : Type 0 where
  pub sound : IsConsistent new
  pub variables : length new.store.order ≡ length old.store.order
  pub limit : new.store.limit ≡ old.store.limit
  pub capacity : new.cache.capacity ≡ old.cache.capacity
  pub stands : Stands new.store q
  pub vector : vector_in new.store q.four ≡ vector_in old.store q.four
  pub function : function_of new.store q.kept.0 ≡ function_of old.store q.kept.0

-- the functions of its bits and of the kept node
abbrev pub functions_in : Diagram → SliceQuad → List Function
functions_in d q = map (function_of d) (roots_of q)

-- a function that arises from one of these, by fixing a prefix of the order
abbrev pub InQuad : Diagram → SliceQuad → Property
InQuad d q = IsPrefixOfSome d.order (functions_in d q)

-- the work functions of a step on it
abbrev pub work_in : Diagram → Step → SliceQuad → List Function
work_in d s q = work_functions (length q.four.a) (function_of d q.kept.0) s (vector_in d q.four)

-- where there were too few nodes: in the order in force the functions alone need at least as many as may be held
abbrev pub NeedsNodes : Diagram → List Function → QuadStop → Type 0
NeedsNodes d fs quads.Width = Unit {0}
NeedsNodes d fs (quads.Full held) = (held ≡ d.limit) × (d.limit ≤ size (length d.order) d.order fs)
NeedsNodes d fs quads.OutOfMemory = Unit {0}
