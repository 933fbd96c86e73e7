-- Words of private functions: what one step leaves, and what a step leaves that is tried once more after a reclaim.
use Rattle.std.specs.Prelude.{◌≡◌, ℕ, ◌+◌, ◌≤◌, Bool, true, false, length, Result, Ok, Err, IfErr, OnOk, OnErr}
use Rattle.diagram_ops.specs.Diagrams.{StoreAndCache}
use Rattle.node_reclaim.specs.Reclaims.{HoldsOnly}
use Rattle.slice_vec.specs.Growing.{Grows}
use Rattle.slice_quad.specs.declared.kind.Step.{Step}
use Rattle.slice_quad.specs.declared.quad.SliceQuad.{SliceQuad}
use Rattle.slice_quad.specs.declared.stop.QuadStop.{QuadStop}
use Rattle.slice_quad.specs.declared.stop.QuadStop.TheVariants as quads
use Rattle.slice_quad.specs.Settled.{IsSettled}
use Rattle.slice_quad.specs.Stepping.{stepped, half_of, IsWork}
use Rattle.slice_quad.specs.Stops.{OnWidth, QuadStopIs}
use Rattle.slice_quad.specs.Vectors.{vector_in, FitsWidth, Stands}
use Rattle.step_upkeep.specs.Upkept.{KeepsQuad, NeedsNodes, work_in}

-- whether there were too few nodes
abbrev pub is_full : Result (Unit {0}) QuadStop → Bool
is_full (Ok x) = false
is_full (Err quads.Width) = false
is_full (Err (quads.Full held)) = true
is_full (Err quads.OutOfMemory) = false

-- the vector or matrix stands as before, in the same order
pub record IsStill (old : StoreAndCache) (q : SliceQuad) (new : StoreAndCache) : Type 0 where
  pub keeps : KeepsQuad old q new
  pub order : new.store.order ≡ old.store.order

-- what the step's answer says of the vector or matrix: q before and r after
pub record IsAnswer (old new : StoreAndCache) (s : Step) (q r : SliceQuad) (w : ℕ) (answer : Result (Unit {0}) QuadStop) : Type 0 where
  pub settled : OnOk answer (IsSettled new.store (stepped s (vector_in old.store q.four)) (q.exponent + half_of s) r.four r.exponent)
  pub fits : OnOk answer (FitsWidth w (stepped s (vector_in old.store q.four)))
  pub narrow : OnOk answer (length r.four.a ≤ w)
  pub unfit : IfErr answer (OnWidth (¬ FitsWidth w (stepped s (vector_in old.store q.four))))
  pub refused : OnErr answer (r ≡ q)
  pub kept : r.kept ≡ q.kept
  pub stands : Stands new.store r

-- the step was tried once
pub record IsStepped (old new : StoreAndCache) (s : Step) (q r : SliceQuad) (w : ℕ) (answer : Result (Unit {0}) QuadStop) : Type 0 where
  pub told : IsAnswer old new s q r w answer
  pub full : IfErr answer (QuadStopIs new.store (IsWork old.store s q))
  pub grows : Grows old (IsWork old.store s q) new

-- the step was tried once, and once more after a reclaim where there were too few nodes
pub record IsTried (old new : StoreAndCache) (s : Step) (q r : SliceQuad) (w : ℕ) (answer : Result (Unit {0}) QuadStop) : Type 0 where
  pub told : IsAnswer old new s q r w answer
  pub full : IfErr answer (NeedsNodes new.store (work_in old.store s q))
  pub still : IsStill old q new
  pub holds : HoldsOnly old.store (IsWork old.store s q) → HoldsOnly new.store (IsWork old.store s q)
