-- What a step with upkeep does, and what its stop says.
use Rattle.std.specs.Prelude.{◌≡◌, ◌≤◌, ℕ, ◌+◌, true, false, List, length, Result, Err, IfErr, OnOk, OnErr}
use Rattle.amp_dense.specs.Rules.{Settings}
use Rattle.amp_dense.specs.declared.stop.Stop.{Stop}
use Rattle.amp_dense.specs.declared.stop.Stop.TheVariants.{Width, Nodes, OutOfMemory}
use Rattle.diagram_model.specs.Size.{size}
use Rattle.diagram_model.specs.Stores.{Diagram}
use Rattle.diagram_ops.specs.Diagrams.{StoreAndCache}
use Rattle.node_reclaim.specs.Reclaims.{HoldsOnly}
use Rattle.slice_quad.specs.declared.kind.Step.{Step}
use Rattle.slice_quad.specs.declared.quad.SliceQuad.{SliceQuad}
use Rattle.slice_quad.specs.declared.stop.QuadStop.{QuadStop}
use Rattle.slice_quad.specs.declared.stop.QuadStop.TheVariants as quads
use Rattle.slice_quad.specs.Settled.{IsSettled}
use Rattle.slice_quad.specs.Stepping.{stepped, half_of, IsWork}
use Rattle.slice_quad.specs.Vectors.{vector_in, FitsWidth, Stands}
use Rattle.step_upkeep.specs.Due.{is_due, IsInForce, IsLeft}
use Rattle.step_upkeep.specs.Upkept.{KeepsQuad, functions_in, work_in}

-- the stop of the step of this number, in this order
abbrev pub stop_of : QuadStop → ℕ → List ℕ → Stop
stop_of quads.Width number order = Width number
stop_of (quads.Full held) number order = Nodes number order held
stop_of quads.OutOfMemory number order = OutOfMemory

-- the order after the answer to a step, which comes after so many
abbrev pub Reorders : ℕ → ℕ → Diagram → SliceQuad → Result (Unit {0}) Stop → List ℕ → Type 0
Reorders sift accepted d q (Err OutOfMemory) new = IsLeft sift accepted d.order new
Reorders sift accepted d q _ new = IsInForce sift accepted (functions_in d q) d.limit d.order new

-- what a stop says: raw doesn't fit the width; or in the order in force the work functions alone need at least as many nodes as may be held
abbrev pub IsStopOf : Settings → ℕ → Diagram → Diagram → Step → SliceQuad → Stop → Type 0
IsStopOf rules accepted d e s q (Width number) = (number ≡ accepted + 1) × ¬ FitsWidth rules.width (stepped s (vector_in d q.four))
IsStopOf rules accepted d e s q (Nodes number order held) = (number ≡ accepted + 1) × (order ≡ e.order) × (held ≡ e.limit) × (e.limit ≤ size (length e.order) e.order (work_in d s q))
IsStopOf rules accepted d e s q OutOfMemory = Unit {0}

-- the integers, q before and r after, were multiplied by the step, or kept where it stopped
pub record IsAccepted (rules : Settings) (accepted : ℕ) (old new : StoreAndCache) (s : Step) (q r : SliceQuad) (answer : Result (Unit {0}) Stop) : Type 0 where
  pub settled : OnOk answer (IsSettled new.store (stepped s (vector_in old.store q.four)) (q.exponent + half_of s) r.four r.exponent)
  pub fits : OnOk answer (FitsWidth rules.width (stepped s (vector_in old.store q.four)))
  pub narrow : OnOk answer (length r.four.a ≤ rules.width)
  pub stops : IfErr answer (IsStopOf rules accepted old.store new.store s q)
  pub refused : OnErr answer (r ≡ q)
  pub kept : r.kept ≡ q.kept
  pub stands : Stands new.store r
  pub keeps : KeepsQuad old q new
  pub order : Reorders rules.sift accepted old.store q answer new.store.order
  pub holds : is_due rules.reclaim accepted ≡ true → is_due rules.sift accepted ≡ false → OnOk answer (HoldsOnly new.store (IsWork old.store s q))
