use Rattle.std.proofs.Common.{◌≤◌}
use Rattle.diagram_model.specs.Stores.{Diagram, IsSound}
use Rattle.slice_quad.specs.Mix.{Vector}
use Rattle.slice_quad.specs.Vectors.{AreValues}
use Rattle.slice_quad.specs.Settled.{HasBits, IsHalfway, widest}
use Rattle.slice_quad.proofs.settle.settle.Given as goal

abbrev pub invariant-loop-f : goal.invariant-loop-f
invariant-loop-f l = record {
  some : HasBits l.f;
  narrower : widest l.f ≤ widest l.fn.f;
  halfway : (d : Diagram) (v : Vector) → IsSound d → AreValues d v l.fn.f → IsHalfway d v l.fn.roots l.f l.left;
}

abbrev pub decreases-loop-f : goal.decreases-loop-f
decreases-loop-f l = l.left
