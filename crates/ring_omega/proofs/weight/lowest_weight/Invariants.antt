use Rattle.ring_omega.specs.Weights.{SameWeight}
use Rattle.ring_omega.proofs.weight.lowest_weight.Given as goal

abbrev pub invariant-loop-j : goal.invariant-loop-j
invariant-loop-j l = SameWeight l.fn.w l.fn.k l.v l.j

abbrev pub decreases-loop-j : goal.decreases-loop-j
decreases-loop-j l = l.j
