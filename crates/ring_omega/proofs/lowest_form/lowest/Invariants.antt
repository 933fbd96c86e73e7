use Rattle.ring_omega.specs.Value.{SameValue}
use Rattle.ring_omega.proofs.lowest_form.lowest.Given as goal

abbrev pub invariant-loop-j : goal.invariant-loop-j
invariant-loop-j l = SameValue l.fn.q l.fn.k l.p l.j

abbrev pub decreases-loop-j : goal.decreases-loop-j
decreases-loop-j l = l.j
