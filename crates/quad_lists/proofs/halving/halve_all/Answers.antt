use Rattle.ring_omega.specs.Ring.{zero_quad}
use Rattle.quad_lists.proofs.halving.halve_all.Goals as goal
use Rattle.quad_lists.proofs.HalvingLemmas.{one_more_halved}

pub loop-q-preserved : goal.loop-q-preserved
loop-q-preserved c = one_more_halved _ _ _ _ zero_quad c.loop-q-test.true c.loop-q.invariant c.half_of.ensures
