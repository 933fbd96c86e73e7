use Rattle.ring_omega.specs.Ring.{is_zero}
use Rattle.ring_omega.proofs.quad.Quad.is_zero.Goals as goal
use Rattle.ring_omega.proofs.RingLemmas.{Decides-is_zero}

pub returns : goal.returns
unfolding is_zero
returns c = rw c.eq.ensures (Decides-is_zero c.args.self)
