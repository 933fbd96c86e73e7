use Rattle.std.proofs.Common.{refl}
use Rattle.ring_omega.specs.Ring.{product_of}
use Rattle.ring_omega.proofs.laws.root_of_two_squared.Goals as goal

pub returns : goal.returns
unfolding product_of
returns c = refl
