use Rattle.std.proofs.Common.{refl}
use Rattle.ring_omega.specs.Ring.{zero_quad}
use Rattle.ring_omega.proofs.laws.lowest_form_of_zero.Goals as goal
use Rattle.ring_omega.proofs.LowestLemmas.{zero-lowest}

pub returns : goal.returns
returns c = λ k. zero-lowest zero_quad k refl
