use Rattle.bit_lists.proofs.OrderLemmas.{before-place, place-before}
use Rattle.bit_lists.proofs.laws.order_by_place.Goals as goal

pub returns : goal.returns
returns c = λ x y e. (before-place x y e, place-before x y e)
