use Rattle.sifting.proofs.SiftedOrders.{some_order, only_order, sifts_order}
use Rattle.sifting.proofs.laws.variables_sift_to_one_order.Goals as goal

pub returns-clause-some : goal.returns-clause-some
returns-clause-some c = some_order

pub returns-clause-unique : goal.returns-clause-unique
returns-clause-unique c = only_order

pub returns-clause-variables : goal.returns-clause-variables
returns-clause-variables c = sifts_order
