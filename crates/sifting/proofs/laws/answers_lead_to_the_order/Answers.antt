use Rattle.sifting.proofs.SiftedOrders.{turns_to}
use Rattle.sifting.proofs.laws.answers_lead_to_the_order.Goals as goal

pub returns : goal.returns
returns c = turns_to
