use Rattle.std.proofs.Common.{subst}
use Rattle.bit_lists.specs.Orders.{IsOrder}
use Rattle.bit_lists.proofs.Variables.{kept_is_order}
use Rattle.bit_lists.proofs.order.Order.len.Goals as goal

pub returns-clause-order : goal.returns-clause-order
returns-clause-order c = subst IsOrder c.self.view_is (kept_is_order c.self.inside.vars c.self.inside.variables c.self.inside.places c.self.invariant)
