use Rattle.std.proofs.Common.{◌+◌, length, get_or, refl, ◌∙◌, ap, arith}
use Rattle.bit_lists.specs.Orders.{exchanged}
use Rattle.bit_lists.proofs.Variables.{exchange_kept, length-kept_order}
use Rattle.bit_lists.proofs.order.Order.exchange.Goals as goal

pub invariant_of-self : goal.invariant_of-self
invariant_of-self c =
    let a = c.self.inside in
    let len = length-kept_order a.vars a.variables a.places c.self.invariant in
    (exchange_kept a.vars a.variables a.places c.args.place (c.args.place + 1) (get_or a.variables c.args.place 0) (get_or a.variables (c.args.place + 1) 0)
    c.self.invariant refl (omega (arith, len, ap length c.self.view_is)) refl refl).0

pub returns : goal.returns
returns c =
    let a = c.self.inside in
    let len = length-kept_order a.vars a.variables a.places c.self.invariant in
    let r = exchange_kept a.vars a.variables a.places c.args.place (c.args.place + 1) (get_or a.variables c.args.place 0) (get_or a.variables (c.args.place + 1) 0)
    c.self.invariant refl (omega (arith, len, ap length c.self.view_is)) refl refl in
    r.1 ∙ ap (λ order. exchanged order c.args.place) c.self.view_is
