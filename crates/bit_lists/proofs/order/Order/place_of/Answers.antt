use Rattle.std.proofs.Common.{length, sym, ◌∙◌, ap, arith}
use Rattle.bit_lists.specs.Orders.{place_in}
use Rattle.bit_lists.proofs.Variables.{kept_place, length-kept_order}
use Rattle.bit_lists.proofs.order.Order.place_of.Goals as goal

pub returns-clause-place : goal.returns-clause-place
returns-clause-place c =
    let a = c.self.inside in
    let len = length-kept_order a.vars a.variables a.places c.self.invariant in
    sym (kept_place a.vars a.variables a.places c.self.invariant c.args.var (omega (arith, len, ap length c.self.view_is)))
    ∙ ap (λ order. place_in order c.args.var) c.self.view_is
