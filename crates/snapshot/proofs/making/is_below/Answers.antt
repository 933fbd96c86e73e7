use Rattle.std.proofs.Common.{◌<◌, sym, ◌∙◌, arith}
use Rattle.bit_lists.specs.Orders.{place_in}
use Rattle.snapshot.proofs.Below.{place_below, below_place, var_within}
use Rattle.snapshot.proofs.making.is_below.Goals as goal

pub place_of-lower-requires : goal.place_of-lower-requires
place_of-lower-requires c = var_within c.args.store.now c.args.n.0 c.in-Some.top c.held-held.ensures.sound c.requires.live (sym c.in-Some.is ∙ c.top.ensures.var)

pub returns-then-upper-lower-clause-above : goal.returns-then-upper-lower-clause-above
returns-then-upper-lower-clause-above c = λ t.
    let order = c.args.store.now.order in
    let less : place_in order c.args.var < place_in order c.in-Some.top = omega (arith, c.if-upper-lower.true, c.place_of-upper.ensures.place, c.place_of-lower.ensures.place) in
    place_below c.args.store.now c.args.var c.args.n.0 c.in-Some.top c.held-held.ensures.sound c.requires.var c.requires.live (sym c.in-Some.is ∙ c.top.ensures.var) less

pub returns-clause-other : goal.returns-clause-other
returns-clause-other c = λ t above.
    let less = below_place c.args.store.now c.args.var c.args.n.0 c.in-Some.top c.held-held.ensures.sound c.requires.var (sym c.in-Some.is ∙ c.top.ensures.var) above in
    omega (arith, less, c.if-upper-lower.false, c.place_of-upper.ensures.place, c.place_of-lower.ensures.place)
