use Rattle.std.proofs.Common.{◌≡◌, Bool, true, false, not, ◌-◌, ◌*◌, arith}
use Rattle.sampler.proofs.Squares.{far_above, turned_below, turned_above}
use Rattle.sampler.proofs.sign.+is_above.Goals as goal

turned : (b : Bool) → not b ≡ true → b ≡ false
turned true e = cc
turned false e = cc

turned_back : (b : Bool) → not b ≡ false → b ≡ true
turned_back true e = cc
turned_back false e = cc

pub returns-then-x-y-2-clause-above : goal.returns-then-x-y-2-clause-above
returns-then-x-y-2-clause-above t c = λ _. far_above c.args.x c.args.y c.if-x-y-2.true c.requires.y

pub returns-clause-above : goal.returns-clause-above
returns-clause-above t c = λ e.
    turned_above c.args.x c.args.y (c.args.x - c.args.y) (2 * c.args.y - c.args.x) (omega (arith, c.if-x-y.false)) (omega (arith, c.if-x-y.false, c.if-x-y-2.false))
    (c.is_above.ensures.below (turned c.is_above.result e))

pub returns-clause-below : goal.returns-clause-below
returns-clause-below t c = λ e.
    turned_below c.args.x c.args.y (c.args.x - c.args.y) (2 * c.args.y - c.args.x) (omega (arith, c.if-x-y.false)) (omega (arith, c.if-x-y.false, c.if-x-y-2.false))
    (c.is_above.ensures.above (turned_back c.is_above.result e))
