use Rattle.std.proofs.Common.{◌≡◌, false, None, get_or, sym, ◌∙◌, arith}
use Rattle.bit_lists.specs.Partials.{fits}
use Rattle.bit_lists.proofs.Partials.{agrees_all, agrees_not}
use Rattle.bit_lists.proofs.partial.Partial.agrees.Goals as goal

pub returns-then-not-allows : goal.returns-then-not-allows
returns-then-not-allows c =
    let differs : fits (get_or c.args.self.now c.loop-i.i None) (get_or c.args.x.now c.loop-i.i false) ≡ false =
    rw (← c.get.ensures) (sym c.allows.ensures ∙ c.if-not-allows.true) in
    sym (agrees_not c.args.self.now c.args.x.now c.loop-i.i c.requires (omega arith) differs)

pub returns : goal.returns
returns c =
    sym (agrees_all c.args.self.now c.args.x.now c.requires (λ i lt. c.loop-i.invariant i (omega arith)))
