use Rattle.std.proofs.Common.{◌≡◌, ap, sym, ◌∙◌, length, [], arith}
use Rattle.bit_lists.specs.Lists.{place_of}
use Rattle.bit_lists.proofs.Places.{listed}
use Rattle.bit_lists.proofs.bits.Bits.get.Goals as goal

pub bit_of-requires-clause-within : goal.bit_of-requires-clause-within
bit_of-requires-clause-within c =
    let here = listed c.self.inside.count c.self.inside.place [] c.self.invariant.1 in
    let len : c.self.inside.count ≡ length c.args.self.now = sym here.0 ∙ ap length c.self.view_is in
    omega arith

pub returns : goal.returns
returns c =
    let here = listed c.self.inside.count c.self.inside.place [] c.self.invariant.1 in
    c.bit_of.ensures c.args.self.now (ap length (sym c.self.view_is) ∙ here.0) (ap place_of (sym c.self.view_is) ∙ here.1)
