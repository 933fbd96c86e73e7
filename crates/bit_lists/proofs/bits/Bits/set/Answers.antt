use Rattle.std.proofs.Common.{◌≡◌, ap, sym, ◌∙◌, length, [], set, get_or, arith}
use Rattle.std.proofs.lemmas.List.{length-set}
use Rattle.bit_lists.specs.Lists.{place_of, all_lists}
use Rattle.bit_lists.proofs.Places.{listed, get_or-all_lists}
use Rattle.bit_lists.proofs.bits.Bits.set.Goals as goal

pub with_bit-self-inside-requires-clause-within : goal.with_bit-self-inside-requires-clause-within
with_bit-self-inside-requires-clause-within c =
    let here = listed c.self.inside.count c.self.inside.place [] c.self.invariant.1 in
    let len : c.self.inside.count ≡ length c.args.self.now = sym here.0 ∙ ap length c.self.view_is in
    omega arith

pub returns : goal.returns
returns c =
    let n = c.self.inside.count in
    let x = c.args.self.now in
    let here = listed n c.self.inside.place [] c.self.invariant.1 in
    let len : length x ≡ n = ap length (sym c.self.view_is) ∙ here.0 in
    let at : place_of x ≡ c.self.inside.place = ap place_of (sym c.self.view_is) ∙ here.1 in
    ap (λ p. get_or (all_lists n) p []) (sym (c.with_bit-self-inside.ensures.value x len at))
    ∙ get_or-all_lists n (set x c.args.i c.args.b) [] (length-set x c.args.i c.args.b ∙ len)
