use Rattle.std.proofs.Common.{◌≡◌, length, drop, ap, arith}
use Rattle.std.proofs.lemmas.List.{take_at}
use Rattle.sifting.specs.Hanging.{LowersListed}
use Rattle.sifting.proofs.Lowered.{children_lowered}
use Rattle.sifting.proofs.ranks.lower_children.Goals as goal

pub lower_listed-requires : goal.lower_listed-requires
lower_listed-requires c = rw c.as_mut_slice.ensures.value c.in_ok-grow.ensures.places

pub returns : goal.returns
returns c =
    let d = c.args.store.now in
    let low : LowersListed d c.in_ok-numbers.numbers.items c.grow.new.ranks.items c.lower_listed.new.ranks c.args.rank = rw (c.deref.ensures.value, c.as_mut_slice.ensures.value) at c.lower_listed.ensures.lowers in
    let e : length c.lower_listed.new.ranks ≡ c.grow.new.ranks.len = omega (arith, c.lower_listed.ensures.len, ap length c.as_mut_slice.ensures.value, c.as_mut_slice.ensures.len) in
    rw (take_at c.lower_listed.new.ranks (drop (length c.lower_listed.new.ranks) c.grow.new.ranks.items) c.grow.new.ranks.len e) (children_lowered d c.args.var c.in_ok-numbers.numbers.items c.args.ranks.now.items c.grow.new.ranks.items c.lower_listed.new.ranks c.args.rank c.in_ok-numbers.ensures c.in_ok-grow.ensures.same low)
