use Rattle.std.proofs.Common.{◌+◌, arith, ap, ◌∙◌}
use Rattle.bit_lists.specs.Lists.{bit_value}
use Rattle.bit_lists.proofs.OrderLemmas.{double_below, last_at}
use Rattle.bit_lists.proofs.bits.Bits.with_last.Goals as goal

pub overflow_mul-twice : goal.overflow_mul-twice
overflow_mul-twice c = let below = double_below _ _ c.requires c.place-twice.ensures.below in omega arith

pub overflow_add-twice : goal.overflow_add-twice
overflow_add-twice c = let below = double_below _ _ c.requires c.place-twice.ensures.below in omega arith

pub returns-then-b : goal.returns-then-b
returns-then-b c =
    let bit = ap bit_value c.if-b.true in
    last_at c.args.self c.at_place.result c.args.b (c.at_place.ensures.long ∙ ap (λ n. n + 1) c.len.ensures.value) (omega arith)

pub returns : goal.returns
returns c =
    let bit = ap bit_value c.if-b.false in
    last_at c.args.self c.at_place-2.result c.args.b (c.at_place-2.ensures.long ∙ ap (λ n. n + 1) c.len-2.ensures.value) (omega arith)
