use Rattle.std.proofs.Common.{◌≡◌, ◌+◌, ◌<◌, ℕ, List, length, get_or, ap, ◌∙◌, arith}
use Rattle.std.proofs.lemmas.List.{length-map}
use Rattle.bit_lists.specs.Lists.{bit_value}
use Rattle.bit_lists.proofs.OrderLemmas.{bits_text-byte}
use Rattle.bit_lists.proofs.bits.Bits.from_text.Goals as goal

pub returns-in_default-clause-none : goal.returns-in_default-clause-none
returns-in_default-clause-none c = λ x few e.
    let i = c.loop-byte.byte-index in
    let long : i < length x = omega (arith, ap length e, length-map x (λ b. 48 + bit_value b)) in
    let (b, at) = bits_text-byte x i 0 long in
    let same : get_or c.args.text.now i 0 ≡ 48 + bit_value b = ap (λ (t : List ℕ). get_or t i 0) e ∙ at in
    c.in_default.ensures.none b same
