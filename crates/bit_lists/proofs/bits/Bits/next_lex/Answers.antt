use Rattle.std.proofs.Common.{◌≡◌, ◌+◌, ◌^◌, ℕ, true, length, replicate, arith, ap, ◌∙◌, refl}
use Rattle.bit_lists.specs.Lists.{place_of}
use Rattle.bit_lists.proofs.OrderLemmas.{ones, not_ones, next-place}
use Rattle.bit_lists.proofs.bits.Bits.next_lex.Goals as goal

pub returns-then-place-last_place-clause-none : goal.returns-then-place-last_place-clause-none
returns-then-place-last_place-clause-none c =
    let long : 2 ^ c.len.result ≡ 2 ^ length c.args.self = ap (λ (n : ℕ). 2 ^ n) c.len.ensures.value in
    let last : place_of c.args.self + 1 ≡ 2 ^ length c.args.self = omega arith in
    (λ _. ones c.args.self last, λ _. refl)

pub returns-clause-next : goal.returns-clause-next
returns-clause-next c = next-place c.args.self c.at_place.result (c.at_place.ensures.long ∙ c.len-2.ensures.value) (omega arith)

pub returns-clause-none : goal.returns-clause-none
returns-clause-none c =
    let other = λ (e : c.args.self ≡ replicate (length c.args.self) true).
    let long : 2 ^ c.len.result ≡ 2 ^ length c.args.self = ap (λ (n : ℕ). 2 ^ n) c.len.ensures.value in
    let last = not_ones c.args.self e in
    let same : c.place.result ≡ c.last_place.result = omega arith in
    c.if-place-last_place.false same in
    (λ e. cc, λ e. absurd (other e))
