use Rattle.std.proofs.Common.{◌≡◌, ◌+◌, ◌-◌, ◌/◌, ◌%◌, ◌^◌, suc, ap, ◌∙◌, sym, arith, false, true, Bool, nat_eq, length, refl, slice_index_or}
use Rattle.bit_lists.specs.Lists.{bit_value}
use Rattle.bit_lists.proofs.place.bit_of.Goals as goal
use Rattle.bit_lists.proofs.Places.{bit_of_place}

tested : (b : Bool) → nat_eq (bit_value b) 1 ≡ b
tested false = refl
tested true = refl

pub returns : goal.returns
returns c = λ x len at.
    let q = c.args.q in
    let k = c.args.len - (q + 1) in
    let e : length x ≡ q + suc k = omega arith in
    ap (λ s. nat_eq (c.args.place / s % 2) 1) c.stride.ensures
    ∙ ap (λ p. nat_eq (p / 2 ^ k % 2) 1) (sym at)
    ∙ ap (λ v. nat_eq v 1) (bit_of_place x q k e) ∙ tested (slice_index_or x q false)
