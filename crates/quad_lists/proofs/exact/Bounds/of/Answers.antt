use Rattle.std.proofs.Common.{◌≡◌, ◌≤◌, ◌+◌, ◌-◌, ◌^◌, ℕ, suc, ap, ◌∙◌, arith}
use Rattle.std.proofs.Math.Pow.{pow_mono}
use Rattle.std.proofs.lemmas.Int.{ints}
use Rattle.bit_lists.proofs.Places.{pow_double}
use Rattle.quad_lists.proofs.exact.Bounds.of.Goals as goal

quarter_small : (w : ℕ) → w ≤ 128 → 2 ^ (w - 2) ≤ 2 ^ 126
quarter_small w h = pow_mono {j = 126} (omega arith)

two_quarters : (w : ℕ) → 2 ≤ w → 2 ^ (w - 1) ≡ 2 ^ (w - 2) + 2 ^ (w - 2)
two_quarters w h =
    let next : w - 1 ≡ suc (w - 2) = omega arith in
    ap (λ (k : ℕ). 2 ^ k) next ∙ pow_double (w - 2)

pub overflow_sub-result : goal.overflow_sub-result
overflow_sub-result c = let small = quarter_small c.args.width c.requires.greatest in omega (arith, ints)

pub overflow_sub-result-2 : goal.overflow_sub-result-2
overflow_sub-result-2 c = let small = quarter_small c.args.width c.requires.greatest in omega (arith, ints)

pub overflow_sub-result-3 : goal.overflow_sub-result-3
overflow_sub-result-3 c = let small = quarter_small c.args.width c.requires.greatest in omega (arith, ints)

pub overflow_add-result : goal.overflow_add-result
overflow_add-result c = let small = quarter_small c.args.width c.requires.greatest in omega (arith, ints)

pub returns : goal.returns
returns c =
    let small = quarter_small c.args.width c.requires.greatest in
    let double = two_quarters c.args.width c.requires.least in
    record { least = omega (arith, ints); greatest = omega (arith, ints) }
