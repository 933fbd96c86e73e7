use Rattle.std.proofs.Common.{◌≡◌, ◌+◌, ◌-◌, ◌*◌, ◌^◌, ◌≤◌, suc, ap, arith, false, true}
use Rattle.bit_lists.specs.Lists.{bit_value}
use Rattle.std.proofs.Math.Pow.{pow_mono}
use Rattle.bit_lists.proofs.place.with_bit.Goals as goal
use Rattle.bit_lists.proofs.Places.{changed, changed-in_range, changed-down, other_of_true, other_of_false}

pub returns-then-b-clause-in_range : goal.returns-then-b-clause-in_range
returns-then-b-clause-in_range c =
    let k = c.args.len - (c.args.q + 1) in
    let size : c.args.len ≡ c.args.q + suc k = omega arith in
    let room = changed-in_range c.args.len c.args.place c.args.q k c.bit_of.result true size c.bit_of.ensures c.requires.in_range in
    let h : bit_value c.bit_of.result * 2 ^ k ≡ 0 * 2 ^ k = ap (λ v. bit_value v * 2 ^ k) (other_of_true _ _ c.if-bit_of-b.false c.if-b.true) in
    omega (arith, c.stride-size.ensures)

pub overflow_add-result : goal.overflow_add-result
overflow_add-result c =
    let room = returns-then-b-clause-in_range c in
    let small : c.args.len ≤ 128 = c.requires.small in
    let most : 2 ^ c.args.len ≤ 2 ^ 128 = pow_mono small in
    omega arith

pub overflow_sub-result : goal.overflow_sub-result
overflow_sub-result c =
    let k = c.args.len - (c.args.q + 1) in
    let size : c.args.len ≡ c.args.q + suc k = omega arith in
    let room = changed-down c.args.len c.args.place c.args.q k c.bit_of.result false size c.bit_of.ensures c.requires.in_range in
    let h : bit_value c.bit_of.result * 2 ^ k ≡ 1 * 2 ^ k = ap (λ v. bit_value v * 2 ^ k) (other_of_false _ _ c.if-bit_of-b.false c.if-b.false) in
    omega (arith, c.stride-size.ensures)

pub returns-then-b-clause-value : goal.returns-then-b-clause-value
returns-then-b-clause-value c = λ x len at.
    let k = c.args.len - (c.args.q + 1) in
    let size : c.args.len ≡ c.args.q + suc k = omega arith in
    let h : bit_value c.bit_of.result * 2 ^ k ≡ 0 * 2 ^ k = ap (λ v. bit_value v * 2 ^ k) (other_of_true _ _ c.if-bit_of-b.false c.if-b.true) in
    let b : bit_value c.args.b * 2 ^ k ≡ 1 * 2 ^ k = ap (λ v. bit_value v * 2 ^ k) c.if-b.true in
    let e = changed c.args.len c.args.place c.args.q k c.bit_of.result c.args.b size c.bit_of.ensures x len at in
    omega (arith, c.stride-size.ensures)

pub returns-else-b-clause-value : goal.returns-else-b-clause-value
returns-else-b-clause-value c = λ x len at.
    let k = c.args.len - (c.args.q + 1) in
    let size : c.args.len ≡ c.args.q + suc k = omega arith in
    let h : bit_value c.bit_of.result * 2 ^ k ≡ 1 * 2 ^ k = ap (λ v. bit_value v * 2 ^ k) (other_of_false _ _ c.if-bit_of-b.false c.if-b.false) in
    let b : bit_value c.args.b * 2 ^ k ≡ 0 * 2 ^ k = ap (λ v. bit_value v * 2 ^ k) c.if-b.false in
    let e = changed c.args.len c.args.place c.args.q k c.bit_of.result c.args.b size c.bit_of.ensures x len at in
    omega (arith, c.stride-size.ensures)
