use Rattle.std.proofs.Common.{◌≡◌, ◌≤◌, ◌^◌, ◌+◌, ◌*◌, ap, sym, ◌∙◌, arith, suc, get_or, false, ℕ}
use Rattle.std.proofs.Math.Pow.{pow_mono}
use Rattle.bit_lists.specs.Lists.{bit_value}
use Rattle.bit_lists.proofs.Places.{pow_double}
use Rattle.circuit_model.proofs.SumLemmas.{row_more, bit_value-below}
use Rattle.quad_lists.proofs.places.row_of.Goals as goal

pub with_last-row-requires : goal.with_last-row-requires
with_last-row-requires c =
    let most : c.loop-q.q-index ≤ 3 = omega (arith, c.requires.few) in
    let power : 2 ^ c.loop-q.q-index ≤ 2 ^ 3 = pow_mono {j = 3} most in
    omega (arith, c.loop-q.invariant.below)

pub loop-q-preserved : goal.loop-q-preserved
loop-q-preserved c =
    let i = c.loop-q.q-index in
    let next : 2 ^ (i + 1) ≡ 2 ^ i + 2 ^ i = ap (λ (k : ℕ). 2 ^ k) (let e : i + 1 ≡ suc i = omega arith in e) ∙ pow_double i in
    record {
      below = omega (arith, c.loop-q.invariant.below, c.with_last-row.ensures, bit_value-below c.bit_of.result);
      value = λ x len at.
          row_more x c.args.on.now i c.loop-q-test.true
          ∙ ap (λ r. r * 2 + bit_value (get_or x (get_or c.args.on.now i 0) false)) (c.loop-q.invariant.value x len at)
          ∙ ap (λ b. c.loop-q.row * 2 + bit_value b) (sym (c.bit_of.ensures x len at))
          ∙ sym c.with_last-row.ensures;
    }
