use Rattle.std.proofs.Common.{◌≡◌, ◌-◌, suc, refl, subst, true, arith}
use Rattle.ring_omega.specs.Weights.{SameWeight}
use Rattle.ring_omega.proofs.weight.lowest_weight.Goals as goal
use Rattle.ring_omega.proofs.WeightLemmas.{least_weight_where_stuck, still_same_weight, zero-lowest_weight, zero_test, with_lowest_weight_form}

pub loop-j-init : goal.loop-j-init
loop-j-init c = record { same_a = refl; same_b = refl }

pub loop-j-preserved : goal.loop-j-preserved
loop-j-preserved c =
    let j = c.loop-j.j in
    let e : j ≡ suc (j - 1) = omega arith in
    still_same_weight c.args.w c.args.k c.loop-j.v (j - 1) c.halved-v.result (subst (SameWeight c.args.w c.args.k c.loop-j.v) e c.loop-j.invariant) c.halved-v.ensures

pub returns-else-is_double : goal.returns-else-is_double
returns-else-is_double c =
    let single : ¬ (c.is_double.result ≡ true) = λ t. cc in
    let both = with_lowest_weight_form _ _ _ _ (least_weight_where_stuck c.args.w c.args.k c.loop-j.v c.loop-j.j c.loop-j.invariant (λ h d. single (c.is_double.ensures.1 d))) in
    record { least = both.0; computed = both.1 }

pub returns-after-loop-j : goal.returns-after-loop-j
returns-after-loop-j c =
    let both = with_lowest_weight_form _ _ _ _ (least_weight_where_stuck c.args.w c.args.k c.loop-j.v c.loop-j.j c.loop-j.invariant (λ h. absurd (omega arith))) in
    record { least = both.0; computed = both.1 }

pub returns-then-eq : goal.returns-then-eq
returns-then-eq c =
    let both = with_lowest_weight_form _ _ _ _ (zero-lowest_weight c.args.w c.args.k (zero_test c.args.w c.if-eq.ensures)) in
    record { least = both.0; computed = both.1 }
