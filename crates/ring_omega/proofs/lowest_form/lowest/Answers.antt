use Rattle.std.proofs.Common.{◌≡◌, ◌-◌, suc, refl, sym, ap, ◌∙◌, true, arith}
use Rattle.ring_omega.specs.Ring.{times_power, root_of_two}
use Rattle.ring_omega.proofs.lowest_form.lowest.Goals as goal
use Rattle.ring_omega.proofs.LowestLemmas.{least_where_stuck, still_same, zero-lowest}
use Rattle.ring_omega.proofs.LowestFormLemmas.{with_lowest_form}

pub returns-then-is_zero : goal.returns-then-is_zero
returns-then-is_zero c =
    let both = with_lowest_form _ _ _ _ (zero-lowest c.args.q c.args.k (c.is_zero.ensures.0 c.if-is_zero.true)) in
    record { least = both.0; computed = both.1 }

pub loop-j-init : goal.loop-j-init
loop-j-init c = refl

pub loop-j-preserved : goal.loop-j-preserved
loop-j-preserved c =
    let j = c.loop-j.j in
    let e : j ≡ suc (j - 1) = omega arith in
    still_same c.args.q c.args.k c.loop-j.p (j - 1) c.divided-p.result
    (ap (λ n. times_power root_of_two n c.args.q) (sym e) ∙ c.loop-j.invariant) c.divided-p.ensures

pub returns-else-is_divisible : goal.returns-else-is_divisible
returns-else-is_divisible c =
    let no : ¬ (c.is_divisible.result ≡ true) = λ t. cc in
    let both = with_lowest_form _ _ _ _ (least_where_stuck c.args.q c.args.k c.loop-j.p c.loop-j.j c.loop-j.invariant (λ h d. no (c.is_divisible.ensures.1 d))) in
    record { least = both.0; computed = both.1 }

pub returns-after-loop-j : goal.returns-after-loop-j
returns-after-loop-j c =
    let both = with_lowest_form _ _ _ _ (least_where_stuck c.args.q c.args.k c.loop-j.p c.loop-j.j c.loop-j.invariant (λ h. absurd (omega arith))) in
    record { least = both.0; computed = both.1 }
