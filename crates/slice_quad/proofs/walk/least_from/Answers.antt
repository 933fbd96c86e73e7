use Rattle.std.proofs.Common.{◌≡◌, ℕ, ◌+◌, ◌<◌, ◌≤◌, false, length, ap, ◌∙◌, arith, subst}
use Rattle.std.proofs.lemmas.List.{length-set}
use Rattle.slice_quad.specs.Walks.{entries_in, IsNonzeroFrom, AreZeroFrom}
use Rattle.slice_quad.proofs.Walking.{so_far_low, so_far_high, so_far_as, least_done}
use Rattle.slice_quad.proofs.walk.least_from.Goals as goal
use Rattle.slice_quad.proofs.walk.least_from.Goals.{then-not-branch, else-not-branch}

pub loop-i-preserved : goal.loop-i-preserved
loop-i-preserved c =
    let v = entries_in c.args.d.now.store c.args.q.now in
    let x = c.args.x in
    let n = length x in
    let k = c.args.k in
    let i = c.loop-i.i in
    let r = c.loop-i.at in
    let s = c.set.new.self in
    let h = c.loop-i.invariant.so_far in
    let le : k ≤ i = c.loop-i.auto.i in
    let lt : i < n = omega (arith, c.loop-i-test.true, c.len-i-end.ensures) in
    let long : length s ≡ n = ap length c.set.ensures ∙ length-set r i false ∙ h.long in
    record {
      so_far = elim c.if-not-branch.branch [
        | then-not-branch w ↦
            so_far_as n v k x (i + 1) w.set-then-not-branch.new.self c.if-not-branch.at w.at-is
            (so_far_high n v k x i (i + 1) r s w.set-then-not-branch.new.self h le lt c.set.ensures w.set-then-not-branch.ensures (omega arith)
            (subst (λ (m : ℕ). AreZeroFrom m v (i + 1) s) long (c.in_ok-some_from.ensures.no w.if-not-branch.true)))
        | else-not-branch w ↦
            so_far_as n v k x (i + 1) s c.if-not-branch.at w.at-is
            (so_far_low n v k x i (i + 1) r s h le lt c.set.ensures (omega arith)
            (subst (λ (m : ℕ). IsNonzeroFrom m v (i + 1) s) long (c.in_ok-some_from.ensures.yes w.if-not-branch.false)))
      ];
    }

pub returns : goal.returns
returns c =
    least_done (length c.args.x) (entries_in c.args.d.now.store c.args.q.now) c.args.k c.args.x c.loop-i.i c.loop-i.at c.loop-i.invariant.so_far (omega (arith, c.loop-i-test.false, c.len-i-end.ensures))
