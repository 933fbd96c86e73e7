use Rattle.std.proofs.Common.{rules, ◌≡◌, sym, ◌∙◌, ◌+ℤ◌, ◌-ℤ◌, FitsSigned, arith}
use Rattle.std.specs.Int.{w128}
use Rattle.std.proofs.lemmas.Int.{ints}
use Rattle.ring_omega.specs.Ring.{quad}
use Rattle.ring_omega.proofs.RingLemmas.{quad_eq, times_root-is}
use Rattle.quad_lists.proofs.exact.ExactQuad.root_times.Goals as goal

pub returns : goal.returns
returns c =
    let q = c.args.q in
    let fa : FitsSigned w128 q.a = search rules in
    let fb : FitsSigned w128 q.b = search rules in
    let fc : FitsSigned w128 q.c = search rules in
    let fd : FitsSigned w128 q.d = search rules in
    c.gathered.ensures
    ∙ quad_eq (quad _ _ _ _) (quad (q.b -ℤ q.d) (q.a +ℤ q.c) (q.b +ℤ q.d) (q.c -ℤ q.a))
    (omega (arith, ints, c.less.ensures)) (omega (arith, ints, c.both.ensures)) (omega (arith, ints, c.both-2.ensures)) (omega (arith, ints, c.less-2.ensures))
    ∙ sym (times_root-is q)
