use Rattle.std.proofs.Common.{rules, FitsSigned, neg_ℤ, ◌≡◌, arith, to_z, of_z, Some}
use Rattle.std.specs.Int.{w128}
use Rattle.std.proofs.lemmas.Int.{to_z-of_z}
use Rattle.ring_omega.specs.Ring.{quad}
use Rattle.ring_omega.proofs.quad.Quad.times_omega.Goals as goal
use Rattle.ring_omega.proofs.RingLemmas.{all_of-SomeIff, turned-1, turned-2, turned-3, turned-4, turned-5, turned-6, turned-7}

pub returns-in-1 : goal.returns-in-1
returns-in-1 c =
    let q = c.args.self in
    let fa : FitsSigned w128 q.a = search rules in
    let fb : FitsSigned w128 q.b = search rules in
    let fc : FitsSigned w128 q.c = search rules in
    let fd : FitsSigned w128 q.d = search rules in
    let at : c.args.j ≡ 1 = omega arith in
    rw (at, turned-1 q, c.gathered.ensures)
    (all_of-SomeIff (quad q.b q.c q.d (neg_ℤ q.a)) (Some (to_z w128 (of_z w128 q.b))) (Some (to_z w128 (of_z w128 q.c))) (Some (to_z w128 (of_z w128 q.d))) c.checked_neg.result (fb, to_z-of_z w128 q.b fb) (fc, to_z-of_z w128 q.c fc) (fd, to_z-of_z w128 q.d fd) (simp to_z-of_z at c.checked_neg.ensures))

pub returns-in-2 : goal.returns-in-2
returns-in-2 c =
    let q = c.args.self in
    let fa : FitsSigned w128 q.a = search rules in
    let fb : FitsSigned w128 q.b = search rules in
    let fc : FitsSigned w128 q.c = search rules in
    let fd : FitsSigned w128 q.d = search rules in
    let at : c.args.j ≡ 2 = omega arith in
    rw (at, turned-2 q, c.gathered-in-2.ensures)
    (all_of-SomeIff (quad q.c q.d (neg_ℤ q.a) (neg_ℤ q.b)) (Some (to_z w128 (of_z w128 q.c))) (Some (to_z w128 (of_z w128 q.d))) c.checked_neg-in-2.result c.checked_neg-in-2-2.result (fc, to_z-of_z w128 q.c fc) (fd, to_z-of_z w128 q.d fd) (simp to_z-of_z at c.checked_neg-in-2.ensures) (simp to_z-of_z at c.checked_neg-in-2-2.ensures))

pub returns-in-3 : goal.returns-in-3
returns-in-3 c =
    let q = c.args.self in
    let fa : FitsSigned w128 q.a = search rules in
    let fb : FitsSigned w128 q.b = search rules in
    let fc : FitsSigned w128 q.c = search rules in
    let fd : FitsSigned w128 q.d = search rules in
    let at : c.args.j ≡ 3 = omega arith in
    rw (at, turned-3 q, c.gathered-in-3.ensures)
    (all_of-SomeIff (quad q.d (neg_ℤ q.a) (neg_ℤ q.b) (neg_ℤ q.c)) (Some (to_z w128 (of_z w128 q.d))) c.checked_neg-in-3.result c.checked_neg-in-3-2.result c.checked_neg-in-3-3.result (fd, to_z-of_z w128 q.d fd) (simp to_z-of_z at c.checked_neg-in-3.ensures) (simp to_z-of_z at c.checked_neg-in-3-2.ensures) (simp to_z-of_z at c.checked_neg-in-3-3.ensures))

pub returns-in-4 : goal.returns-in-4
returns-in-4 c =
    let q = c.args.self in
    let fa : FitsSigned w128 q.a = search rules in
    let fb : FitsSigned w128 q.b = search rules in
    let fc : FitsSigned w128 q.c = search rules in
    let fd : FitsSigned w128 q.d = search rules in
    let at : c.args.j ≡ 4 = omega arith in
    rw (at, turned-4 q, c.gathered-in-4.ensures)
    (all_of-SomeIff (quad (neg_ℤ q.a) (neg_ℤ q.b) (neg_ℤ q.c) (neg_ℤ q.d)) c.checked_neg-in-4.result c.checked_neg-in-4-2.result c.checked_neg-in-4-3.result c.checked_neg-in-4-4.result (simp to_z-of_z at c.checked_neg-in-4.ensures) (simp to_z-of_z at c.checked_neg-in-4-2.ensures) (simp to_z-of_z at c.checked_neg-in-4-3.ensures) (simp to_z-of_z at c.checked_neg-in-4-4.ensures))

pub returns-in-5 : goal.returns-in-5
returns-in-5 c =
    let q = c.args.self in
    let fa : FitsSigned w128 q.a = search rules in
    let fb : FitsSigned w128 q.b = search rules in
    let fc : FitsSigned w128 q.c = search rules in
    let fd : FitsSigned w128 q.d = search rules in
    let at : c.args.j ≡ 5 = omega arith in
    rw (at, turned-5 q, c.gathered-in-5.ensures)
    (all_of-SomeIff (quad (neg_ℤ q.b) (neg_ℤ q.c) (neg_ℤ q.d) q.a) c.checked_neg-in-5.result c.checked_neg-in-5-2.result c.checked_neg-in-5-3.result (Some (to_z w128 (of_z w128 q.a))) (simp to_z-of_z at c.checked_neg-in-5.ensures) (simp to_z-of_z at c.checked_neg-in-5-2.ensures) (simp to_z-of_z at c.checked_neg-in-5-3.ensures) (fa, to_z-of_z w128 q.a fa))

pub returns-in-6 : goal.returns-in-6
returns-in-6 c =
    let q = c.args.self in
    let fa : FitsSigned w128 q.a = search rules in
    let fb : FitsSigned w128 q.b = search rules in
    let fc : FitsSigned w128 q.c = search rules in
    let fd : FitsSigned w128 q.d = search rules in
    let at : c.args.j ≡ 6 = omega arith in
    rw (at, turned-6 q, c.gathered-in-6.ensures)
    (all_of-SomeIff (quad (neg_ℤ q.c) (neg_ℤ q.d) q.a q.b) c.checked_neg-in-6.result c.checked_neg-in-6-2.result (Some (to_z w128 (of_z w128 q.a))) (Some (to_z w128 (of_z w128 q.b))) (simp to_z-of_z at c.checked_neg-in-6.ensures) (simp to_z-of_z at c.checked_neg-in-6-2.ensures) (fa, to_z-of_z w128 q.a fa) (fb, to_z-of_z w128 q.b fb))

pub returns-in_default : goal.returns-in_default
returns-in_default c =
    let q = c.args.self in
    let fa : FitsSigned w128 q.a = search rules in
    let fb : FitsSigned w128 q.b = search rules in
    let fc : FitsSigned w128 q.c = search rules in
    let fd : FitsSigned w128 q.d = search rules in
    let at : c.args.j ≡ 7 = omega arith in
    rw (at, turned-7 q, c.gathered-in_default.ensures)
    (all_of-SomeIff (quad (neg_ℤ q.d) q.a q.b q.c) c.checked_neg-in_default.result (Some (to_z w128 (of_z w128 q.a))) (Some (to_z w128 (of_z w128 q.b))) (Some (to_z w128 (of_z w128 q.c))) (simp to_z-of_z at c.checked_neg-in_default.ensures) (fa, to_z-of_z w128 q.a fa) (fb, to_z-of_z w128 q.b fb) (fc, to_z-of_z w128 q.c fc))
