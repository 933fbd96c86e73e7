use Rattle.std.proofs.Common.{rules, FitsSigned, to_z, of_z, Some}
use Rattle.std.specs.Int.{w128}
use Rattle.std.proofs.lemmas.Int.{to_z-of_z}
use Rattle.ring_omega.specs.Ring.{conjugate_of}
use Rattle.ring_omega.proofs.quad.Quad.conj.Goals as goal
use Rattle.ring_omega.proofs.RingLemmas.{all_of-SomeIff}

pub returns : goal.returns
unfolding conjugate_of
returns c =
    let q = c.args.self in
    let a_fits : FitsSigned w128 q.a = search rules in
    let b_fits : FitsSigned w128 q.b = search rules in
    let c_fits : FitsSigned w128 q.c = search rules in
    let d_fits : FitsSigned w128 q.d = search rules in
    rw c.gathered.ensures
    (all_of-SomeIff (conjugate_of q) _ _ _ (Some (to_z w128 (of_z w128 q.d)))
    (simp to_z-of_z at c.checked_neg.ensures) (simp to_z-of_z at c.checked_neg-2.ensures)
    (simp to_z-of_z at c.checked_neg-3.ensures) (d_fits, to_z-of_z w128 q.d d_fits))
