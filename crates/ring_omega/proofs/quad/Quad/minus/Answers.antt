use Rattle.std.proofs.Common.{rules, FitsSigned}
use Rattle.std.specs.Int.{w128}
use Rattle.std.proofs.lemmas.Int.{to_z-of_z}
use Rattle.ring_omega.specs.Ring.{difference_of}
use Rattle.ring_omega.proofs.quad.Quad.minus.Goals as goal
use Rattle.ring_omega.proofs.RingLemmas.{all_of-SomeIff}

pub returns : goal.returns
unfolding difference_of
returns c =
    let a : FitsSigned w128 c.args.self.a = search rules in
    let b : FitsSigned w128 c.args.self.b = search rules in
    let d : FitsSigned w128 c.args.self.c = search rules in
    let e : FitsSigned w128 c.args.self.d = search rules in
    let a' : FitsSigned w128 c.args.other.a = search rules in
    let b' : FitsSigned w128 c.args.other.b = search rules in
    let d' : FitsSigned w128 c.args.other.c = search rules in
    let e' : FitsSigned w128 c.args.other.d = search rules in
    rw c.gathered.ensures
    (all_of-SomeIff (difference_of c.args.self c.args.other) _ _ _ _
    (simp to_z-of_z at c.checked_sub.ensures) (simp to_z-of_z at c.checked_sub-2.ensures)
    (simp to_z-of_z at c.checked_sub-3.ensures) (simp to_z-of_z at c.checked_sub-4.ensures))
