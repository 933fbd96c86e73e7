use Rattle.std.proofs.Common.{rules, FitsSigned, ◌-ℤ◌, ◌≡◌, arith, ap, eq-eqb, of_z}
use Rattle.std.specs.Int.{w128}
use Rattle.std.proofs.lemmas.Bool.{eqb-true}
use Rattle.std.proofs.lemmas.Int.{ints}
use Rattle.ring_omega.proofs.parity.same_parity.Goals as goal

pub returns : goal.returns
returns c =
    let h = c.halves.result.0 in
    let k = c.halves-2.result.0 in
    let r = c.halves.result.1 in
    let s = c.halves-2.result.1 in
    let fr : FitsSigned w128 r = search rules in
    let fs : FitsSigned w128 s = search rules in (
      λ t. let e = eqb-true (of_z w128 r) (of_z w128 s) t in
          let f : r ≡ s = omega (arith, ints) in
          (h -ℤ k, omega (arith, ints)),
      λ p. let f : r ≡ s = omega (arith, ints, p.1) in
          eq-eqb (of_z w128 r) (of_z w128 s) (ap (of_z w128) f),
    )
