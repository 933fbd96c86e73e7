use Rattle.std.proofs.Common.{rules, FitsSigned, ◌≡◌, ◌^◌, sym, ◌∙◌, ap, subst, pos, ℤ, ◌+ℤ◌, ◌*ℤ◌, ◌<ℤ◌}
use Rattle.std.specs.Int.{w128}
use Rattle.std.specs.Option.{SomeIff}
use Rattle.std.proofs.lemmas.Int.{to_z-of_z}
use Rattle.ring_omega.proofs.weight.sum_of_squares.Goals as goal
use Rattle.ring_omega.proofs.WeightLemmas.{one_square, two_squares, three_squares, squares_fit, all_squares}

pub returns-in_err-first : goal.returns-in_err-first
returns-in_err-first c =
    let q = c.args.q in
    let fa : FitsSigned w128 q.a = search rules in
    let none = simp to_z-of_z at c.in_err-first.ensures.value in
    rw c.from_residual.ensures (λ less. none (squares_fit q less).one)

pub returns-in_err-second : goal.returns-in_err-second
returns-in_err-second c =
    let q = c.args.q in
    let fa : FitsSigned w128 q.a = search rules in
    let fb : FitsSigned w128 q.b = search rules in
    let f1 : FitsSigned w128 c.in_ok-first.first = search rules in
    let first : c.in_ok-first.first ≡ one_square q = simp to_z-of_z at c.in_ok-first.ensures.value.1 in
    let none = simp to_z-of_z at c.in_err-second.ensures.value in
    rw c.from_residual-in_err-second.ensures (λ less. none (subst (λ s. (s +ℤ q.b *ℤ q.b) <ℤ pos (2 ^ 127)) (sym first) (squares_fit q less).two))

pub returns-in_err-third : goal.returns-in_err-third
returns-in_err-third c =
    let q = c.args.q in
    let fa : FitsSigned w128 q.a = search rules in
    let fb : FitsSigned w128 q.b = search rules in
    let fc : FitsSigned w128 q.c = search rules in
    let f1 : FitsSigned w128 c.in_ok-first.first = search rules in
    let f2 : FitsSigned w128 c.in_ok-second.second = search rules in
    let first : c.in_ok-first.first ≡ one_square q = simp to_z-of_z at c.in_ok-first.ensures.value.1 in
    let next : c.in_ok-second.second ≡ c.in_ok-first.first +ℤ q.b *ℤ q.b = simp to_z-of_z at c.in_ok-second.ensures.value.1 in
    let second : c.in_ok-second.second ≡ two_squares q = next ∙ ap (λ s. s +ℤ q.b *ℤ q.b) first in
    let none = simp to_z-of_z at c.in_err-third.ensures.value in
    rw c.from_residual-in_err-third.ensures (λ less. none (subst (λ s. (s +ℤ q.c *ℤ q.c) <ℤ pos (2 ^ 127)) (sym second) (squares_fit q less).three))

pub returns : goal.returns
returns c =
    let q = c.args.q in
    let fa : FitsSigned w128 q.a = search rules in
    let fb : FitsSigned w128 q.b = search rules in
    let fc : FitsSigned w128 q.c = search rules in
    let fd : FitsSigned w128 q.d = search rules in
    let f1 : FitsSigned w128 c.in_ok-first.first = search rules in
    let f2 : FitsSigned w128 c.in_ok-second.second = search rules in
    let f3 : FitsSigned w128 c.in_ok-third.third = search rules in
    let first : c.in_ok-first.first ≡ one_square q = simp to_z-of_z at c.in_ok-first.ensures.value.1 in
    let next : c.in_ok-second.second ≡ c.in_ok-first.first +ℤ q.b *ℤ q.b = simp to_z-of_z at c.in_ok-second.ensures.value.1 in
    let last : c.in_ok-third.third ≡ c.in_ok-second.second +ℤ q.c *ℤ q.c = simp to_z-of_z at c.in_ok-third.ensures.value.1 in
    let third : c.in_ok-third.third ≡ three_squares q = last ∙ ap (λ s. s +ℤ q.c *ℤ q.c) (next ∙ ap (λ s. s +ℤ q.b *ℤ q.b) first) in
    let whole = ap (λ s. s +ℤ q.d *ℤ q.d) third ∙ all_squares q in
    subst (λ (s : ℤ). SomeIff c.plus_square-4.result (s <ℤ pos (2 ^ 127)) s) whole (simp to_z-of_z at c.plus_square-4.ensures.value)
