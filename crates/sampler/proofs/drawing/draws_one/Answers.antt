use Rattle.std.proofs.Common.{rules, ◌∙◌, pos, ◌*ℤ◌, ◌-ℤ◌, ◌^◌, FitsSigned}
use Rattle.std.specs.Int.{w128}
use Rattle.std.proofs.Math.Path.{ap₂}
use Rattle.std.proofs.lemmas.Int.{to_z-of_z}
use Rattle.sampler.specs.Signs.{is_below_zero}
use Rattle.sampler.proofs.drawing.draws_one.Goals as goal

pub returns : goal.returns
returns c =
    let x = c.lead.result in
    let y = c.lead-2.result in
    let fx : FitsSigned w128 x = search rules in
    let fy : FitsSigned w128 y = search rules in
    let wa : FitsSigned w128 c.args.whole.a = search rules in
    let wb : FitsSigned w128 c.args.whole.b = search rules in
    let ha : FitsSigned w128 c.args.half.a = search rules in
    let hb : FitsSigned w128 c.args.half.b = search rules in
    c.below_zero.ensures
    ∙ ap₂ is_below_zero
    (to_z-of_z w128 x fx ∙ c.lead.ensures.value ∙ ap₂ (λ s t. pos c.args.word *ℤ s -ℤ pos (2 ^ 64) *ℤ t) (to_z-of_z w128 c.args.whole.a wa) (to_z-of_z w128 c.args.half.a ha))
    (to_z-of_z w128 y fy ∙ c.lead-2.ensures.value ∙ ap₂ (λ s t. pos c.args.word *ℤ s -ℤ pos (2 ^ 64) *ℤ t) (to_z-of_z w128 c.args.whole.b wb) (to_z-of_z w128 c.args.half.b hb))
