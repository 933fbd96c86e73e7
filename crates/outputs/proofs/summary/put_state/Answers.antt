use Rattle.std.proofs.Common.{◌≡◌, ◌++◌, ◌∙◌, ap, ℕ}
use Rattle.std.proofs.Math.Path.{ap₂}
use Rattle.std.proofs.lemmas.Result.{on_ok_weaker}
use Rattle.ring_omega.specs.declared.quad.Quad.{Quad}
use Rattle.ring_omega.specs.Lowest.{lowest_form}
use Rattle.amp_dense.specs.Standing.{vector}
use Rattle.amp_printer.specs.Texts.{state_line}
use Rattle.outputs.proofs.SummaryLemmas.{labelled_wrote, unlabelled}
use Rattle.outputs.proofs.summary.put_state.Goals as goal

pub returns-in_default : goal.returns-in_default
returns-in_default g c = unlabelled c.args.label.now c.args.text.now.items (vector (g.A.Amplitudes.standing c.args.state.now)) c.args.x c.in_default.is

pub returns : goal.returns
returns g c =
    let w = vector (g.A.Amplitudes.standing c.args.state.now) in
    let x = c.in-Some.x in
    let line : c.as_bytes.result.now ≡ state_line x (lowest_form (w.entries x) w.exponent).0 (lowest_form (w.entries x) w.exponent).1 =
    c.as_bytes.ensures ∙ c.state_line-line.ensures ∙ ap (λ (p : Quad × ℕ). state_line x p.0 p.1) (c.lowest-k.ensures.computed ∙ ap₂ lowest_form c.entry.ensures c.exponent.ensures) in
    on_ok_weaker c.put-2.result
    (λ h. labelled_wrote c.args.label.now c.args.text.now.items c.put.new.text.items c.put-2.new.text.items w x c.args.x c.in-Some.is c.in_ok-put.ensures (h ∙ ap (λ t. c.put.new.text.items ++ t) line))
    c.put-2.ensures
