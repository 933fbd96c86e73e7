use Rattle.std.proofs.Common.{◌∙◌, ap, codes}
use Rattle.std.proofs.lemmas.Result.{IfOk-weaker}
use Rattle.sliq_words.specs.Forms.{with_word, with_input, with_rules, app_for}
use Rattle.sliq_words.proofs.syntax.syntax.Goals as goal

pub returns : goal.returns
unfolding app_for
returns c =
    let first_is = c.in_ok-first.ensures ∙ ap (with_word c.args.form.first (codes "FIRST")) c.bare.ensures in
    let second_is = c.in_ok-second.ensures ∙ ap (with_word c.args.form.second (codes "SECOND")) first_is in
    let third_is = c.in_ok-third.ensures ∙ ap (with_word c.args.form.third (codes "THIRD")) second_is in
    let input_is = c.in_ok-input.ensures ∙ ap (with_input c.args.form.input) third_is in
    IfOk-weaker c.add_rules.result _ _ (λ r h. h ∙ ap with_rules input_is) c.add_rules.ensures
