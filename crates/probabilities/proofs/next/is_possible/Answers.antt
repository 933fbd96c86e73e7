use Rattle.std.proofs.Common.{◌≡◌, length, ap, sym, ◌∙◌, subst}
use Rattle.ring_omega.specs.declared.weight.Weight.{Weight}
use Rattle.circuit_model.specs.Working.{work}
use Rattle.probabilities.specs.Weighing.{weight_at, IsNarrow}
use Rattle.probabilities.specs.Outcomes.{measured_count, fixed_to, outcome_weight}
use Rattle.probabilities.proofs.OutcomeLemmas.{length-fixed_to}
use Rattle.probabilities.proofs.PossibleLemmas.{impossible_by, possible_by, wide_possible}
use Rattle.probabilities.proofs.next.is_possible.Goals as goal

pub weigh_dense-requires : goal.weigh_dense-requires
weigh_dense-requires c = ap length c.fixed_to.ensures ∙ length-fixed_to c.args.measured.now c.args.y.now c.requires.outcome ∙ c.requires.len

pub returns-in-Ok-clause-yes : goal.returns-in-Ok-clause-yes
returns-in-Ok-clause-yes c =
    let v = (work c.args.s.now.gates c.args.s.now.input).entries in
    let is : c.in-Ok.w ≡ outcome_weight c.args.measured.now v c.args.y.now = c.in-Ok.ensures.weight.1 ∙ ap (weight_at v) c.fixed_to.ensures in
    possible_by c.args.measured.now v c.args.y.now c.requires.outcome c.in-Ok.w c.is_zero.result is c.is_zero.ensures

pub returns-in-Ok-clause-no : goal.returns-in-Ok-clause-no
returns-in-Ok-clause-no c =
    let v = (work c.args.s.now.gates c.args.s.now.input).entries in
    let is : c.in-Ok.w ≡ outcome_weight c.args.measured.now v c.args.y.now = c.in-Ok.ensures.weight.1 ∙ ap (weight_at v) c.fixed_to.ensures in
    impossible_by c.args.measured.now v c.args.y.now c.requires.outcome c.in-Ok.w c.is_zero.result is c.is_zero.ensures

pub returns-in-Err-clause-yes : goal.returns-in-Err-clause-yes
returns-in-Err-clause-yes c = λ e.
    let v = (work c.args.s.now.gates c.args.s.now.input).entries in
    wide_possible c.args.measured.now v c.args.y.now c.requires.outcome
    (λ narrow. c.in-Err.ensures.weight (subst (λ p. IsNarrow (weight_at v p)) (sym c.fixed_to.ensures) narrow))
