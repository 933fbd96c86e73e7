use Rattle.std.proofs.Common.{◌∙◌, sym, ap, option_map}
use Rattle.std.specs.Result.{result_map_both}
use Rattle.qasm_lex.specs.Angles.{given_by}
use Rattle.qasm_gates.specs.Private.Seen.{seen_builtin}
use Rattle.qasm_gates.proofs.Bodied.{builtin_counts}
use Rattle.qasm_gates.proofs.judging.judge_builtin.Goals as goal

pub returns : goal.returns
returns c = c.count_in.ensures ∙ ap (result_map_both (option_map (λ p. p.1)) (λ e. e)) c.body_of.ensures ∙ sym (builtin_counts (seen_builtin c.args.built) (given_by c.args.values.now))
