use Rattle.std.proofs.Common.{◌≡◌, ◌∙◌, sym, ap, rules, Err, map, string_bytes}
use Rattle.clap.specs.Words.{found_of, rows_of}
use Rattle.sliq_words.proofs.Finds.{no_task_requested, no_rules_requested, no_files_requested, all_requested}
use Rattle.sliq_words.proofs.Asking.{same_stop}
use Rattle.sliq_words.proofs.reading.read_values.Goals as goal

pub returns-in_default-clause-bad : goal.returns-in_default-clause-bad
returns-in_default-clause-bad c = λ _. no_task_requested c.args.form (rows_of (found_of c.args.matches.now)) (sym c.task_of.ensures ∙ c.in_default.is)

pub returns-in_default-rules-clause-bad : goal.returns-in_default-rules-clause-bad
returns-in_default-rules-clause-bad c = λ _.
    no_rules_requested c.args.form (rows_of (found_of c.args.matches.now)) c.in-Some.task (sym c.task_of.ensures ∙ c.in-Some.is) (sym c.rules.ensures ∙ c.in_default-rules.is)

pub returns-in_err-files-clause-bad : goal.returns-in_err-files-clause-bad
returns-in_err-files-clause-bad c = λ is.
    let told : c.from_residual.result ≡ Err c.in_err-files.field-0.0 = search rules in
    no_files_requested c.args.form (rows_of (found_of c.args.matches.now)) c.in-Some.task c.in-Some-rules.rules (sym c.task_of.ensures ∙ c.in-Some.is) (sym c.rules.ensures ∙ c.in-Some-rules.is) (c.in_err-files.ensures.bad (ap (λ s. Err s) (same_stop c.in_err-files.field-0.0 _ (sym told ∙ is))))

pub returns-clause-reads : goal.returns-clause-reads
returns-clause-reads c =
    all_requested c.args.form (rows_of (found_of c.args.matches.now)) c.in-Some.task (map string_bytes c.in_ok-files.files.items) c.in-Some-rules.rules (sym c.task_of.ensures ∙ c.in-Some.is) (sym c.rules.ensures ∙ c.in-Some-rules.is) c.in_ok-files.ensures.named
