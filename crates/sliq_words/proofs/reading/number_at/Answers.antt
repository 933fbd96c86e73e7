use Rattle.std.proofs.Common.{◌∙◌, ap, Some}
use Rattle.clap.specs.Words.{found_of, rows_of}
use Rattle.sliq_words.proofs.Finds.{found_text, found_none, number_some, number_missing}
use Rattle.sliq_words.proofs.reading.number_at.Goals as goal

pub returns-in-Some-get_str-clause-value : goal.returns-in-Some-get_str-clause-value
returns-in-Some-get_str-clause-value c =
    c.number.ensures.value ∙ number_some c.args.word c.args.id.now _ _ (rows_of (found_of c.args.matches.now)) c.in-Some-get_str.text.now (c.in-Some.is ∙ ap (λ w. Some w) c.in-Number.is) (found_text (found_of c.args.matches.now) c.args.id.now c.get_str.result c.in-Some-get_str.text c.in-Some-get_str.is c.get_str.ensures)

pub returns-in-None-clause-value : goal.returns-in-None-clause-value
returns-in-None-clause-value c =
    number_missing c.args.word c.args.id.now _ _ (rows_of (found_of c.args.matches.now)) (c.in-Some.is ∙ ap (λ w. Some w) c.in-Number.is) (found_none (found_of c.args.matches.now) c.args.id.now c.get_str.result c.in-None.is c.get_str.ensures)
