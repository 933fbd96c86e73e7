use Rattle.std.proofs.Common.{◌∙◌, ap, map, string_bytes, Some}
use Rattle.std.proofs.lemmas.Result.{on_ok_weaker}
use Rattle.clap.specs.Words.{found_of, rows_of}
use Rattle.sliq_words.proofs.Finds.{found_text, found_none, names_missing, name_pushed}
use Rattle.sliq_words.proofs.reading.add_name.Goals as goal

pub returns-in-Some-get_str-clause-named : goal.returns-in-Some-get_str-clause-named
returns-in-Some-get_str-clause-named c =
    on_ok_weaker c.push_name.result
    (λ pushed. name_pushed c.args.word c.args.id.now (rows_of (found_of c.args.matches.now)) c.in-Some-get_str.name.now (map string_bytes c.args.files.now.items) (map string_bytes c.push_name.new.files.items) (c.in-Some.is ∙ ap (λ w. Some w) c.in-File.is)
    (found_text (found_of c.args.matches.now) c.args.id.now c.get_str.result c.in-Some-get_str.name c.in-Some-get_str.is c.get_str.ensures) pushed) c.push_name.ensures.ok

pub returns-in-None-clause-bad : goal.returns-in-None-clause-bad
returns-in-None-clause-bad c = λ _.
    names_missing c.args.word c.args.id.now (rows_of (found_of c.args.matches.now)) (c.in-Some.is ∙ ap (λ w. Some w) c.in-File.is) (found_none (found_of c.args.matches.now) c.args.id.now c.get_str.result c.in-None.is c.get_str.ensures)
