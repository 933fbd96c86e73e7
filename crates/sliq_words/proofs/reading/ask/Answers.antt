use Rattle.std.proofs.Common.{◌≡◌, ◌-◌, ◌∙◌, sym, ap, map, string_bytes, take, drop, length, Err}
use Rattle.std.proofs.lemmas.Result.{IfOk-weaker}
use Rattle.clap.specs.Words.{found_of, rows_of}
use Rattle.sliq_words.specs.Forms.{form_of}
use Rattle.sliq_words.specs.Asked.{asked_of, request_in, request_of, asked_after}
use Rattle.sliq_words.proofs.Sound.{asked_sound}
use Rattle.sliq_words.proofs.Asking.{asked_by, after_fault, after_read, same_stop}
use Rattle.sliq_words.proofs.reading.ask.Goals as goal

pub returns-in-Err-clause-bad : goal.returns-in-Err-clause-bad
returns-in-Err-clause-bad c = λ is.
    let form = c.in-Some.form in
    let words = map string_bytes (take (length c.args.words.now - 2) (drop 2 c.args.words.now)) in
    let whole : asked_of (map string_bytes c.args.words.now) ≡ asked_after form words = asked_by string_bytes c.args.words.now c.index-words-1.result form c.if-words-lt2.false c.index-words-1.is (ap form_of (sym c.as_str.ensures.value) ∙ sym c.named.ensures ∙ c.in-Some.is) in
    whole ∙ after_fault form words (c.in-Err.ensures.bad (ap (λ s. Err s) (same_stop c.in-Err.stop _ is)))

pub returns-in-Ok-clause-reads : goal.returns-in-Ok-clause-reads
returns-in-Ok-clause-reads c =
    let form = c.in-Some.form in
    let words = map string_bytes (take (length c.args.words.now - 2) (drop 2 c.args.words.now)) in
    let whole : asked_of (map string_bytes c.args.words.now) ≡ asked_after form words = asked_by string_bytes c.args.words.now c.index-words-1.result form c.if-words-lt2.false c.index-words-1.is (ap form_of (sym c.as_str.ensures.value) ∙ sym c.named.ensures ∙ c.in-Some.is) in
    let rows = rows_of (found_of c.in-Ok.matches) in
    let read : asked_after form words ≡ request_in form rows = after_read form words rows c.in-Ok.ensures.reads c.in-Ok.ensures.rows in
    IfOk-weaker c.read_values.result _ _ (λ a h. whole ∙ read ∙ h) c.read_values.ensures.reads

pub returns-in-Ok-clause-sound : goal.returns-in-Ok-clause-sound
returns-in-Ok-clause-sound c =
    let form = c.in-Some.form in
    let words = map string_bytes (take (length c.args.words.now - 2) (drop 2 c.args.words.now)) in
    let whole : asked_of (map string_bytes c.args.words.now) ≡ asked_after form words = asked_by string_bytes c.args.words.now c.index-words-1.result form c.if-words-lt2.false c.index-words-1.is (ap form_of (sym c.as_str.ensures.value) ∙ sym c.named.ensures ∙ c.in-Some.is) in
    let rows = rows_of (found_of c.in-Ok.matches) in
    let read : asked_after form words ≡ request_in form rows = after_read form words rows c.in-Ok.ensures.reads c.in-Ok.ensures.rows in
    IfOk-weaker c.read_values.result _ _ (λ a h. asked_sound (map string_bytes c.args.words.now) (request_of a) (whole ∙ read ∙ h)) c.read_values.ensures.reads

pub returns-in-Ok-clause-bad : goal.returns-in-Ok-clause-bad
returns-in-Ok-clause-bad c = λ is.
    let form = c.in-Some.form in
    let words = map string_bytes (take (length c.args.words.now - 2) (drop 2 c.args.words.now)) in
    let whole : asked_of (map string_bytes c.args.words.now) ≡ asked_after form words = asked_by string_bytes c.args.words.now c.index-words-1.result form c.if-words-lt2.false c.index-words-1.is (ap form_of (sym c.as_str.ensures.value) ∙ sym c.named.ensures ∙ c.in-Some.is) in
    let rows = rows_of (found_of c.in-Ok.matches) in
    let read : asked_after form words ≡ request_in form rows = after_read form words rows c.in-Ok.ensures.reads c.in-Ok.ensures.rows in
    whole ∙ read ∙ c.read_values.ensures.bad is
