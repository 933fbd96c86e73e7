use Rattle.std.proofs.Common.{◌++◌, [], Some, None, ap, sym, ◌∙◌, append_assoc}
use Rattle.snapshot.specs.Reading.{with_digit, numerals_from}
use Rattle.snapshot.proofs.NumberTexts.{digit_step, gap_step}
use Rattle.snapshot.proofs.numerals.take_byte.Goals as goal

pub returns-then-is_digit : goal.returns-then-is_digit
returns-then-is_digit c = λ cs.
    ap (λ l. c.args.out.now.items ++ l)
    (ap (λ n. numerals_from (Some n) cs) (c.with_digit.ensures ∙ ap (λ n. with_digit n c.args.byte) c.so_far.ensures) ∙ digit_step c.args.read c.args.byte cs (sym c.is_digit.ensures ∙ c.if-is_digit.true))

pub returns : goal.returns
returns c = λ cs.
    ap (λ l. l ++ numerals_from None cs) c.in_ok-tell.ensures ∙ append_assoc c.args.out.now.items (numerals_from c.args.read []) (numerals_from None cs)
    ∙ ap (λ l. c.args.out.now.items ++ l) (gap_step c.args.read c.args.byte cs (sym c.is_digit.ensures ∙ c.if-is_digit.false))
