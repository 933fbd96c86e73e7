use Rattle.std.proofs.Common.{◌∙◌, sym, ap, slice_get}
use Rattle.std.specs.Str.{bytes_eq}
use Rattle.sliq_words.proofs.Commands.{called_here, called_behind, called_past}
use Rattle.sliq_words.proofs.form.named_in.Goals as goal

pub commands-preserved : goal.commands-preserved
commands-preserved c =
    called_behind (λ command. bytes_eq c.args.word.now command.0.now) (λ command. command.1) c.args.commands.now c.commands.command-index _ c.commands-test.true (sym c.eq.ensures ∙ c.if-eq.false) ∙ c.commands.invariant

pub returns-then-eq : goal.returns-then-eq
returns-then-eq c =
    sym (called_here (λ command. bytes_eq c.args.word.now command.0.now) (λ command. command.1) c.args.commands.now c.commands.command-index _ c.commands-test.true (sym c.eq.ensures ∙ c.if-eq.true))
    ∙ ap (λ l. slice_get l 0) c.commands.invariant

pub returns : goal.returns
returns c =
    sym (ap (λ l. slice_get l 0) (called_past (λ command. bytes_eq c.args.word.now command.0.now) (λ command. command.1) c.args.commands.now c.commands.command-index c.commands-test.false))
    ∙ ap (λ l. slice_get l 0) c.commands.invariant
