use Rattle.std.proofs.Common.{◌≡◌, drop}
use Rattle.std.specs.Str.{bytes_eq}
use Rattle.sliq_words.proofs.Commands.{called}
use Rattle.sliq_words.proofs.form.named_in.Given as goal

-- those of this name stand from this place on
abbrev pub invariant-commands : goal.invariant-commands
invariant-commands l = called (λ command. bytes_eq l.word command.0.now) (λ command. command.1) (drop l.command-index l.commands) ≡ called (λ command. bytes_eq l.word command.0.now) (λ command. command.1) l.commands
