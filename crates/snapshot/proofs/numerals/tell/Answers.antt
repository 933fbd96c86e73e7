use Rattle.std.proofs.Common.{◌++◌, [], ap, sym, ◌∙◌, append-nil}
use Rattle.snapshot.specs.Reading.{numerals_from}
use Rattle.snapshot.proofs.numerals.tell.Goals as goal

pub returns-in_ok-push-in-Some : goal.returns-in_ok-push-in-Some
unfolding numerals_from
returns-in_ok-push-in-Some c = c.in_ok-push-in-Some.ensures.items ∙ ap (λ r. c.args.out.now.items ++ numerals_from r []) (sym c.in-Some.is)

pub returns-in-None : goal.returns-in-None
unfolding numerals_from
returns-in-None c = sym (append-nil c.args.out.now.items) ∙ ap (λ r. c.args.out.now.items ++ numerals_from r []) (sym c.in-None.is)
