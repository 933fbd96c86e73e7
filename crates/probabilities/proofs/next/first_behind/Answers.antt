use Rattle.std.proofs.Common.{◌≡◌, Some, None, length, replicate, refl, ap, sym, ◌∙◌}
use Rattle.std.specs.Option.{option_copied}
use Rattle.probabilities.proofs.PossibleLemmas.{behind_none, behind_some}
use Rattle.probabilities.proofs.next.first_behind.Goals as goal

pub returns-in-None : goal.returns-in-None
returns-in-None c = behind_none c.args.count (option_copied c.args.after) _ (ap option_copied c.in-None.is) (ap Some c.zeros.ensures)

pub returns-in-Some : goal.returns-in-Some
returns-in-Some c =
    let given = ap option_copied c.in-Some.is in
    behind_some c.args.count (option_copied c.args.after) c.next_lex.result c.in-Some.y.now given (c.requires.given c.in-Some.y.now given) c.next_lex.ensures.next c.next_lex.ensures.place c.next_lex.ensures.none
