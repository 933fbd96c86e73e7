use Rattle.std.proofs.Common.{rules, ◌≡◌, ◌∙◌, sym, ap, true, is_some, Some}
use Rattle.qasm_forms.specs.Private.Fronts.{and_then}
use Rattle.qasm_forms.specs.Private.Parsing.{arguments_at, names_in}
use Rattle.qasm_forms.proofs.Definitions.{names_some}
use Rattle.qasm_forms.proofs.names.read_names.Goals as goal

pub returns-then-are_names : goal.returns-then-are_names
returns-then-are_names c =
    let a : arguments_at c.args.lexemes.now ≡ Some c.in_ok-arguments.arguments = search rules in
    let h : is_some (names_in c.in_ok-arguments.arguments) ≡ true = search rules in
    names_some c.in_ok-arguments.arguments h ∙ sym (ap (λ x. and_then x names_in) a)
