use Rattle.std.proofs.Common.{◌≡◌, ◌∙◌, ◌∷◌, sym, ap, subst, not, true, is_some}
use Rattle.qasm_forms.specs.declared.lexemes.Stop.TheVariants.{Comma}
use Rattle.qasm_forms.specs.Cutting.{has_stop}
use Rattle.qasm_forms.specs.Private.Parsing.{argument_at, arguments_at, left_arguments}
use Rattle.qasm_forms.proofs.Listed.{NextArgument, next_argument, match_some}
use Rattle.qasm_forms.proofs.arguments.Arguments.next.Goals as goal

-- the first argument, and those that are left
first : (c : goal.After-read_argument) → NextArgument c.self.inside.rest
first c = next_argument c.self.inside.rest (c.self.invariant c.if-self.false)

pub invariant_of-self : goal.invariant_of-self
invariant_of-self c h =
    subst (λ ls. is_some (arguments_at ls) ≡ true) (sym c.cut-front.ensures.rest) ((first c).more (sym (ap not c.cut-front.ensures.found) ∙ h))

pub returns : goal.returns
returns c =
    let n = first c in
    match_some c.read_argument.result n.argument _ _ (c.read_argument.ensures ∙ ap argument_at c.cut-front.ensures.front ∙ n.is)
    (sym c.self.view_is ∙ ap (λ b. left_arguments b c.self.inside.rest) c.if-self.false ∙ n.all
    ∙ sym (ap (λ b. n.argument ∷ left_arguments (not b) c.cut-front.new.self) c.cut-front.ensures.found
    ∙ ap (λ ls. n.argument ∷ left_arguments (not (has_stop Comma c.self.inside.rest)) ls) c.cut-front.ensures.rest))
