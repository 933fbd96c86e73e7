use Rattle.std.proofs.Common.{rules, ◌≡◌, ◌∙◌, sym, ap, take, suc, All, false, Some, None, subst}
use Rattle.std.proofs.lemmas.List.Elements.{All-take, All-drop}
use Rattle.qasm_lex.specs.Lexemes.{IsWithin, lexemes_of}
use Rattle.qasm_forms.specs.Private.Fronts.{end_place, then_end, seen_end}
use Rattle.qasm_forms.specs.Cutting.{end_at}
use Rattle.qasm_forms.proofs.Tokens.{end_in_tokens, end_parts}
use Rattle.qasm_forms.proofs.lexemes.Lexemes.statement.Goals as goal

pub returns-in_err-place-clause-cut : goal.returns-in_err-place-clause-cut
returns-in_err-place-clause-cut c =
    let none : c.from_residual.result ≡ None = search rules in
    let e : end_place false c.self.inside.tokens.now ≡ None = search rules in
    ap (λ r. then_end r c.args.self.now) none ∙ sym (ap (end_at false) (sym c.self.view_is) ∙ end_in_tokens false c.self.inside.text.now c.self.inside.tokens.now
    ∙ ap (end_parts c.self.inside.text.now c.self.inside.tokens.now) e)

pub invariant_of-front : goal.invariant_of-front
invariant_of-front c = All-take (IsWithin c.self.inside.text.now) c.in_ok-place.place c.self.inside.tokens.now c.self.invariant

pub invariant_of-self : goal.invariant_of-self
invariant_of-self c =
    subst (All (IsWithin c.self.inside.text.now)) (sym c.behind-self-inside.ensures) (All-drop (IsWithin c.self.inside.text.now) (suc c.in_ok-place.place) c.self.inside.tokens.now c.self.invariant)

pub returns-clause-cut : goal.returns-clause-cut
returns-clause-cut c =
    let e : end_place false c.self.inside.tokens.now ≡ Some (c.in_ok-place.place, seen_end c.in_ok-place.end) = search rules in
    ap (λ r. Some (lexemes_of c.self.inside.text.now (take c.in_ok-place.place c.self.inside.tokens.now), seen_end c.in_ok-place.end, lexemes_of c.self.inside.text.now r)) c.behind-self-inside.ensures
    ∙ sym (ap (end_at false) (sym c.self.view_is) ∙ end_in_tokens false c.self.inside.text.now c.self.inside.tokens.now
    ∙ ap (end_parts c.self.inside.text.now c.self.inside.tokens.now) e)
