use Rattle.std.proofs.Common.{rules, ◌≡◌, ◌∙◌, sym, ap, take, suc, All, Some, None, subst}
use Rattle.std.proofs.lemmas.List.Elements.{All-take, All-drop}
use Rattle.qasm_lex.specs.Lexemes.{IsWithin, lexemes_of}
use Rattle.qasm_forms.specs.Private.Fronts.{angle_place, angle_at, then_angle}
use Rattle.qasm_forms.proofs.Tokens.{angle_in_tokens, angle_parts}
use Rattle.qasm_forms.proofs.lexemes.Lexemes.angle.Goals as goal

pub returns-in_err-place : goal.returns-in_err-place
returns-in_err-place c =
    let none : c.from_residual.result ≡ None = search rules in
    let e : angle_place 0 c.self.inside.tokens.now ≡ None = search rules in
    ap (λ r. then_angle r c.args.self.now) none ∙ sym (ap (angle_at 0) (sym c.self.view_is) ∙ angle_in_tokens 0 c.self.inside.text.now c.self.inside.tokens.now
    ∙ ap (angle_parts c.self.inside.text.now c.self.inside.tokens.now) e)

pub invariant_of-front : goal.invariant_of-front
invariant_of-front c = All-take (IsWithin c.self.inside.text.now) c.in_ok-place.place c.self.inside.tokens.now c.self.invariant

pub invariant_of-self : goal.invariant_of-self
invariant_of-self c =
    subst (All (IsWithin c.self.inside.text.now)) (sym c.behind-self-inside.ensures) (All-drop (IsWithin c.self.inside.text.now) (suc c.in_ok-place.place) c.self.inside.tokens.now c.self.invariant)

pub returns : goal.returns
returns c =
    let e : angle_place 0 c.self.inside.tokens.now ≡ Some (c.in_ok-place.place, c.in_ok-place.last) = search rules in
    ap (λ r. Some (lexemes_of c.self.inside.text.now (take c.in_ok-place.place c.self.inside.tokens.now), c.in_ok-place.last, lexemes_of c.self.inside.text.now r)) c.behind-self-inside.ensures
    ∙ sym (ap (angle_at 0) (sym c.self.view_is) ∙ angle_in_tokens 0 c.self.inside.text.now c.self.inside.tokens.now
    ∙ ap (angle_parts c.self.inside.text.now c.self.inside.tokens.now) e)
