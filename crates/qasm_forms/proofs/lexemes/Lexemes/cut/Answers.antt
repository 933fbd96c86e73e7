use Rattle.std.proofs.Common.{◌∙◌, sym, ap, take, drop, suc, nat_lt, length, All, subst}
use Rattle.std.proofs.lemmas.List.Elements.{All-take, All-drop}
use Rattle.qasm_lex.specs.Lexemes.{IsWithin, lexemes_of}
use Rattle.qasm_forms.specs.Cutting.{before_stop, has_stop, after_stop}
use Rattle.qasm_forms.proofs.Tokens.{cut_at}
use Rattle.qasm_forms.proofs.lexemes.Lexemes.cut.Goals as goal

pub invariant_of-front : goal.invariant_of-front
invariant_of-front c = All-take (IsWithin c.self.inside.text.now) c.stop_place-place.result c.self.inside.tokens.now c.self.invariant

pub invariant_of-self : goal.invariant_of-self
invariant_of-self c =
    subst (All (IsWithin c.self.inside.text.now)) (sym c.behind-self-inside.ensures) (All-drop (IsWithin c.self.inside.text.now) (suc c.stop_place-place.result) c.self.inside.tokens.now c.self.invariant)

pub returns-clause-front : goal.returns-clause-front
returns-clause-front c =
    ap (λ n. lexemes_of c.self.inside.text.now (take n c.self.inside.tokens.now)) c.stop_place-place.ensures.value
    ∙ sym (cut_at c.args.stop c.self.inside.text.now c.self.inside.tokens.now).front ∙ ap (before_stop c.args.stop) c.self.view_is

pub returns-clause-found : goal.returns-clause-found
returns-clause-found c =
    ap (λ n. nat_lt n (length c.self.inside.tokens.now)) c.stop_place-place.ensures.value
    ∙ sym (cut_at c.args.stop c.self.inside.text.now c.self.inside.tokens.now).found ∙ ap (has_stop c.args.stop) c.self.view_is

pub returns-clause-rest : goal.returns-clause-rest
returns-clause-rest c =
    ap (lexemes_of c.self.inside.text.now) c.behind-self-inside.ensures
    ∙ ap (λ n. lexemes_of c.self.inside.text.now (drop (suc n) c.self.inside.tokens.now)) c.stop_place-place.ensures.value
    ∙ sym (cut_at c.args.stop c.self.inside.text.now c.self.inside.tokens.now).rest ∙ ap (after_stop c.args.stop) c.self.view_is
