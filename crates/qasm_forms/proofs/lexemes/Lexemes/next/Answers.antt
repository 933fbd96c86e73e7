use Rattle.std.proofs.Common.{rules, ◌≡◌, ◌∷◌, All, subst}
use Rattle.std.proofs.lemmas.List.Elements.{All-head, All-tail}
use Rattle.qasm_lex.specs.Lexemes.{IsWithin}
use Rattle.qasm_forms.proofs.lexemes.Lexemes.next.Goals as goal

pub lexeme_of-lexeme-requires : goal.lexeme_of-lexeme-requires
lexeme_of-lexeme-requires c =
    let split : c.self.inside.tokens.now ≡ c.in_ok-token.token.now ∷ c.in_ok-token.after.now = search rules in
    All-head (IsWithin c.self.inside.text.now) c.in_ok-token.token.now c.in_ok-token.after.now (subst (All (IsWithin c.self.inside.text.now)) split c.self.invariant)

pub invariant_of-self : goal.invariant_of-self
invariant_of-self c =
    let split : c.self.inside.tokens.now ≡ c.in_ok-token.token.now ∷ c.in_ok-token.after.now = search rules in
    All-tail (IsWithin c.self.inside.text.now) c.in_ok-token.token.now c.in_ok-token.after.now (subst (All (IsWithin c.self.inside.text.now)) split c.self.invariant)
