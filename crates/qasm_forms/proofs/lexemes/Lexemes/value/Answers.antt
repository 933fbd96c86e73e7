use Rattle.std.proofs.Common.{◌∙◌, subst, []}
use Rattle.qasm_lex.specs.Lexemes.{lexemes_of}
use Rattle.qasm_lex.specs.Angles.{IsOutcome, outcome_by}
use Rattle.qasm_lex.specs.Symbols.{symbols}
use Rattle.std.proofs.Common.{ap}
use Rattle.qasm_lex.proofs.AngleLemmas.{symbols_bare}
use Rattle.qasm_forms.proofs.lexemes.Lexemes.value.Goals as goal

pub returns : goal.returns
returns c =
    subst (λ s. IsOutcome [] s (outcome_by c.angle_value.result))
    (symbols_bare (lexemes_of c.self.inside.text.now c.self.inside.tokens.now) ∙ ap symbols c.self.view_is) c.angle_value.ensures.is
