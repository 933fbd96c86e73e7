use Rattle.std.proofs.Common.{◌≡◌, sym, ap, subst, List}
use Rattle.qasm_lex.specs.declared.symbol.Symbol.{Symbol}
use Rattle.qasm_lex.specs.Lexemes.{lexemes_of}
use Rattle.qasm_lex.specs.Symbols.{symbols}
use Rattle.qasm_lex.specs.Angles.{IsAnswer, answer_of}
use Rattle.qasm_forms.proofs.lexemes.Lexemes.fraction.Goals as goal

same : (c : goal.After-angle) → symbols (lexemes_of c.self.inside.text.now c.self.inside.tokens.now) ≡ symbols c.args.self.now
same c = ap symbols c.self.view_is

pub returns-clause-is : goal.returns-clause-is
returns-clause-is c = subst (λ (s : List Symbol). IsAnswer s (answer_of c.angle.result)) (same c) c.angle.ensures.answer

pub returns-clause-only : goal.returns-clause-only
returns-clause-only c answer a = c.angle.ensures.only answer (subst (λ (s : List Symbol). IsAnswer s answer) (sym (same c)) a)
