use Rattle.std.proofs.Common.{◌≡◌, ◌∙◌, sym, ap, [], subst, rules, arith}
use Rattle.std.proofs.lemmas.List.{length-map}
use Rattle.qasm_lex.specs.Lexemes.{lexeme_of, lexemes_of}
use Rattle.qasm_lex.specs.Symbols.{symbol_of, symbols, symbols_in}
use Rattle.qasm_lex.specs.Angles.{IsAnswer, answer_of}
use Rattle.qasm_lex.specs.Private.Descent.{parsed, expr, whole_of, answer_from}
use Rattle.qasm_lex.proofs.AngleLemmas.{answer_is, long_is, symbols_bare}
use Rattle.qasm_lex.proofs.OneAnswer.{one_answer}
use Rattle.qasm_lex.proofs.angles.angle.Goals as goal

-- the answer is read from the symbols of the tokens
pub returns-clause-answer : goal.returns-clause-answer
returns-clause-answer c =
    let ls = lexemes_of c.args.text.now c.args.list.now in
    let bare : answer_of c.fraction_of.result ≡ answer_from (whole_of (parsed [] expr (symbols_in [] ls))) = search rules in
    let read : answer_of c.fraction_of.result ≡ answer_from (whole_of (parsed [] expr (symbols ls))) =
    bare ∙ ap (λ s. answer_from (whole_of (parsed [] expr s))) (symbols_bare ls) in
    let e = length-map c.args.list.now (lexeme_of c.args.text.now) in
    let f = length-map ls symbol_of in
    let h = c.if-list-gt-LONGEST.false in
    subst (IsAnswer (symbols ls)) (sym read) (answer_is _ (omega arith))

pub returns-clause-only : goal.returns-clause-only
returns-clause-only c answer a = one_answer _ answer _ a (returns-clause-answer c)

pub returns-then-list-gt-LONGEST-clause-answer : goal.returns-then-list-gt-LONGEST-clause-answer
returns-then-list-gt-LONGEST-clause-answer c =
    let e = length-map c.args.list.now (lexeme_of c.args.text.now) in
    let f = length-map (lexemes_of c.args.text.now c.args.list.now) symbol_of in
    let h = c.if-list-gt-LONGEST.true in
    long_is _ (omega arith)

pub returns-then-list-gt-LONGEST-clause-only : goal.returns-then-list-gt-LONGEST-clause-only
returns-then-list-gt-LONGEST-clause-only c answer a = one_answer _ answer _ a (returns-then-list-gt-LONGEST-clause-answer c)
