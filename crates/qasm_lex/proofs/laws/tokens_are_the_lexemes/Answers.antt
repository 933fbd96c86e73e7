use Rattle.qasm_lex.proofs.LexemeCuts.{are_lexemes, lexemes_same}
use Rattle.qasm_lex.proofs.laws.tokens_are_the_lexemes.Goals as goal

pub returns-clause-are : goal.returns-clause-are
returns-clause-are c text list bad a = are_lexemes text list bad a

pub returns-clause-only : goal.returns-clause-only
returns-clause-only c text list more bad worse a b = lexemes_same text list more bad worse a b
