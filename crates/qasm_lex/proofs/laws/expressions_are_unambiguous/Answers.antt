use Rattle.qasm_lex.proofs.Whole.{unambiguous}
use Rattle.qasm_lex.proofs.laws.expressions_are_unambiguous.Goals as goal

pub returns : goal.returns
returns c s t f g e = unambiguous s t f g e
