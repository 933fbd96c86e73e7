use Rattle.qasm_lex.proofs.Denominators.{answer_positive}
use Rattle.qasm_lex.proofs.laws.angles_have_positive_denominators.Goals as goal

pub returns : goal.returns
returns c symbols f p = answer_positive symbols f p
