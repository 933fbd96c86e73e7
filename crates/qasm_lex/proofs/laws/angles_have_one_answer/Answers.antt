use Rattle.qasm_lex.proofs.OneAnswer.{one_answer}
use Rattle.qasm_lex.proofs.laws.angles_have_one_answer.Goals as goal

pub returns : goal.returns
returns c symbols a b p q = one_answer symbols a b p q
