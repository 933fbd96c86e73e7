use Rattle.qasm_lex.proofs.EveryAnswer.{every_answer}
use Rattle.qasm_lex.proofs.laws.every_angle_has_an_answer.Goals as goal

pub returns : goal.returns
returns c symbols = every_answer symbols
