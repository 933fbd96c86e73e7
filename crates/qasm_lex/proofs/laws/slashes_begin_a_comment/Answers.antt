use Rattle.qasm_lex.proofs.Cuts.{slashes}
use Rattle.qasm_lex.proofs.laws.slashes_begin_a_comment.Goals as goal

pub returns : goal.returns
returns c more form n b = slashes more form n b
