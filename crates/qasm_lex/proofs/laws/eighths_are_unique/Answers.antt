use Rattle.qasm_lex.proofs.OneQuarters.{one_eighths}
use Rattle.qasm_lex.proofs.laws.eighths_are_unique.Goals as goal

pub returns : goal.returns
returns c f m k p a b = one_eighths f m k p a b
