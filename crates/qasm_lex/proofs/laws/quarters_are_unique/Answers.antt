use Rattle.qasm_lex.proofs.OneQuarters.{one_quarters}
use Rattle.qasm_lex.proofs.laws.quarters_are_unique.Goals as goal

pub returns : goal.returns
returns c f m k p a b = one_quarters f m k p a b
