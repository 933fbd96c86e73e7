use Rattle.qasm_lex.proofs.Cuts.{tokens_same}
use Rattle.qasm_lex.proofs.laws.tokens_are_unique.Goals as goal

pub returns : goal.returns
returns c text list more bad worse a b = tokens_same text list more bad worse a b
