use Rattle.qasm_lex.proofs.Counts.{tokens_few}
use Rattle.qasm_lex.proofs.laws.tokens_are_at_most_the_bytes.Goals as goal

pub returns : goal.returns
returns c text list bad a = tokens_few text list bad a
