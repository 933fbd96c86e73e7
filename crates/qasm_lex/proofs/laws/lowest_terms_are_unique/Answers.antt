use Rattle.qasm_lex.proofs.FractionLemmas.{lowest_same}
use Rattle.qasm_lex.proofs.laws.lowest_terms_are_unique.Goals as goal

pub returns : goal.returns
returns c n d m e p q s = lowest_same n d m e p q s
