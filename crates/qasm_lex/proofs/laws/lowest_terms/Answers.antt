use Rattle.qasm_lex.proofs.FractionLemmas.{lowest_value, lowest_den, lowest_gcd}
use Rattle.qasm_lex.proofs.laws.lowest_terms.Goals as goal

pub returns-clause-value : goal.returns-clause-value
returns-clause-value c n d h = lowest_value n d h

pub returns-clause-positive : goal.returns-clause-positive
returns-clause-positive c n d h = lowest_den n d h

pub returns-clause-lowest : goal.returns-clause-lowest
returns-clause-lowest c n d h = lowest_gcd n d h
