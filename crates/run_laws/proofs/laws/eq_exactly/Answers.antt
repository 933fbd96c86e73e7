use Rattle.run_laws.proofs.EqTexts.{texts_done, texts_differ, texts_tell}
use Rattle.run_laws.proofs.laws.eq_exactly.Goals as goal

pub returns-clause-done : goal.returns-clause-done
returns-clause-done c = texts_done

pub returns-clause-differs : goal.returns-clause-differs
returns-clause-differs c = texts_differ

pub returns-clause-first : goal.returns-clause-first
returns-clause-first c = texts_tell
