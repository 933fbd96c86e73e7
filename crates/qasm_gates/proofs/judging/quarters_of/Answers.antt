use Rattle.qasm_lex.specs.Angles.{ratio_of}
use Rattle.qasm_gates.proofs.WholeTurns.{quarters_are}
use Rattle.qasm_gates.proofs.judging.quarters_of.Goals as goal

pub returns-clause-value : goal.returns-clause-value
returns-clause-value c = quarters_are (ratio_of c.args.f) c.quarter.result c.args.f.positive c.quarter.ensures.only c.quarter.ensures.found
