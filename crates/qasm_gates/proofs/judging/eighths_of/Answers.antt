use Rattle.qasm_lex.specs.Angles.{ratio_of}
use Rattle.qasm_gates.proofs.WholeTurns.{eighths_are}
use Rattle.qasm_gates.proofs.judging.eighths_of.Goals as goal

pub returns : goal.returns
returns c = eighths_are (ratio_of c.args.f) c.eighth.result c.args.f.positive c.eighth.ensures.only c.eighth.ensures.found
