use Rattle.std.proofs.Common.{◌≡◌, [], is_some, length}
use Rattle.qasm_forms.specs.Private.Parsing.{lines_read}
use Rattle.qasm_forms.proofs.lines.are_lines.Given as goal

abbrev pub invariant-loop-rest : goal.invariant-loop-rest
invariant-loop-rest l = is_some (lines_read [] l.lexemes) ≡ is_some (lines_read [] l.rest)

abbrev pub decreases-loop-rest : goal.decreases-loop-rest
decreases-loop-rest l = length l.rest
