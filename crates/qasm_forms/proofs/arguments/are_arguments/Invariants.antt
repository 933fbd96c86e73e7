use Rattle.std.proofs.Common.{◌≡◌, is_some, length}
use Rattle.qasm_forms.specs.Private.Parsing.{arguments_at}
use Rattle.qasm_forms.proofs.arguments.are_arguments.Given as goal

abbrev pub invariant-loop : goal.invariant-loop
invariant-loop l = is_some (arguments_at l.lexemes) ≡ is_some (arguments_at l.rest)

abbrev pub decreases-loop : goal.decreases-loop
decreases-loop l = length l.rest
