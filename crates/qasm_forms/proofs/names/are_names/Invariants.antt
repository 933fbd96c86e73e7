use Rattle.std.proofs.Common.{◌≡◌, is_some, length}
use Rattle.qasm_forms.specs.Private.Parsing.{names_in}
use Rattle.qasm_forms.proofs.names.are_names.Given as goal

abbrev pub invariant-loop-argument : goal.invariant-loop-argument
invariant-loop-argument l = is_some (names_in l.arguments) ≡ is_some (names_in l.rest)

abbrev pub decreases-loop-argument : goal.decreases-loop-argument
decreases-loop-argument l = length l.rest
