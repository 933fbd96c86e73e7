use Rattle.std.proofs.Common.{◌≡◌, length}
use Rattle.std.specs.List.{list_any}
use Rattle.qasm_forms.specs.Private.Parsing.{is_function}
use Rattle.qasm_forms.proofs.names.has_function.Given as goal

abbrev pub invariant-loop-name : goal.invariant-loop-name
invariant-loop-name l = list_any is_function l.names ≡ list_any is_function l.rest

abbrev pub decreases-loop-name : goal.decreases-loop-name
decreases-loop-name l = length l.rest
