use Rattle.std.proofs.Common.{◌≡◌, ◌≤◌, length}
use Rattle.qasm_reader.specs.Private.Scope.{seen_found}
use Rattle.qasm_reader.proofs.Looking.{nothing_found, look}
use Rattle.qasm_reader.proofs.calls.look_up.Given as goal

abbrev pub invariant-loop-argument : goal.invariant-loop-argument
invariant-loop-argument l = record { looked : look l.registers nothing_found l.fn.arguments ≡ look l.registers (seen_found l.found) l.rest; few : length l.found.targets.items ≤ 64 }

abbrev pub decreases-loop-argument : goal.decreases-loop-argument
decreases-loop-argument l = length l.rest
