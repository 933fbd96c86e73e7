use Rattle.std.proofs.Common.{◌≡◌, length}
use Rattle.qasm_reader.specs.Private.Seen.{seen_targets}
use Rattle.qasm_reader.specs.Acts.{qubits_at}
use Rattle.qasm_reader.specs.Private.Scope.{has_twice}
use Rattle.qasm_reader.proofs.targets.has_twice.Given as goal

abbrev pub invariant-loop-target : goal.invariant-loop-target
invariant-loop-target l = has_twice (qubits_at (seen_targets l.fn.targets) l.place) ≡ has_twice (qubits_at (seen_targets l.rest) l.place)

abbrev pub decreases-loop-target : goal.decreases-loop-target
decreases-loop-target l = length l.rest
