use Rattle.std.proofs.Common.{◌≡◌, length}
use Rattle.std.specs.List.{list_any}
use Rattle.qasm_reader.specs.Private.Seen.{seen_targets}
use Rattle.qasm_reader.specs.Acts.{qubits_at}
use Rattle.qasm_reader.specs.Private.Scope.{flagged}
use Rattle.qasm_reader.proofs.targets.touches_at.Given as goal

abbrev pub invariant-loop-target : goal.invariant-loop-target
invariant-loop-target l = list_any (flagged l.flags) (qubits_at (seen_targets l.fn.targets) l.place) ≡ list_any (flagged l.flags) (qubits_at (seen_targets l.rest) l.place)

abbrev pub decreases-loop-target : goal.decreases-loop-target
decreases-loop-target l = length l.rest
