use Rattle.std.proofs.Common.{◌≡◌, length}
use Rattle.qasm_reader.specs.Private.Seen.{seen_targets}
use Rattle.qasm_reader.specs.Acts.{qubits_at, is_among}
use Rattle.qasm_reader.proofs.targets.has_qubit.Given as goal

abbrev pub invariant-loop-target : goal.invariant-loop-target
invariant-loop-target l = is_among (qubits_at (seen_targets l.fn.targets) l.place) l.qubit ≡ is_among (qubits_at (seen_targets l.rest) l.place) l.qubit

abbrev pub decreases-loop-target : goal.decreases-loop-target
decreases-loop-target l = length l.rest
