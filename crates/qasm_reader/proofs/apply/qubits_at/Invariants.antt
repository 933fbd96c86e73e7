use Rattle.std.proofs.Common.{◌≡◌, ◌≤◌, take, length}
use Rattle.qasm_reader.specs.Acts.{qubits_at}
use Rattle.qasm_reader.specs.Private.Seen.{seen_targets}
use Rattle.qasm_reader.proofs.apply.qubits_at.Given as goal

abbrev pub invariant-loop-target : goal.invariant-loop-target
invariant-loop-target l = record { so_far : l.on.items ≡ qubits_at (seen_targets (take l.target-index l.targets)) l.place; few : length l.targets ≤ 64 }
