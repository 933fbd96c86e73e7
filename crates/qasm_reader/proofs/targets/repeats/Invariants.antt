use Rattle.std.proofs.Common.{◌≡◌, false}
use Rattle.std.specs.List.{list_any}
use Rattle.qasm_reader.specs.Private.Seen.{seen_targets}
use Rattle.qasm_gates.specs.Gates.{up_to}
use Rattle.qasm_reader.specs.Acts.{qubits_at}
use Rattle.qasm_reader.specs.Private.Scope.{has_twice}
use Rattle.qasm_reader.proofs.targets.repeats.Given as goal

abbrev pub invariant-loop-place : goal.invariant-loop-place
invariant-loop-place l = list_any (λ place. has_twice (qubits_at (seen_targets l.targets) place)) (up_to l.place) ≡ false
