use Rattle.std.proofs.Common.{◌≡◌, length}
use Rattle.tests_states.proofs.sift_tests.are_same_pairs.Given as goal

-- both states stay on six qubits
abbrev pub invariant-loop-place : goal.invariant-loop-place
invariant-loop-place l = record { plain : length l.plain.input ≡ 6; moved : length l.moved.input ≡ 6 }
