use Rattle.std.proofs.Common.{◌≡◌, length}
use Rattle.tests_states.proofs.sift_tests.accepted.Given as goal

-- the state stays on twelve qubits
abbrev pub invariant-loop-place : goal.invariant-loop-place
invariant-loop-place g l = length (g.A.Amplitudes.standing l.state).input ≡ 12
