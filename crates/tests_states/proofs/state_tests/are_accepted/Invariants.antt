use Rattle.std.proofs.Common.{◌≡◌, length}
use Rattle.tests_states.proofs.state_tests.are_accepted.Given as goal

-- the state keeps its qubits
abbrev pub invariant-loop-turn : goal.invariant-loop-turn
invariant-loop-turn g l = length (g.A.Amplitudes.standing l.state).input ≡ 64
