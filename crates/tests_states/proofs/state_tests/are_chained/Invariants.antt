use Rattle.std.proofs.Common.{◌≡◌, length}
use Rattle.tests_states.proofs.state_tests.are_chained.Given as goal

-- the state keeps its qubits
abbrev pub invariant-loop-q : goal.invariant-loop-q
invariant-loop-q g l = length (g.A.Amplitudes.standing l.state).input ≡ 64
