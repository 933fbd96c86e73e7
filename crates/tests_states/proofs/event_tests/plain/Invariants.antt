use Rattle.std.proofs.Common.{◌≡◌, length}
use Rattle.tests_states.proofs.event_tests.plain.Given as goal

-- the state stays on two qubits
abbrev pub invariant-events : goal.invariant-events
invariant-events g l = length (g.A.Amplitudes.standing l.state).input ≡ 2
