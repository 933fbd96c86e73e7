use Rattle.std.proofs.Common.{◌≡◌, length}
use Rattle.tests_states.proofs.four_tests.until_refused.Given as goal

-- the state stays on four qubits
abbrev pub invariant-loop-turn : goal.invariant-loop-turn
invariant-loop-turn g l = length (g.A.Amplitudes.standing l.state).input ≡ 4
