use Rattle.std.proofs.Common.{◌≡◌, length}
use Rattle.tests_states.proofs.tools.are_applied.Given as goal

-- the state stays on as many qubits
abbrev pub invariant-loop-row : goal.invariant-loop-row
invariant-loop-row g l = length (g.A.Amplitudes.standing l.state).input ≡ l.fn.qubits
