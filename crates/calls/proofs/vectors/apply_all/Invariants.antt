use Rattle.std.proofs.Common.{◌≡◌, length}
use Rattle.calls.proofs.vectors.apply_all.Given as goal

-- the state keeps its qubits
abbrev pub invariant-gates : goal.invariant-gates
invariant-gates l = length l.state.input ≡ l.circuit.qubits
