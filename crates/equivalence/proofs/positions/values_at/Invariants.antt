use Rattle.std.proofs.Common.{◌≡◌, ℕ, ◌+◌, ◌<◌, length}
use Rattle.diagram_model.specs.Functions.{bit}
use Rattle.equivalence.specs.Positions.{variable_at}
use Rattle.equivalence.proofs.positions.values_at.Given as goal

abbrev pub invariant-loop-i : goal.invariant-loop-i
invariant-loop-i l = record {
  long : length l.values ≡ l.fn.qubits + l.fn.qubits;
  same : (j : ℕ) → j < l.i → bit l.values (variable_at l.fn.qubits j) ≡ bit l.fn.x j;
}
