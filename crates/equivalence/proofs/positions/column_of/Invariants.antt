use Rattle.std.proofs.Common.{◌≡◌, ℕ, ◌+◌, ◌<◌, length}
use Rattle.diagram_model.specs.Functions.{bit}
use Rattle.equivalence.proofs.positions.column_of.Given as goal

abbrev pub invariant-loop-i : goal.invariant-loop-i
invariant-loop-i l = record {
  long : length l.column ≡ l.fn.qubits;
  same : (j : ℕ) → j < l.i → bit l.column j ≡ bit l.fn.x (l.fn.qubits + j);
}
