use Rattle.std.proofs.Common.{◌≡◌, ◌≤◌, ◌+◌, length, take, drop}
use Rattle.comparison.specs.Products.{work_matrix, AllStepsFit}
use Rattle.comparison.specs.Steps.{mixed, steps_of}
use Rattle.dense_matrix.specs.Kept.{IsMatrix}
use Rattle.dense_matrix.proofs.comparing.multiplied.Given as goal

-- the matrix after the steps so far, and the steps that are left
abbrev pub invariant-steps : goal.invariant-steps
invariant-steps l = record {
  count : l.i + l.j ≡ l.step;
  i_in : l.i ≤ length l.us;
  j_in : l.j ≤ length l.vs;
  rest : drop l.step (steps_of l.us l.vs) ≡ mixed (length l.us) (length l.vs) l.i l.j (drop l.i l.us) (drop l.j l.vs);
  qubits : l.matrix.qubits ≡ l.qubits;
  kept : IsMatrix l.matrix (work_matrix l.qubits (take l.step (steps_of l.us l.vs)));
  small : l.matrix.exponent ≤ l.step;
  fits : AllStepsFit l.width l.qubits (take l.step (steps_of l.us l.vs));
}
