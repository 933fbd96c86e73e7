use Rattle.std.proofs.Common.{◌≡◌, ◌≤◌, ◌+◌, length, take, drop, Ok}
use Rattle.comparison.specs.Steps.{mixed, steps_of}
use Rattle.unitary_update.specs.Kept.{standing_of, Multiplies}
use Rattle.equivalence.proofs.comparing.stepped.Given as goal

-- the matrix after the steps so far, and the steps that are left
abbrev pub invariant-steps : goal.invariant-steps
invariant-steps l = record {
  count : l.i + l.j ≡ l._step;
  i_in : l.i ≤ length l.us;
  j_in : l.j ≤ length l.vs;
  rest : drop l._step (steps_of l.us l.vs) ≡ mixed (length l.us) (length l.vs) l.i l.j (drop l.i l.us) (drop l.j l.vs);
  after : Multiplies l.rules l.qubits (take l._step (steps_of l.us l.vs)) (Ok (standing_of l.matrix));
}
