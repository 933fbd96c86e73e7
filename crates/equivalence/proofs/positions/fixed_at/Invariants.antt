use Rattle.equivalence.specs.Positions.{AreFixed}
use Rattle.equivalence.proofs.positions.fixed_at.Given as goal

abbrev pub invariant-loop-i : goal.invariant-loop-i
invariant-loop-i l = record {
  fixed : AreFixed l.fn.qubits l.fn.x l.i l.p;
}
