use Rattle.std.proofs.Common.{◌≡◌, ◌+◌, ◌<◌, ℕ, [], map, take, get_or}
use Rattle.bit_lists.specs.Lists.{all_lists}
use Rattle.circuit_model.specs.Vector.{at}
use Rattle.circuit_model.specs.Working.{QuadFits}
use Rattle.comparison.specs.Products.{times_step, joined, by_position}
use Rattle.comparison.specs.Sides.{step_of}
use Rattle.dense_matrix.proofs.step.write_raw.Given as goal

-- the entries so far, all of them within the width
abbrev pub invariant-places : goal.invariant-places
invariant-places l = record {
  raw : take l.place l.next ≡ map (joined l.qubits (times_step (step_of l.side l.gate) (by_position (at l.state)))) (take l.place (all_lists (l.qubits + l.qubits)));
  fits : (k : ℕ) → k < l.place → QuadFits l.width (joined l.qubits (times_step (step_of l.side l.gate) (by_position (at l.state))) (get_or (all_lists (l.qubits + l.qubits)) k []));
}
