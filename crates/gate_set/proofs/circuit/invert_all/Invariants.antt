use Rattle.std.proofs.Common.{◌≡◌, ◌++◌, map, take, drop}
use Rattle.gate_set.specs.Circuits.{inverse_gate}
use Rattle.gate_set.proofs.circuit.invert_all.Given as goal

-- those before the index are inverted
abbrev pub invariant-loop-gate : goal.invariant-loop-gate
invariant-loop-gate l = l.gates ≡ map inverse_gate (take l.gate-index l.initial.gates) ++ drop l.gate-index l.initial.gates
