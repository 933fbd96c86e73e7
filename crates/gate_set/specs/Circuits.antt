-- Circuits: a number of qubits, gates on them in the order in which they act, and which qubits are measured.
use Rattle.std.specs.Prelude.{◌≡◌, ◌≤◌, ℕ, Bool, List, length, map, All, reverse}
use Rattle.gate_set.specs.declared.gate.Gate.{Gate}
use Rattle.gate_set.specs.Matrix.{inverse_of}
use Rattle.gate_set.specs.Shape.{IsOn}

-- what contracts see of a circuit
pub record Circuit : Type 0 where
  pub qubits : ℕ
  pub gates : List Gate
  pub measured : List Bool

-- at most 64 qubits and 1,000,000 gates on them, and a flag for each qubit
pub record IsCircuit (c : Circuit) : Type 0 where
  pub few_qubits : c.qubits ≤ 64
  pub few_gates : length c.gates ≤ 1000000
  pub within : All (IsOn c.qubits) c.gates
  pub flags : length c.measured ≡ c.qubits

-- the gate with the inverse matrix, on the same qubits, with the same further controls
abbrev pub inverse_gate : Gate → Gate
inverse_gate g = record { kind = inverse_of g.kind; on = g.on; extra = g.extra }

-- the inverse gates, the last one first
abbrev pub inverse_gates : List Gate → List Gate
inverse_gates gates = reverse (map inverse_gate gates)
