-- What the clauses of private functions see of a matrix that is kept as a list of all entries.
use Rattle.std.specs.Prelude.{◌≡◌, ◌≤◌, ℕ, ◌+◌, ◌^◌, List, length, map}
use Rattle.ring_omega.specs.declared.quad.Quad.{Quad}
use Rattle.bit_lists.specs.Lists.{all_lists}
use Rattle.circuit_model.specs.Working.{Scaled}

-- the number of qubits, the entries by their places, and the exponent
pub record Entries : Type 0 where
  pub qubits : ℕ
  pub entries : List Quad
  pub exponent : ℕ

-- an entry for each position, and as many places spare
pub record IsKept (qubits : ℕ) (entries spare : List Quad) : Type 0 where
  pub few_qubits : qubits ≤ 6
  pub size : length entries ≡ 2 ^ (qubits + qubits)
  pub room : length spare ≡ 2 ^ (qubits + qubits)

-- the entries are those of w, over the same power of √2
abbrev pub IsMatrix : Entries → Scaled → Type 0
IsMatrix m w = (m.entries ≡ map w.entries (all_lists (m.qubits + m.qubits))) × (m.exponent ≡ w.exponent)
