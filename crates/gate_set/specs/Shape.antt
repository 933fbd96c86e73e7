-- Which qubits a gate may be on.
use Rattle.std.specs.Prelude.{◌≡◌, ◌≤◌, ◌<◌, ◌≢◌, ℕ, ◌+◌, List, ◌++◌, length, All, AllPairs}
use Rattle.gate_set.specs.declared.entry.Entry.{Entry}
use Rattle.gate_set.specs.declared.kind.Kind.{Kind}
use Rattle.gate_set.specs.Matrix.{arity_of, IsKind, controlled_entry}

-- as many qubits as the kind asks for, and at most eight further controls, all different, each below 64
pub record IsPlaced (kind : Kind) (extra on : List ℕ) : Type 0 where
  pub power : IsKind kind
  pub count : length on ≡ arity_of kind
  pub few : length extra ≤ 8
  pub small : All (λ q. q < 64) (extra ++ on)
  pub different : AllPairs (λ p q. p ≢ q) (extra ++ on)

-- what contracts see of a gate: its kind, the kind's qubits, and its further controls
pub record Placement : Type 0 where
  pub kind : Kind
  pub on : List ℕ
  pub extra : List ℕ

-- all qubits of a gate: its further controls, and then those of its kind
abbrev pub qubits_of : Placement → List ℕ
qubits_of g = g.extra ++ g.on

-- how many qubits it has
abbrev pub arity_with : Placement → ℕ
arity_with g = length g.extra + arity_of g.kind

-- the entry of its matrix in this row and column
abbrev pub gate_entry : Placement → ℕ → ℕ → Entry
gate_entry g row col = controlled_entry (length g.extra) g.kind row col

-- the gate is on different qubits below n
pub record IsOn (n : ℕ) (g : Placement) : Type 0 where
  pub placed : IsPlaced g.kind g.extra g.on
  pub below : All (λ q. q < n) (qubits_of g)
