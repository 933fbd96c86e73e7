-- What contracts see of the gates of a text.
use Rattle.std.specs.Prelude.{◌≡◌, ◌<◌, ℕ, List, length, map, get_or, All}
use Rattle.std.specs.Borrow.{Bor}
use Rattle.qasm_lex.specs.Expressions.{Tree}
use Rattle.qasm_gates.specs.declared.gates.Gates.{Gates}
use Rattle.qasm_gates.specs.declared.table.Callee.{Callee}
use Rattle.qasm_gates.specs.Gates.{Named}
use Rattle.qasm_gates.specs.Bodies.{Call}
use Rattle.qasm_gates.specs.Private.Tables.{nothing, gate_of, IsCallee, shown, IsTable}

-- the gates that are defined, by name, the calls of the body of the next one, and the angles and the arguments of the next call
pub record View : Type 0 where
  pub definitions : List (List ℕ × Named)
  pub body : List Call
  pub angles : List Tree
  pub on : List ℕ

-- a name beside the gate of its number
abbrev pub entry_of : List Named → Bor (List ℕ) × ℕ → List ℕ × Named
entry_of gates e = (e.0.now, get_or gates e.1 nothing)

abbrev pub view_of : Gates → View
view_of g = record {
  definitions = map (entry_of (shown g.table).gates) g.names.entries;
  body = (shown g.table).body;
  angles = (shown g.table).angles;
  on = (shown g.table).on;
}

-- names have numbers of gates
pub record IsGates (g : Gates) : Type 0 where
  pub table : IsTable g.table
  pub numbered : All (λ e. e.1 < length g.table.rows.items) g.names.entries

abbrev pub IsKnown : Gates → Callee → Type 0
IsKnown g c = IsCallee (length g.table.rows.items) c

abbrev pub callee_gate : Gates → Callee → Named
callee_gate g c = gate_of (shown g.table).gates c

-- the gates are whole, and this is what contracts see
pub record Shows (g : Gates) (v : View) : Type 0 where
  pub sound : IsGates g
  pub shows : view_of g ≡ v
