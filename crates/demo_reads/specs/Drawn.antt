-- The circuit of the calls that are drawn.
use Rattle.std.specs.Prelude.{ℕ, false, [], map, replicate, Option, Some, None}
use Rattle.gate_set.specs.declared.kind.Kind.{Kind}
use Rattle.gate_set.specs.declared.kind.Kind.TheVariants.{Id}
use Rattle.gate_set.specs.declared.gate.Gate.{Gate}
use Rattle.gate_set.specs.Circuits.{Circuit}
use Rattle.qasm_gates.specs.Gates.{Base, Builtin, gate, builtin}
use Rattle.demo_text.specs.Generator.{Call, demo_calls}

-- the kind of a name's gate; each name that is drawn has one
abbrev pub kind_of : Base → Kind
kind_of (gate kind) = kind
kind_of _ = Id

abbrev pub kind_in : Option Builtin → Kind
kind_in (Some n) = kind_of n.base
kind_in None = Id

-- the gate of a call: its name's kind, on its qubits
abbrev pub gate_of : Call → Gate
gate_of c = record { kind = kind_in (builtin c.name); on = c.on; extra = [] }

-- one gate for each call, in their order; nothing is measured
abbrev pub drawn_circuit : ℕ → ℕ → ℕ → Circuit
drawn_circuit q n seed = record { qubits = q; gates = map gate_of (demo_calls q n seed); measured = replicate q false }
