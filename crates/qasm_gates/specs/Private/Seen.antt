-- The code's types as the definitions have them.
use Rattle.std.specs.Prelude.{ℕ, List, replicate}
use Rattle.gate_set.specs.declared.kind.Kind.{Kind}
use Rattle.qasm_gates.specs.declared.builtin.Base.{Base as CodeBase}
use Rattle.qasm_gates.specs.declared.builtin.Base.TheVariants.{Gate, Turn, Phase}
use Rattle.qasm_gates.specs.declared.builtin.Builtin.{Builtin as CodeBuiltin}
use Rattle.qasm_gates.specs.Gates.{Item, Base, Builtin, gate, turn, phase, one}

abbrev pub seen_base : CodeBase → Base
seen_base (Gate kind) = gate kind
seen_base (Turn forth back) = turn forth back
seen_base Phase = phase

abbrev pub seen_builtin : CodeBuiltin → Builtin
seen_builtin b = record { controls = b.controls; base = seen_base b.base }

-- so many gates of a kind, with n further controls
abbrev pub items_of : ℕ → Kind × ℕ → List Item
items_of n p = replicate p.1 (one n p.0)
