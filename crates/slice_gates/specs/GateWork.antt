-- The work functions of a gate: what the nodes of a store come from while the gate is applied.
use Rattle.std.specs.Prelude.{ℕ, ◌+◌, ◌-◌, ◌^◌, ◌==◌, nat_eq, Bool, cond, List, ◌∷◌, length, map, filter, take, get_or}
use Rattle.std.specs.List.{list_any, range_with_len}
use Rattle.bit_lists.specs.Lists.{bit_value}
use Rattle.diagram_model.specs.Functions.{Function}
use Rattle.diagram_model.specs.Stores.{Diagram, function_of}
use Rattle.diagram_ops.specs.Made.{Property, IsPrefixOfSome}
use Rattle.gate_set.specs.declared.entry.Entry.{Entry}
use Rattle.gate_set.specs.declared.gate.Gate.{Gate}
use Rattle.gate_set.specs.declared.kind.Kind.{Kind}
use Rattle.gate_set.specs.Matrix.{half_power_of, arity_of}
use Rattle.gate_set.specs.Shape.{qubits_of, arity_with}
use Rattle.ring_omega.specs.declared.quad.Quad.{Quad}
use Rattle.slice_quad.specs.declared.quad.SliceQuad.{SliceQuad}
use Rattle.slice_quad.specs.Bits.{bits_of}
use Rattle.slice_quad.specs.Exchange.{Exchange, exchange_work}
use Rattle.slice_quad.specs.Mix.{Mix, Coordinates}
use Rattle.slice_quad.specs.Work.{mix_functions}
use Rattle.slice_gates.specs.declared.side.Side.{Side}
use Rattle.slice_gates.specs.declared.side.Side.TheVariants.{State}
use Rattle.slice_gates.specs.Shown.{by_values}
use Rattle.slice_gates.specs.Sides.{place_on, entry_on}
use Rattle.slice_gates.specs.Stepped.{exchanges}

-- the variables, of n, of all of a gate's qubits but the last k, in rising order
abbrev pub controls_on : ℕ → Side → Gate → ℕ → List ℕ
controls_on n side g k = filter (λ v. list_any (nat_eq v) (take (arity_with g - k) (map (place_on side) (qubits_of g)))) (range_with_len 0 n)

-- the variable of its k-th last qubit
abbrev pub variable_on : Side → Gate → ℕ → ℕ
variable_on side g k = get_or (map (place_on side) (qubits_of g)) (arity_with g - k) 0

-- the entry in one of the last two rows and columns of a kind's matrix
abbrev pub last_entry : Side → Kind → Bool → Bool → Entry
last_entry side k row col = entry_on side k (2 ^ arity_of k - 2 + bit_value row) (2 ^ arity_of k - 2 + bit_value col)

-- its last two rows act on the last qubit, where the others are 1
abbrev pub mix_on : ℕ → Side → Gate → Mix
mix_on n side g = record { controls = controls_on n side g 1; target = variable_on side g 1; rows = last_entry side g.kind; rooted = half_power_of g.kind == 1 }

-- the last two qubits are exchanged, where the others are 1
abbrev pub exchange_on : ℕ → Side → Gate → Exchange
exchange_on n side g = record { controls = controls_on n side g 2; first = variable_on side g 2; second = variable_on side g 1 }

-- the functions of a gate on coordinates of w bits, beside the kept one
abbrev pub functions_on : ℕ → Side → Gate → ℕ → Coordinates → List Function
functions_on n side g w q = cond (exchanges g.kind) (exchange_work w (exchange_on n side g) q) (mix_functions w (mix_on n side g) q)

-- those of the gate on the working vector v of n qubits, whose coefficients are signed numbers of w bits, beside the kept function
unfoldable pub gate_work : ℕ → ℕ → Function → Gate → (List Bool → Quad) → List Function
gate_work n w kept g v = kept ∷ functions_on n State g w (bits_of (by_values n v))

-- a function that arises from one of those of the vector q, by fixing a prefix of the order
abbrev pub IsGateWork : Diagram → SliceQuad → Gate → (List Bool → Quad) → Property
IsGateWork d q g v = IsPrefixOfSome d.order (gate_work (length d.order) (length q.four.a) (function_of d q.kept.0) g v)
