-- What statements do, one after the other: registers, qubits, gates, measured qubits.
use Rattle.std.specs.Prelude.{ℕ, ◌+◌, ◌*◌, Bool, true, false, nat_eq, List, [], ◌∷◌, ◌++◌, map, flat_map, filter_map, get_or, Option, Some, None, option_map, option_and_then}
use Rattle.std.specs.List.{list_any, sum_by}
use Rattle.std.specs.Str.{bytes_eq}
use Rattle.std.specs.Map.{lookup}
use Rattle.gate_set.specs.declared.gate.Gate.{Gate}
use Rattle.gate_set.specs.Circuits.{Circuit}
use Rattle.qasm_lex.specs.Symbols.{decimal}
use Rattle.qasm_forms.specs.Statements.{Argument}
use Rattle.qasm_gates.specs.Gates.{Item, Named, up_to, placed}

-- a declared register: whether it holds qubits, the number of its first qubit, and how many places it has
pub record Register : Type 0 where
  pub quantum : Bool
  pub first : ℕ
  pub size : ℕ

-- what an argument means: one qubit, or so many from the first on
pub record Target : Type 0 where
  pub first : ℕ
  pub size : Option ℕ

pub data Act : Type 0 where
  nothing : Act
  -- a register of qubits, or of bits, with its name and its size
  declares : Bool → List ℕ → ℕ → Act
  -- a gate by its name
  defines : List ℕ → Named → Act
  measures : Target → Act
  -- a call of a gate of so many items: these gates on the arguments, at each place of them in turn
  applies : ℕ → List Item → List Target → Act

abbrev pub qubits_in : Act → ℕ
qubits_in (declares true name size) = size
qubits_in _ = 0

abbrev pub qubit_count : List Act → ℕ
qubit_count [] = 0
qubit_count (a ∷ acts) = qubits_in a + qubit_count acts

-- a register of qubits has the numbers that follow those of all before it
abbrev pub registers_in : List Act → Act → List (List ℕ × Register)
registers_in before (declares true name size) = (name, record { quantum = true; first = qubit_count before; size = size }) ∷ []
registers_in before (declares false name size) = (name, record { quantum = false; first = 0; size = size }) ∷ []
registers_in before _ = []

-- the registers that acts declare, after those before
abbrev pub registers_from : List Act → List Act → List (List ℕ × Register)
registers_from before [] = []
registers_from before (a ∷ acts) = registers_in before a ++ registers_from (before ++ a ∷ []) acts

abbrev pub registers : List Act → List (List ℕ × Register)
registers acts = registers_from [] acts

-- the register of a name
abbrev pub register : List (List ℕ × Register) → List ℕ → Option Register
register all name = lookup (bytes_eq name) all

abbrev pub index_of : Option (List ℕ) → Option ℕ
index_of digits = option_map decimal digits

-- the place of an index in a register, or all its places
abbrev pub place_in : Register → Option ℕ → Target
place_in r None = record { first = r.first; size = Some r.size }
place_in r (Some i) = record { first = r.first + i; size = None }

-- what an argument means, where its register is declared
abbrev pub target : List (List ℕ × Register) → Argument → Option Target
target all a = option_map (λ r. place_in r (index_of a.index)) (register all a.name)

-- what arguments mean, where all their registers are declared
abbrev pub targets : List (List ℕ × Register) → List Argument → Option (List Target)
targets all [] = Some []
targets all (a ∷ more) = option_and_then (λ t. option_map (λ ts. t ∷ ts) (targets all more)) (target all a)

-- the sizes of those that are whole registers
abbrev pub wholes : List Target → List ℕ
wholes ts = filter_map (λ t. t.size) ts

-- how many places the arguments of a call have together: those of the whole registers, else one
abbrev pub place_count : List Target → ℕ
place_count ts = get_or (wholes ts) 0 1

abbrev pub qubit_from : ℕ → Option ℕ → ℕ → ℕ
qubit_from first None place = first
qubit_from first (Some n) place = first + place

-- the qubit of an argument at a place: a single one is the same at each
abbrev pub qubit_at : ℕ → Target → ℕ
qubit_at place t = qubit_from t.first t.size place

abbrev pub qubits_at : List Target → ℕ → List ℕ
qubits_at ts place = map (qubit_at place) ts

-- all of them at each place in turn
abbrev pub product : List Item → List Target → List Gate
product items ts = flat_map (λ place. map (placed (qubits_at ts place)) items) (up_to (place_count ts))

abbrev pub gates_in : Act → List Gate
gates_in (applies count items ts) = product items ts
gates_in _ = []

abbrev pub gates : List Act → List Gate
gates acts = flat_map gates_in acts

-- the items that a call counts
abbrev pub items_in : Act → ℕ
items_in (applies count items ts) = count * place_count ts
items_in _ = 0

abbrev pub item_count : List Act → ℕ
item_count acts = sum_by items_in acts

-- gates that are defined, by name
abbrev pub defined_in : Act → List (List ℕ × Named)
defined_in (defines name gate) = (name, gate) ∷ []
defined_in _ = []

abbrev pub definitions : List Act → List (List ℕ × Named)
definitions acts = flat_map defined_in acts

-- the qubits of an argument, place by place
abbrev pub qubits_of : Target → List ℕ
qubits_of t = map (λ place. qubit_at place t) (up_to (place_count (t ∷ [])))

abbrev pub measured_in : Act → List ℕ
measured_in (measures t) = qubits_of t
measured_in _ = []

abbrev pub measured : List Act → List ℕ
measured acts = flat_map measured_in acts

abbrev pub is_among : List ℕ → ℕ → Bool
is_among qubits q = list_any (nat_eq q) qubits

-- the circuit of all that is done
abbrev pub circuit_of : List Act → Circuit
circuit_of acts = record { qubits = qubit_count acts; gates = gates acts; measured = map (is_among (measured acts)) (up_to (qubit_count acts)) }
