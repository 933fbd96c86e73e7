-- The circuit of the statements so far, and statements carried out on it.
use Rattle.std.specs.Prelude.{◌≡◌, ℕ, ◌+◌, ◌*◌, ◌≤◌, ◌<◌, Bool, true, false, not, cond, nat_lt, List, [], ◌∷◌, ◌++◌, length, map, replicate, set, All, Option, Some, None, Result, Ok, Err, codes}
use Rattle.std.specs.List.{list_any, AllByRecursion}
use Rattle.std.specs.Option.{option_map_or}
use Rattle.std.specs.Str.{bytes_eq}
use Rattle.gate_set.specs.declared.gate.Gate.{Gate}
use Rattle.gate_set.specs.Shape.{IsOn}
use Rattle.qasm_lex.specs.Lexemes.{Lexeme}
use Rattle.qasm_lex.specs.Symbols.{decimal}
use Rattle.qasm_forms.specs.Statements.{Statement, version, include, qubits, bits, barrier, measure, call, definition, left_out, Argument, End, ended}
use Rattle.qasm_reader.specs.declared.registers.Miss.{Miss}
use Rattle.qasm_reader.specs.declared.reason.Why.{Why}
use Rattle.qasm_reader.specs.declared.reason.Why.TheVariants.{NoVersion, NotAStatement, OutOfProfile, UnknownName, Redeclared, UnknownRegister, IndexOutOfRange, WrongCount, SizesDiffer, RepeatedQubit, TooManyItems, AngleRefused, OffGrid, Measured, TooManyQubits, TooManyGates}
use Rattle.qasm_gates.specs.declared.gates.Gates.{Gates}
use Rattle.qasm_gates.specs.Gates.{Basic, Meaning, Named, up_to, gate_in}
use Rattle.qasm_gates.specs.Private.Counts.{count_of, items_done}
use Rattle.qasm_gates.specs.Private.Proper.{IsSound}
use Rattle.qasm_gates.specs.Private.Views.{view_of, IsGates}
use Rattle.qasm_reader.specs.Acts.{Act, Register, Target, registers, qubit_count, gates, measured, item_count, definitions, is_among, wholes, place_count, qubits_of, product, targets}
use Rattle.qasm_reader.specs.Calls.{listed}
use Rattle.qasm_reader.specs.Parts.{Part}
use Rattle.qasm_reader.specs.Reasons.{is_declared, is_unknown, is_beyond, no_size, Refuses}
use Rattle.qasm_reader.specs.Reading.{Accepts, AllAccepted}
use Rattle.qasm_reader.specs.Private.Meanings.{meaning_of}
use Rattle.qasm_reader.specs.Private.Scope.{find, both_found, why_missed, differ, repeats, touches, other_count, wrong_counts}

-- registers by name, how many qubits they have, the gates, which qubits are measured, and the items of all calls
pub record Draft : Type 0 where
  pub registers : List (List ℕ × Register)
  pub qubits : ℕ
  pub gates : List Gate
  pub measured : List Bool
  pub items : ℕ

-- a register of qubits has some, and ends within so many
abbrev pub EndsWithin : ℕ → List ℕ × Register → Type 0
EndsWithin n r = r.1.quantum ≡ true → (0 < r.1.size) × (r.1.first + r.1.size ≤ n)

-- the draft is within the limits of a circuit
pub record IsDraft (d : Draft) : Type 0 where
  pub few_qubits : d.qubits ≤ 64
  pub few_gates : length d.gates ≤ 1000000
  pub few_items : d.items ≤ 4000000
  pub within : All (IsOn d.qubits) d.gates
  pub flags : length d.measured ≡ d.qubits
  pub registers_end : AllByRecursion (EndsWithin d.qubits) d.registers

-- the circuit of all that is done
abbrev pub draft_of : List Act → Draft
draft_of acts = record { registers = registers acts; qubits = qubit_count acts; gates = gates acts; measured = map (is_among (measured acts)) (up_to (qubit_count acts)); items = item_count acts }

-- what each gate means is proper, with positive denominators
abbrev pub AreSound : List (List ℕ × Named) → Type 0
AreSound defs = AllByRecursion (λ e. IsSound e.1) defs

-- the draft is that of accepted statements that did this
pub record Follows (limit : ℕ) (acts : List Act) (d : Draft) : Type 0 where
  pub is : d ≡ draft_of acts
  pub fits : IsDraft d
  pub few : d.qubits ≤ limit
  pub marked : All (λ q. q < d.qubits) (measured acts)
  pub sound : AreSound (definitions acts)

-- the gates are those that acts define, and the body of the next one is empty
pub record Knows (acts : List Act) (g : Gates) : Type 0 where
  pub whole : IsGates g
  pub shows : view_of g ≡ record { definitions = definitions acts; body = []; angles = []; on = [] }

-- a draft goes on, or the statement is refused
abbrev pub outcome : Option Why → Draft → Result Draft Why
outcome why d = option_map_or Err why (Ok d)

abbrev pub with_qubits : Draft → List ℕ → ℕ → Draft
with_qubits d name size = record d {
  registers = d.registers ++ (name, record { quantum = true; first = d.qubits; size = size }) ∷ [];
  qubits = d.qubits + size;
  measured = d.measured ++ replicate size false;
}

abbrev pub with_bits : Draft → List ℕ → ℕ → Draft
with_bits d name size = record d { registers = d.registers ++ (name, record { quantum = false; first = 0; size = size }) ∷ [] }

abbrev pub include_on : Draft → List ℕ → Result Draft Why
include_on d text = cond (not (bytes_eq text (codes "\"qelib1.inc\""))) (Err OutOfProfile) (Ok d)

abbrev pub qubits_on : ℕ → Draft → List ℕ → ℕ → Result Draft Why
qubits_on limit d name size =
    cond (is_declared d.registers name) (Err Redeclared) (cond (no_size size) (Err IndexOutOfRange) (cond (nat_lt limit (d.qubits + size)) (Err TooManyQubits) (Ok (with_qubits d name size))))

abbrev pub bits_on : Draft → List ℕ → ℕ → Result Draft Why
bits_on d name size = cond (is_declared d.registers name) (Err Redeclared) (cond (no_size size) (Err IndexOutOfRange) (Ok (with_bits d name size)))

abbrev pub barrier_on : Draft → List Argument → Result Draft Why
barrier_on d all = cond (list_any (is_unknown d.registers true) all) (Err UnknownRegister) (cond (list_any (is_beyond d.registers) all) (Err IndexOutOfRange) (Ok d))

-- the flags of these numbers raised
abbrev pub raised : List Bool → List ℕ → List Bool
raised flags [] = flags
raised flags (q ∷ qs) = raised (set flags q true) qs

abbrev pub with_measured : Draft → List ℕ → Draft
with_measured d qs = record d { measured = raised d.measured qs }

abbrev pub measured_on : Draft → Result (Target × Target) Miss → Result Draft Why
measured_on d (Err miss) = Err (why_missed miss)
measured_on d (Ok p) = cond (other_count p.0 p.1) (Err SizesDiffer) (Ok (with_measured d (qubits_of p.0)))

abbrev pub measure_on : Draft → Argument → Argument → Result Draft Why
measure_on d from to = measured_on d (both_found (find d.registers true from) (find d.registers false to))

abbrev pub with_gates : Draft → ℕ → List Gate → Draft
with_gates d items more = record d { gates = d.gates ++ more; items = d.items + items }

-- a call of so many items and gates on its targets, where no angle is refused or off its grid
abbrev pub counted_on : Draft → ℕ → ℕ → List Basic → List Target → Result Draft Why
counted_on d items n basics ts =
    cond (touches d.measured ts) (Err Measured) (cond (nat_lt 1000000 (length d.gates + n * place_count ts)) (Err TooManyGates) (Ok (with_gates d items (product (items_done basics) ts))))

-- what a call means is judged
abbrev pub judged : Draft → ℕ → Meaning → List Target → Result Draft Why
judged d items (Err e) ts = Err (AngleRefused e)
judged d items (Ok basics) ts = option_map_or (λ n. counted_on d items n basics ts) (count_of basics) (Err OffGrid)

-- a call of so many items
abbrev pub itemed : Draft → ℕ → Meaning → List Target → Result Draft Why
itemed d items m ts = cond (nat_lt 4000000 (d.items + items)) (Err TooManyItems) (judged d items m ts)

abbrev pub applied : Draft → Named → Meaning → List Target → Result Draft Why
applied d called m ts = cond (differ (wholes ts)) (Err SizesDiffer) (cond (repeats ts) (Err RepeatedQubit) (itemed d (called.items * place_count ts) m ts))

abbrev pub gate_on : Draft → Named → List (List Lexeme) → List Argument → Result Draft Why
gate_on d called angles all =
    cond (list_any (is_unknown d.registers true) all) (Err UnknownRegister)
    (cond (list_any (is_beyond d.registers) all) (Err IndexOutOfRange)
    (cond (wrong_counts called (length all) (length angles)) (Err WrongCount) (option_map_or (applied d called (meaning_of called angles)) (targets d.registers all) (Err UnknownRegister))))

abbrev pub call_on : Draft → Option Named → List (List Lexeme) → List Argument → Result Draft Why
call_on d named angles all = option_map_or (λ called. gate_on d called angles all) named (Err UnknownName)

-- the draft with the statement carried out, where these gates are defined, or why it is refused
abbrev pub step : ℕ → Draft → List (List ℕ × Named) → Statement → Result Draft Why
step limit d defs version = Ok d
step limit d defs (include text) = include_on d text
step limit d defs (qubits name size) = qubits_on limit d name (decimal size)
step limit d defs (bits name size) = bits_on d name (decimal size)
step limit d defs (barrier all) = barrier_on d all
step limit d defs (measure from to) = measure_on d from to
step limit d defs (call name angles all) = call_on d (gate_in defs name) (listed angles) all
step limit d defs (definition name params formals lines) = Err OutOfProfile
step limit d defs (left_out name more end) = Err OutOfProfile

abbrev pub is_version : Statement → Bool
is_version version = true
is_version _ = false

-- why there is no statement where one is wanted
abbrev pub no_form : Bool → Why
no_form first = cond first NoVersion NotAStatement

-- a statement with its end, by the lexemes before that
abbrev pub ended_part : List Lexeme → End → Part
ended_part lexemes end = record { lexemes = ended lexemes end; closed = true; bad = None }

-- the part is accepted, and the draft has what it does; or it is refused
abbrev pub Concludes : ℕ → List Act → Part → Option Why → Draft → Gates → Type 0
Concludes limit before part None d g = (act : Act) × Accepts limit before part act × Follows limit (before ++ act ∷ []) d × Knows (before ++ act ∷ []) g
Concludes limit before part (Some why) d g = Refuses limit before part why

-- of all statements those before the rest are accepted, and the draft has what they do; the rest begins with this number
pub record Reached (limit : ℕ) (all rest : List Part) (d : Draft) (g : Gates) (number : ℕ) : Type 0 where
  pub good : List Part
  pub acts : List Act
  pub split : all ≡ good ++ rest
  pub accepted : AllAccepted limit [] good acts
  pub follows : Follows limit acts d
  pub knows : Knows acts g
  pub count : number ≡ length good + 1
