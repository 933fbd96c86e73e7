-- What statements do: calls of gates, definitions, declarations.
use Rattle.std.specs.Prelude.{◌≡◌, ℕ, true, false, List, [], ◌∷◌, length, map, Option, Some, Ok, unwrap_or}
use Rattle.std.specs.List.{AllZip}
use Rattle.qasm_lex.specs.Lexemes.{Lexeme}
use Rattle.qasm_lex.specs.Symbols.{decimal, symbols, symbols_in, param_of}
use Rattle.qasm_lex.specs.Values.{Outcome}
use Rattle.qasm_lex.specs.Angles.{IsShape, IsOutcome}
use Rattle.qasm_forms.specs.Statements.{Statement, qubits, bits, measure, call, definition, Argument, Line, fence, calls}
use Rattle.qasm_gates.specs.Gates.{Item, Named, Basic, Meaning, all_of, gate_in, Do}
use Rattle.qasm_gates.specs.Bodies.{Call, means_for, defined}
use Rattle.qasm_reader.specs.Acts.{Act, nothing, declares, defines, measures, applies, Target, registers, target, targets, definitions}

-- the gate of a name: one that is built in, or one that a statement before defines
abbrev pub gate_named : List Act → List ℕ → Option Named
gate_named before name = gate_in (definitions before) name

abbrev pub listed : {A : Type 0} → Option (List A) → List A
listed all = unwrap_or all []

-- what a call means by its angles: each has an outcome, and the first refusal of one is told
pub record Means (gate : Named) (angles : List (List Lexeme)) (meaning : Meaning) : Type 0 where
  pub outcomes : List Outcome
  pub are : AllZip (λ a o. IsOutcome [] (symbols a) o) angles outcomes
  pub is : meaning ≡ means_for gate (all_of outcomes)

-- what a call of a gate does
pub record Calls (before : List Act) (name : List ℕ) (angles : List (List Lexeme)) (arguments : List Argument) (act : Act) : Type 0 where
  pub called : Named
  pub basics : List Basic
  pub items : List Item
  pub on : List Target
  pub named : gate_named before name ≡ Some called
  pub meant : Means called angles (Ok basics)
  pub done : Do basics items
  pub means : targets (registers before) arguments ≡ Some on
  pub does : act ≡ applies called.items items on

-- a line of a body is this call: of a gate that is built in or stands before, with expressions over the parameters, on formal arguments
pub record IsCall (before : List Act) (params formals : List (List ℕ)) (name : List ℕ) (angles : List (List Lexeme)) (on : List (List ℕ)) (c : Call) : Type 0 where
  pub named : gate_named before name ≡ Some c.called
  pub shaped : AllZip (λ a t. IsShape (symbols_in params a) (Ok t)) angles c.angles
  pub numbered : map (param_of formals) on ≡ map Some c.on

-- the calls of a body: a barrier is none
abbrev pub AreCalls : List Act → List (List ℕ) → List (List ℕ) → List Line → List Call → Type 0
AreCalls before params formals [] cs = cs ≡ []
AreCalls before params formals (fence on ∷ lines) cs = AreCalls before params formals lines cs
AreCalls before params formals (calls name angles on ∷ lines) [] = ⊥
AreCalls before params formals (calls name angles on ∷ lines) (c ∷ cs) = IsCall before params formals name (listed angles) on c × AreCalls before params formals lines cs

-- what a statement does, given what was done before it
abbrev pub Does : List Act → Statement → Act → Type 0
Does before (qubits name size) act = act ≡ declares true name (decimal size)
Does before (bits name size) act = act ≡ declares false name (decimal size)
Does before (measure from to) act = (t : Target) × (target (registers before) from ≡ Some t) × (act ≡ measures t)
Does before (call name angles arguments) act = Calls before name (listed angles) arguments act
Does before (definition name params formals lines) act =
    (cs : List Call) × AreCalls before (listed params) formals lines cs × (act ≡ defines name (defined (length (listed params)) (length formals) cs))
Does before _ act = act ≡ nothing
