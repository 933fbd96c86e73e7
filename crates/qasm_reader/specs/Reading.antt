-- The reading of a text: its circuit, or the first reason of its first bad statement.
use Rattle.std.specs.Prelude.{◌≡◌, ℕ, ◌+◌, List, [], ◌∷◌, ◌++◌, length, Option, Result, Ok, Err}
use Rattle.gate_set.specs.Circuits.{Circuit}
use Rattle.qasm_lex.specs.Lexemes.{Lexeme, AreLexemes}
use Rattle.qasm_reader.specs.declared.reason.Why.{Why}
use Rattle.qasm_reader.specs.declared.reason.Why.TheVariants.{NoVersion}
use Rattle.qasm_reader.specs.declared.reason.Refusal.{Refusal}
use Rattle.qasm_reader.specs.declared.reason.ReadStop.{ReadStop}
use Rattle.qasm_reader.specs.declared.reason.ReadStop.TheVariants.{Refused as Stopped, OutOfMemory}
use Rattle.qasm_forms.specs.Statements.{Statement}
use Rattle.qasm_reader.specs.Acts.{Act, circuit_of}
use Rattle.qasm_reader.specs.Calls.{Does}
use Rattle.qasm_reader.specs.Parts.{Part, parts_of, Has}
use Rattle.qasm_reader.specs.Reasons.{Refuses, IsFree}

-- the statement is accepted, and does this
pub record Accepts (limit : ℕ) (before : List Act) (part : Part) (act : Act) : Type 0 where
  pub free : IsFree limit before part
  pub statement : Statement
  pub has : Has before part statement
  pub does : Does before statement act

-- statements are accepted one after the other
abbrev pub AllAccepted : ℕ → List Act → List Part → List Act → Type 0
AllAccepted limit before [] [] = Unit {0}
AllAccepted limit before (p ∷ parts) (a ∷ acts) = Accepts limit before p a × AllAccepted limit (before ++ a ∷ []) parts acts
AllAccepted limit before [] (a ∷ acts) = ⊥
AllAccepted limit before (p ∷ parts) [] = ⊥

pub data Reading : Type 0 where
  circuit : Circuit → Reading
  refusal : ℕ → Why → Reading

-- the first bad statement has this number, counted from 1, and its first reason is this
pub record IsRefused (limit : ℕ) (parts : List Part) (number : ℕ) (why : Why) : Type 0 where
  pub good : List Part
  pub bad : Part
  pub more : List Part
  pub acts : List Act
  pub split : parts ≡ good ++ (bad ∷ more)
  pub accepted : AllAccepted limit [] good acts
  pub refuses : Refuses limit acts bad why
  pub count : number ≡ length good + 1

-- statements read as the circuit of what they do, or are refused; where there are none, the version is missing
abbrev pub Reads : ℕ → List Part → Reading → Type 0
Reads limit [] reading = reading ≡ refusal 0 NoVersion
Reads limit (p ∷ parts) (circuit c) = (acts : List Act) × AllAccepted limit [] (p ∷ parts) acts × (c ≡ circuit_of acts)
Reads limit (p ∷ parts) (refusal number why) = IsRefused limit (p ∷ parts) number why

-- the text reads so, with at most this number of qubits
pub record ReadsAs (text : List ℕ) (limit : ℕ) (reading : Reading) : Type 0 where
  pub lexemes : List Lexeme
  pub bad : Option ℕ
  pub are_lexemes : AreLexemes text lexemes bad
  pub reads : Reads limit (parts_of lexemes bad) reading

-- what is said of the refusal, where the stop is one
abbrev pub IfRefused : ReadStop → (Refusal → Type 0) → Type 0
IfRefused (Stopped r) says = says r
IfRefused OutOfMemory says = Unit {0}

-- the result is this reading, or memory was refused
abbrev pub Says : Result Circuit ReadStop → Reading → Type 0
Says (Ok c) reading = reading ≡ circuit c
Says (Err (Stopped r)) reading = reading ≡ refusal r.statement r.why
Says (Err OutOfMemory) reading = Unit {0}
