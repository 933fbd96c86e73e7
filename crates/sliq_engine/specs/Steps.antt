-- The phases that commands are made of.
use Rattle.std.specs.Prelude.{◌≡◌, ◌≢◌, ℕ, Bool, false, replicate, List, Ok, Err}
use Rattle.gate_set.specs.declared.gate.Gate.{Gate}
use Rattle.gate_set.specs.Circuits.{Circuit}
use Rattle.amp_dense.specs.Rules.{Settings}
use Rattle.amp_dense.specs.Standing.{Standing, Policy, begun, Walks}
use Rattle.qasm_reader.specs.declared.reason.Refusal.{Refusal}
use Rattle.qasm_reader.specs.Reading.{ReadsAs, circuit, refusal}
use Rattle.causes.specs.Stops.{cause_of}
use Rattle.phases.specs.Phases.{Phase, HandsOn, StopsWhere, Told}
use Rattle.causes.specs.declared.cause.Cause.{Cause}
use Rattle.causes.specs.declared.cause.Cause.TheVariants.{Refused, QubitsDiffer}

-- the text of the file of this number reads as a circuit
abbrev pub Reads : ℕ → List ℕ → Phase Circuit Cause
Reads file text (Ok c) = ReadsAs text 64 (circuit c)
Reads file text (Err cause) = (r : Refusal) × ReadsAs text 64 (refusal r.statement r.why) × (cause ≡ Refused file r)

-- the two numbers of qubits are the same
abbrev pub SameQubits : ℕ → ℕ → Phase (Unit {0}) Cause
SameQubits first second = StopsWhere (first ≢ second) (QubitsDiffer first second)

-- the basis state of all zeros
abbrev pub zeros : ℕ → List Bool
zeros n = replicate n false

-- gates come one after the other to a basis state
abbrev pub Simulates : Policy → Settings → List Bool → List Gate → Phase Standing Cause
Simulates policy rules input gates = Told cause_of (Walks policy (begun input rules) gates)

-- a whole output: its bytes, and the cause by which a run ends that has written them
pub record Output : Type 0 where
  pub cause : Cause
  pub bytes : List ℕ

-- these bytes are the whole output, and a run that has written them ends by this cause
abbrev pub Writes : Cause → List ℕ → Phase Output Cause
Writes cause bytes = HandsOn (record { cause = cause; bytes = bytes })
