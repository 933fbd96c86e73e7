-- `fidelity`.
use Rattle.std.specs.Prelude.{ℕ, List}
use Rattle.gate_set.specs.declared.gate.Gate.{Gate}
use Rattle.amp_dense.specs.Rules.{Settings}
use Rattle.amp_printer.specs.Texts.{fidelity_text}
use Rattle.comparison.specs.Products.{work_matrix}
use Rattle.comparison.specs.Steps.{steps_of}
use Rattle.unitary_update.specs.Kept.{Multiplies}
use Rattle.fidelity.specs.Traces.{fidelity_of}
use Rattle.fidelity.specs.Widths.{IsTooWide}
use Rattle.phases.specs.Phases.{Phase, ◌>>=◌, ◌>>◌, StopsWhere, Told}
use Rattle.causes.specs.declared.cause.Cause.{Cause}
use Rattle.causes.specs.declared.cause.Cause.TheVariants.{Done, FidelityTooWide}
use Rattle.sliq_engine.specs.Steps.{Reads, SameQubits, Output, Writes}
use Rattle.causes.specs.Stops.{cause_of}

-- what is written of two circuits on n qubits: the line of their fidelity in lowest form
abbrev pub fidelity_output : ℕ → List Gate → List Gate → List ℕ
fidelity_output n us vs = fidelity_text (fidelity_of n us vs).0 (fidelity_of n us vs).1

-- Both texts are read and the matrix is made as `eq` does; then its trace is taken.
abbrev pub Overlaps : Settings → List ℕ → List ℕ → Phase Output Cause
Overlaps rules one two = do
  u ← Reads 1 one
  v ← Reads 2 two
  SameQubits u.qubits v.qubits
  Told cause_of (Multiplies rules u.qubits (steps_of u.gates v.gates))
  StopsWhere (IsTooWide u.qubits (work_matrix u.qubits (steps_of u.gates v.gates)).entries) FidelityTooWide
  Writes Done (fidelity_output u.qubits u.gates v.gates)
