-- `demo`.
use Rattle.std.specs.Prelude.{ℕ, List, length}
use Rattle.gate_set.specs.declared.gate.Gate.{Gate}
use Rattle.circuit_model.specs.Working.{work}
use Rattle.amp_dense.specs.Rules.{Settings}
use Rattle.demo_text.specs.Generator.{demo_text}
use Rattle.state_update.specs.Kept.{sliced_policy}
use Rattle.phases.specs.Phases.{Phase, ◌>>=◌, ◌>>◌}
use Rattle.causes.specs.declared.cause.Cause.{Cause}
use Rattle.causes.specs.declared.cause.Cause.TheVariants.{Done}
use Rattle.outputs.specs.Summary.{summary_output}
use Rattle.sliq_engine.specs.Steps.{Reads, zeros, Simulates, Output, Writes}

-- what is written of a circuit: of its working vector on the basis state of all zeros
abbrev pub demo_output : ℕ → List Gate → List ℕ
demo_output n gates = summary_output n (length gates) (work gates (zeros n))

-- the text of these numbers and this seed is read like a file's, and its circuit is carried out
abbrev pub Demonstrates : Settings → ℕ → ℕ → ℕ → Phase Output Cause
Demonstrates rules qubits gates seed = do
  c ← Reads 1 (demo_text qubits gates seed)
  Simulates sliced_policy rules (zeros c.qubits) c.gates
  Writes Done (demo_output c.qubits c.gates)
