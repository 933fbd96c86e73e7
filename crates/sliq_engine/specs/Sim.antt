-- `sim`.
use Rattle.std.specs.Prelude.{ℕ, Bool, List, length, Option, Some, None}
use Rattle.gate_set.specs.declared.gate.Gate.{Gate}
use Rattle.circuit_model.specs.Product.{amp, exponent}
use Rattle.circuit_model.specs.Working.{scaled}
use Rattle.amp_dense.specs.Rules.{Settings}
use Rattle.state_update.specs.Kept.{sliced_policy}
use Rattle.phases.specs.Phases.{Phase, ◌>>=◌, ◌>>◌}
use Rattle.causes.specs.declared.cause.Cause.{Cause}
use Rattle.causes.specs.declared.cause.Cause.TheVariants.{Done}
use Rattle.outputs.specs.Listing.{vector_output}
use Rattle.sliq_engine.specs.Steps.{Reads, SameQubits, zeros, Simulates, Output, Writes}

-- the basis state at the start: the bits that are given, or all zeros
abbrev pub input_for : Option (List Bool) → ℕ → List Bool
input_for None n = zeros n
input_for (Some x) n = x

-- what is written of a circuit: the product of its gates on a basis state
abbrev pub sim_output : ℕ → List Bool → List Gate → List ℕ
sim_output n input gates = vector_output n (scaled (amp gates input) (exponent gates))

abbrev pub Sims : Option (List Bool) → Settings → List ℕ → Phase Output Cause
Sims bits rules text = do
  c ← Reads 1 text
  SameQubits c.qubits (length (input_for bits c.qubits))
  Simulates sliced_policy rules (input_for bits c.qubits) c.gates
  Writes Done (sim_output c.qubits (input_for bits c.qubits) c.gates)
