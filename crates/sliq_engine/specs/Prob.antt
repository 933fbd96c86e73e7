-- `prob`.
use Rattle.std.specs.Prelude.{ℕ, ◌^◌, pos, ◌≤ℤ◌, Bool, List}
use Rattle.ring_omega.specs.declared.quad.Quad.{Quad}
use Rattle.gate_set.specs.Circuits.{Circuit}
use Rattle.circuit_model.specs.Working.{work}
use Rattle.amp_dense.specs.Rules.{Settings}
use Rattle.state_update.specs.Kept.{sliced_policy}
use Rattle.probabilities.specs.Weighing.{total_weight}
use Rattle.probabilities.specs.Outcomes.{counted}
use Rattle.phases.specs.Phases.{Phase, ◌>>=◌, ◌>>◌, StopsWhere}
use Rattle.causes.specs.declared.cause.Cause.{Cause}
use Rattle.causes.specs.declared.cause.Cause.TheVariants.{Done, WeightTooWide}
use Rattle.outputs.specs.Outcomes.{outcomes_output}
use Rattle.sliq_engine.specs.Steps.{Reads, zeros, Simulates, Output, Writes}

-- what is written of a circuit: the outcomes of the qubits that count as measured, in its working vector on the basis state of all zeros
abbrev pub prob_output : Circuit → List ℕ
prob_output c = outcomes_output (counted c.measured) (work c.gates (zeros c.qubits))

-- all states of n qubits weigh 2^127 or more
abbrev pub IsHeavy : ℕ → (List Bool → Quad) → Type 0
IsHeavy n v = pos (2 ^ 127) ≤ℤ (total_weight n v).a

abbrev pub Weighs : Settings → List ℕ → Phase Output Cause
Weighs rules text = do
  c ← Reads 1 text
  Simulates sliced_policy rules (zeros c.qubits) c.gates
  StopsWhere (IsHeavy c.qubits (work c.gates (zeros c.qubits)).entries) WeightTooWide
  Writes Done (prob_output c)
