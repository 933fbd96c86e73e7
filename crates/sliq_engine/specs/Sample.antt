-- `sample`.
use Rattle.std.specs.Prelude.{ℕ, ◌^◌, pos, ◌≤ℤ◌, Bool, List}
use Rattle.ring_omega.specs.declared.quad.Quad.{Quad}
use Rattle.gate_set.specs.Circuits.{Circuit}
use Rattle.circuit_model.specs.Working.{work}
use Rattle.amp_dense.specs.Rules.{Settings}
use Rattle.state_update.specs.Kept.{sliced_policy}
use Rattle.probabilities.specs.Weighing.{total_weight}
use Rattle.probabilities.specs.Outcomes.{counted}
use Rattle.sampler.specs.Words.{random_word}
use Rattle.phases.specs.Phases.{Phase, ◌>>=◌, ◌>>◌, StopsWhere}
use Rattle.causes.specs.declared.cause.Cause.{Cause}
use Rattle.causes.specs.declared.cause.Cause.TheVariants.{Done, SampleTooWide}
use Rattle.outputs.specs.Shots.{shots_output}
use Rattle.sliq_engine.specs.Steps.{Reads, zeros, Simulates, Output, Writes}

-- what is written of a circuit: outcomes of the qubits that count as measured, drawn from its working vector on the basis state of all zeros by the words of the seed
abbrev pub sample_output : ℕ → ℕ → Circuit → List ℕ
sample_output shots seed c = shots_output (counted c.measured) shots (random_word seed) (work c.gates (zeros c.qubits)).entries

-- all states of n qubits weigh 2^60 or more
abbrev pub IsTooHeavyToDraw : ℕ → (List Bool → Quad) → Type 0
IsTooHeavyToDraw n v = pos (2 ^ 60) ≤ℤ (total_weight n v).a

abbrev pub Samples : ℕ → ℕ → Settings → List ℕ → Phase Output Cause
Samples shots seed rules text = do
  c ← Reads 1 text
  Simulates sliced_policy rules (zeros c.qubits) c.gates
  StopsWhere (IsTooHeavyToDraw c.qubits (work c.gates (zeros c.qubits)).entries) SampleTooWide
  Writes Done (sample_output shots seed c)
