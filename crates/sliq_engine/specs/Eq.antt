-- `eq`.
use Rattle.std.specs.Prelude.{ℕ, List}
use Rattle.gate_set.specs.Circuits.{Circuit}
use Rattle.circuit_model.specs.Product.{exponent}
use Rattle.amp_dense.specs.Rules.{Settings}
use Rattle.amp_printer.specs.declared.verdict.Verdict.{Verdict}
use Rattle.amp_printer.specs.declared.verdict.Verdict.TheVariants as verdicts
use Rattle.amp_printer.specs.Verdicts.{verdict_text}
use Rattle.comparison.specs.Scalars.{comparison, compared}
use Rattle.comparison.specs.Steps.{steps_of}
use Rattle.comparison.specs.Verdicts.{IsVerdict}
use Rattle.unitary_update.specs.Kept.{Multiplies}
use Rattle.phases.specs.Phases.{Phase, ◌>>=◌, ◌>>◌, Told}
use Rattle.causes.specs.declared.cause.Cause.{Cause}
use Rattle.causes.specs.declared.cause.Cause.TheVariants.{Done, Differs}
use Rattle.sliq_engine.specs.Steps.{Reads, SameQubits, Output, Writes}
use Rattle.causes.specs.Stops.{cause_of}

-- the cause by which a run ends that has written this verdict
abbrev pub told_by : Verdict → Cause
told_by (verdicts.Scalar q k) = Done
told_by (verdicts.Differs row col value corner) = Differs

-- what is to be said of U·V† is written
abbrev pub Says : Circuit → Circuit → Phase Output Cause
Says u v end =
    (verdict : Verdict) × IsVerdict u.qubits (compared u.gates v.gates) (exponent (comparison u.gates v.gates)) verdict
    × Writes (told_by verdict) (verdict_text verdict) end

-- Both texts are read before anything else is asked. Then the identity is multiplied by the steps of the comparison, from the left and from the
-- right in turns.
abbrev pub Compares : Settings → List ℕ → List ℕ → Phase Output Cause
Compares rules one two = do
  u ← Reads 1 one
  v ← Reads 2 two
  SameQubits u.qubits v.qubits
  Told cause_of (Multiplies rules u.qubits (steps_of u.gates v.gates))
  Says u v
