-- How `eq` and `fidelity` end before their matrix is made, exit by exit.
use Rattle.std.proofs.Common.{◌≡◌, ℕ, List, Option, Ok, refl, sym, ◌∙◌}
use Rattle.gate_set.specs.Circuits.{Circuit}
use Rattle.amp_dense.specs.Rules.{Settings}
use Rattle.amp_dense.specs.declared.stop.Stop.{Stop}
use Rattle.amp_dense.specs.declared.stop.Stop.TheVariants as stops
use Rattle.amp_dense.specs.Standing.{MayStop}
use Rattle.comparison.specs.Steps.{steps_of}
use Rattle.unitary_update.specs.Kept.{Standing, Multiplies}
use Rattle.phases.specs.Phases.{Phase, ◌>>=◌, ◌>>◌, Told}
use Rattle.causes.specs.declared.cause.Cause.{Cause}
use Rattle.causes.specs.Stops.{cause_of}
use Rattle.sliq_engine.specs.Steps.{Reads, SameQubits, Output}
use Rattle.sliq_engine.specs.Ending.{MayEnd, MayStopBy}
use Rattle.sliq_engine.proofs.Endings.{ends_first, ends_after}

-- two texts are read, and the steps of their comparison made; then this comes
module _ (next : Circuit → Circuit → Phase Output Cause) (rules : Settings) (one two : List ℕ) where
  abbrev pub Chain : Phase Output Cause
  Chain = do
    u ← Reads 1 one
    v ← Reads 2 two
    SameQubits u.qubits v.qubits
    Told cause_of (Multiplies rules u.qubits (steps_of u.gates v.gates))
    next u v

  -- the first text is refused
  pub pair_refused : (cause : Cause) (out : Option (List ℕ)) → MayStopBy (Reads 1 one) cause → MayEnd Chain cause out out
  pair_refused cause out h = ends_first (Reads 1 one) _ cause out h

  module _ (u : Circuit) (first : Reads 1 one (Ok u)) where
    -- the second text is refused
    pub pair_refused_second : (cause : Cause) (out : Option (List ℕ)) → MayStopBy (Reads 2 two) cause → MayEnd Chain cause out out
    pair_refused_second cause out h = ends_after (Reads 1 one) _ u cause out out first (ends_first (Reads 2 two) _ cause out h)

    module _ (v : Circuit) (second : Reads 2 two (Ok v)) where
      -- the numbers of qubits differ
      pub pair_unlike : (cause : Cause) (out : Option (List ℕ)) → MayStopBy (SameQubits u.qubits v.qubits) cause → MayEnd Chain cause out out
      pair_unlike cause out h =
          ends_after (Reads 1 one) _ u cause out out first
          (ends_after (Reads 2 two) _ v cause out out second
          (ends_first (SameQubits u.qubits v.qubits) _ cause out h))

      module _ (same : u.qubits ≡ v.qubits) where
        -- the phases before the steps are passed
        stepping : (cause : Cause) (old new : Option (List ℕ)) → MayEnd (Told cause_of (Multiplies rules u.qubits (steps_of u.gates v.gates)) >>= (λ _. next u v)) cause old new
            → MayEnd Chain cause old new
        stepping cause old new h =
            ends_after (Reads 1 one) _ u cause old new first
            (ends_after (Reads 2 two) _ v cause old new second
            (ends_after (SameQubits u.qubits v.qubits) _ tt cause old new (λ ne. ne same) h))

        halted : (stop : Stop) → MayStop (Multiplies rules u.qubits (steps_of u.gates v.gates)) stop → MayStopBy (Told cause_of (Multiplies rules u.qubits (steps_of u.gates v.gates))) (cause_of stop)
        halted (stops.Width step) h = (stops.Width step, h, refl)
        halted (stops.Nodes step order held) h = (stops.Nodes step order held, h, refl)
        halted stops.OutOfMemory h = tt

        -- a step doesn't fit, or there are too few nodes, or memory was wanted
        pub pair_halts : (stop : Stop) (out : Option (List ℕ)) → MayStop (Multiplies rules u.qubits (steps_of u.gates v.gates)) stop → MayEnd Chain (cause_of stop) out out
        pair_halts stop out h =
            stepping (cause_of stop) out out (ends_first (Told cause_of (Multiplies rules u.qubits (steps_of u.gates v.gates))) _ (cause_of stop) out (halted stop h))

        -- all steps are made, and it ends as what comes then
        pub pair_ends : (m : Standing) → Multiplies rules u.qubits (steps_of u.gates v.gates) (Ok m) → (cause : Cause) (old new : Option (List ℕ)) → MayEnd (next u v) cause old new
            → MayEnd Chain cause old new
        pair_ends m came cause old new h = stepping cause old new (ends_after (Told cause_of (Multiplies rules u.qubits (steps_of u.gates v.gates))) _ m cause old new came h)

-- the two numbers of qubits, as they are read
pub same_numbers : (m n first second : ℕ) → first ≡ m → second ≡ n → first ≡ second → m ≡ n
same_numbers m n first second p q e = sym p ∙ e ∙ q
