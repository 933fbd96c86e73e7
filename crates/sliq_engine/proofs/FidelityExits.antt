-- How `fidelity` ends behind its steps, exit by exit.
use Rattle.std.proofs.Common.{◌≡◌, ℕ, List, Option, Ok, refl, ◌∙◌, ap, subst}
use Rattle.ring_omega.specs.declared.weight.Weight.{Weight}
use Rattle.gate_set.specs.Circuits.{Circuit}
use Rattle.circuit_model.specs.Working.{Scaled}
use Rattle.comparison.specs.Products.{work_matrix}
use Rattle.comparison.specs.Steps.{steps_of}
use Rattle.unitary_update.specs.Kept.{State, Multiplies, standing_of}
use Rattle.unitary_update.proofs.Chains.{multiplied}
use Rattle.fidelity.specs.Traces.{fidelity_in}
use Rattle.fidelity.specs.Widths.{IsTooWide}
use Rattle.amp_dense.specs.Rules.{Settings}
use Rattle.amp_printer.specs.Texts.{fidelity_text}
use Rattle.outside.specs.Bytes.{Added, AddedSome}
use Rattle.phases.specs.Phases.{Phase, ◌>>=◌, ◌>>◌, HandsOn, StopsWhere}
use Rattle.outputs.specs.declared.output.SendStop.{SendStop}
use Rattle.causes.specs.declared.cause.Cause.{Cause}
use Rattle.causes.specs.declared.cause.Cause.TheVariants.{Done, FidelityTooWide}
use Rattle.causes.specs.Stops.{cause_of_sending}
use Rattle.sliq_engine.specs.Steps.{Output, Writes}
use Rattle.sliq_engine.specs.Fidelity.{fidelity_output}
use Rattle.sliq_engine.specs.Ending.{MayEnd, MayStopBy}
use Rattle.sliq_engine.proofs.Endings.{ends_first, ends_after, ends_sending}

-- what comes behind the steps
abbrev pub Rest : Circuit → Circuit → Phase Output Cause
Rest u v = do
  StopsWhere (IsTooWide u.qubits (work_matrix u.qubits (steps_of u.gates v.gates)).entries) FidelityTooWide
  Writes Done (fidelity_output u.qubits u.gates v.gates)

module _ (rules : Settings) (u v : Circuit) (m : State) (came : Multiplies rules u.qubits (steps_of u.gates v.gates) (Ok (standing_of m))) where
  -- the matrix at the end is that of the circuits' steps
  made : work_matrix m.qubits m.steps ≡ work_matrix u.qubits (steps_of u.gates v.gates)
  made = let by = multiplied rules u.qubits (steps_of u.gates v.gates) (standing_of m) came in ap (λ k. work_matrix k m.steps) by.input ∙ ap (work_matrix u.qubits) by.accepted

  qubits : m.qubits ≡ u.qubits
  qubits = (multiplied rules u.qubits (steps_of u.gates v.gates) (standing_of m) came).input

  abbrev matrix : Scaled
  matrix = work_matrix u.qubits (steps_of u.gates v.gates)

  -- so is what is said of it
  moved : (P : ℕ → Scaled → Type 0) → P m.qubits (work_matrix m.qubits m.steps) → P u.qubits matrix
  moved P h = subst (λ k. P k matrix) qubits (subst (P m.qubits) made h)

  -- the matrix is too wide
  pub rest_too_wide : (cause : Cause) (out : Option (List ℕ)) → MayStopBy (StopsWhere (IsTooWide m.qubits (work_matrix m.qubits m.steps).entries) FidelityTooWide) cause → MayEnd (Rest u v) cause out out
  rest_too_wide cause out h =
      ends_first (StopsWhere (IsTooWide u.qubits matrix.entries) FidelityTooWide) _ cause out
      (moved (λ k w. MayStopBy (StopsWhere (IsTooWide k w.entries) FidelityTooWide) cause) h)

  module _ (f : Weight × ℕ) (is : f ≡ fidelity_in m.qubits (work_matrix m.qubits m.steps)) (narrow : ¬ IsTooWide m.qubits (work_matrix m.qubits m.steps).entries) where
    bytes : fidelity_text f.0 f.1 ≡ fidelity_output u.qubits u.gates v.gates
    bytes = ap (λ (g : Weight × ℕ). fidelity_text g.0 g.1) (moved (λ k w. f ≡ fidelity_in k w) is)

    ended : (cause : Cause) (old new : Option (List ℕ)) → MayEnd (HandsOn (record { cause = Done; bytes = fidelity_output u.qubits u.gates v.gates })) cause old new → MayEnd (Rest u v) cause old new
    ended cause old new h =
        ends_after (StopsWhere (IsTooWide u.qubits matrix.entries) FidelityTooWide) _ tt cause old new (moved (λ k w. ¬ IsTooWide k w.entries) narrow) h

    -- it stops while the output is sent
    pub rest_stops : (stop : SendStop) (old new : Option (List ℕ)) → AddedSome old new (fidelity_text f.0 f.1) → MayEnd (Rest u v) (cause_of_sending stop) old new
    rest_stops stop old new some =
        ended (cause_of_sending stop) old new
        (ends_sending (record { cause = Done; bytes = fidelity_output u.qubits u.gates v.gates }) stop old new (subst (AddedSome old new) bytes some))

    -- the output is written
    pub rest_done : (old new : Option (List ℕ)) → Added old new (fidelity_text f.0 f.1) → MayEnd (Rest u v) Done old new
    rest_done old new all = ended Done old new (fidelity_output u.qubits u.gates v.gates, refl, subst (Added old new) bytes all)
