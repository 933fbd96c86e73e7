-- What `eq` says of two texts that read as circuits on as many qubits.
use Rattle.std.proofs.Common.{◌≡◌, ◌↔◌, ◌∙◌, sym, ap, ap₂, refl, subst, ℕ, List, [], Result, Ok, Err, All, arith}
use Rattle.gate_set.specs.Circuits.{Circuit, IsCircuit}
use Rattle.gate_set.specs.Shape.{IsOn}
use Rattle.ring_omega.specs.declared.quad.Quad.{Quad}
use Rattle.circuit_model.specs.Product.{exponent}
use Rattle.amp_printer.specs.declared.verdict.Verdict.{Verdict}
use Rattle.amp_printer.specs.declared.verdict.Verdict.TheVariants as verdicts
use Rattle.amp_printer.specs.Verdicts.{verdict_text}
use Rattle.comparison.specs.Scalars.{AreSame, comparison, compared}
use Rattle.comparison.specs.Verdicts.{IsVerdict}
use Rattle.comparison.proofs.Verdicts.{scalar_told}
use Rattle.qasm_reader.specs.Reading.{ReadsAs, circuit}
use Rattle.qasm_reader.proofs.Sound.{read_is_circuit}
use Rattle.causes.specs.declared.cause.Cause.{Cause}
use Rattle.causes.specs.declared.cause.Cause.TheVariants.{Done, Differs}
use Rattle.sliq_engine.specs.Steps.{Output, Writes}
use Rattle.sliq_engine.specs.Eq.{told_by, Says}
use Rattle.run_laws.specs.Laws.{TellsFirst}

abbrev cause_in : Result Output Cause → Cause
cause_in (Ok output) = output.cause
cause_in (Err cause) = cause

module _ (u v : Circuit) (output : Output) (cu : IsCircuit u) (cv : IsCircuit v) (same : u.qubits ≡ v.qubits) where
  within : All (IsOn u.qubits) v.gates
  within = subst (λ n. All (IsOn n) v.gates) (sym same) cv.within

  told : (w : Verdict) → IsVerdict u.qubits (compared u.gates v.gates) (exponent (comparison u.gates v.gates)) w → AreSame u.qubits u.gates v.gates ↔ ((q : Quad) × (k : ℕ) × (w ≡ verdicts.Scalar q k))
  told w is = scalar_told u.qubits u.gates v.gates w cu.within within is

  cause_is : (w : Verdict) → Writes (told_by w) (verdict_text w) (Ok output) → output.cause ≡ told_by w
  cause_is w e = ap cause_in e

  -- a run that wrote a verdict ends as Done exactly where the circuits are the same up to a scalar
  done_exactly : Says u v (Ok output) → (output.cause ≡ Done) ↔ AreSame u.qubits u.gates v.gates
  done_exactly says = by says.0 says.1 (cause_is says.0 says.2)
    where
      by : (w : Verdict) → IsVerdict u.qubits (compared u.gates v.gates) (exponent (comparison u.gates v.gates)) w → output.cause ≡ told_by w → (output.cause ≡ Done) ↔ AreSame u.qubits u.gates v.gates
      by (verdicts.Scalar q k) is e = ((λ _. (told (verdicts.Scalar q k) is).1 (q, k, refl)), (λ _. e))
      by (verdicts.Differs row col value own) is e = (
        (λ done. absurd (let clash : Differs ≡ Done = sym e ∙ done in cc)),
        (λ s. absurd (let found = (told (verdicts.Differs row col value own) is).0 s in let clash : verdicts.Differs row col value own ≡ verdicts.Scalar found.0 found.1 = found.2 in cc)),
      )

  -- and else as Differs
  differs_exactly : Says u v (Ok output) → (output.cause ≡ Differs) ↔ (¬ AreSame u.qubits u.gates v.gates)
  differs_exactly says = by says.0 says.1 (cause_is says.0 says.2)
    where
      by : (w : Verdict) → IsVerdict u.qubits (compared u.gates v.gates) (exponent (comparison u.gates v.gates)) w → output.cause ≡ told_by w → (output.cause ≡ Differs) ↔ (¬ AreSame u.qubits u.gates v.gates)
      by (verdicts.Scalar q k) is e =
          ((λ differs. absurd (let clash : Done ≡ Differs = sym e ∙ differs in cc)), (λ not. absurd (not ((told (verdicts.Scalar q k) is).1 (q, k, refl)))))
      by (verdicts.Differs row col value own) is e =
          ((λ _ s. (let found = (told (verdicts.Differs row col value own) is).0 s in let clash : verdicts.Differs row col value own ≡ verdicts.Scalar found.0 found.1 = found.2 in cc)), (λ _. e))

abbrev bytes_in : Result Output Cause → List ℕ
bytes_in (Ok output) = output.bytes
bytes_in (Err cause) = []

module _ (one two : List ℕ) (u v : Circuit) (output : Output) (first : ReadsAs one 64 (circuit u)) (second : ReadsAs two 64 (circuit v)) (same : u.qubits ≡ v.qubits) (says : Says u v (Ok output)) where
  one_sound : IsCircuit u
  one_sound = read_is_circuit one 64 u (omega arith) first

  two_sound : IsCircuit v
  two_sound = read_is_circuit two 64 v (omega arith) second

  pub texts_done : (output.cause ≡ Done) ↔ AreSame u.qubits u.gates v.gates
  texts_done = done_exactly u v output one_sound two_sound same says

  pub texts_differ : (output.cause ≡ Differs) ↔ (¬ AreSame u.qubits u.gates v.gates)
  texts_differ = differs_exactly u v output one_sound two_sound same says

  pub texts_tell : (¬ AreSame u.qubits u.gates v.gates) → TellsFirst u v output
  texts_tell not = by says.0 says.1 says.2
    where
      within : All (IsOn u.qubits) v.gates
      within = subst (λ n. All (IsOn n) v.gates) (sym same) two_sound.within

      by : (w : Verdict) → IsVerdict u.qubits (compared u.gates v.gates) (exponent (comparison u.gates v.gates)) w → Writes (told_by w) (verdict_text w) (Ok output) → TellsFirst u v output
      by (verdicts.Scalar q k) is e = absurd (not ((scalar_told u.qubits u.gates v.gates (verdicts.Scalar q k) one_sound.within within is).1 (q, k, refl)))
      by (verdicts.Differs row col value own) is e =
          record { row = row; col = col; first = is.0; bytes = ap bytes_in e ∙ ap₂ (λ a b. verdict_text (verdicts.Differs row col a b)) is.1 is.2 }
