-- How `eq` ends behind its steps, exit by exit.
use Rattle.std.proofs.Common.{◌≡◌, inr, ℕ, List, Option, Result, Ok, refl, sym, ap}
use Rattle.gate_set.specs.Circuits.{Circuit}
use Rattle.circuit_model.specs.Product.{exponent}
use Rattle.amp_printer.specs.declared.verdict.Verdict.{Verdict}
use Rattle.amp_printer.specs.Verdicts.{verdict_text}
use Rattle.comparison.specs.Scalars.{comparison, compared}
use Rattle.comparison.specs.Verdicts.{IsVerdict}
use Rattle.outside.specs.Bytes.{Added, AddedSome}
use Rattle.outputs.specs.declared.output.SendStop.{SendStop}
use Rattle.outputs.specs.declared.output.SendStop.TheVariants as sends
use Rattle.causes.specs.declared.cause.Cause.{Cause}
use Rattle.causes.specs.declared.cause.Cause.TheVariants.{Done, Differs}
use Rattle.causes.specs.Stops.{cause_of_sending}
use Rattle.sliq_engine.specs.Steps.{Output}
use Rattle.sliq_engine.specs.Eq.{told_by, Says}
use Rattle.sliq_engine.specs.Ending.{MayEnd}

module _ (u v : Circuit) (verdict : Verdict) (is : IsVerdict u.qubits (compared u.gates v.gates) (exponent (comparison u.gates v.gates)) verdict) where
  abbrev output : Output
  output = record { cause = told_by verdict; bytes = verdict_text verdict }

  -- it stops while the output is sent
  pub says_stops : (stop : SendStop) (old new : Option (List ℕ)) → AddedSome old new (verdict_text verdict) → MayEnd (Says u v) (cause_of_sending stop) old new
  says_stops sends.Fault old new some = (output, (verdict, is, refl), some)
  says_stops sends.OutOfMemory old new some = inr (output, (verdict, is, refl), some)

  -- the output is written
  wrote : (cause : Cause) (old new : Option (List ℕ)) → told_by verdict ≡ cause → Added old new (verdict_text verdict)
      → (bytes : List ℕ) × Says u v (Ok (record { cause = cause; bytes = bytes })) × Added old new bytes
  wrote cause old new told all = (
    verdict_text verdict,
    (verdict, is, ap (λ (k : Cause). let o : Output = record { cause = k; bytes = verdict_text verdict } in let r : Result Output Cause = Ok o in r) (sym told)),
    all,
  )

  pub says_done : (old new : Option (List ℕ)) → told_by verdict ≡ Done → Added old new (verdict_text verdict) → MayEnd (Says u v) Done old new
  says_done old new told all = wrote Done old new told all

  pub says_differs : (old new : Option (List ℕ)) → told_by verdict ≡ Differs → Added old new (verdict_text verdict) → MayEnd (Says u v) Differs old new
  says_differs old new told all = wrote Differs old new told all
