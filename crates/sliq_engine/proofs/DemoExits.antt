-- How `demo` ends, exit by exit.
use Rattle.std.proofs.Common.{◌≡◌, ℕ, inl, List, Option, Ok, refl, subst, length, ◌∙◌, ap}
use Rattle.std.proofs.Math.Path.{ap₂}
use Rattle.gate_set.specs.declared.gate.Gate.{Gate}
use Rattle.gate_set.specs.Circuits.{Circuit}
use Rattle.circuit_model.specs.Working.{work}
use Rattle.outside.specs.Bytes.{Added, AddedSome}
use Rattle.phases.specs.Phases.{HandsOn}
use Rattle.amp_dense.specs.Rules.{Settings}
use Rattle.amp_dense.specs.Standing.{Standing, begun, vector}
use Rattle.amp_dense.proofs.Chains.{GoesBy}
use Rattle.amp_dense.proofs.Walking.{walked}
use Rattle.state_update.specs.Kept.{sliced_policy}
use Rattle.demo_text.specs.Generator.{demo_text}
use Rattle.outputs.specs.declared.output.SendStop.{SendStop}
use Rattle.causes.specs.declared.cause.Cause.{Cause}
use Rattle.causes.specs.declared.cause.Cause.TheVariants.{Done, OutOfMemory}
use Rattle.sliq_engine.specs.Steps.{Reads, zeros, Simulates}
use Rattle.outputs.specs.Summary.{summary_output}
use Rattle.sliq_engine.specs.Demo.{demo_output, Demonstrates}
use Rattle.sliq_engine.specs.Ending.{MayEnd, MayStopBy}
use Rattle.causes.specs.Stops.{cause_of_sending}
use Rattle.sliq_engine.proofs.Endings.{ends_first, ends_after, ends_sending}

-- the summary of a circuit, from what its working vector stands by
working_summary : (m n : ℕ) (rules : Settings) (gates : List Gate) (t : Standing) → m ≡ n → GoesBy (begun (zeros n) rules) gates t
    → summary_output m (length t.gates) (vector t) ≡ demo_output n gates
working_summary m n rules gates t size by =
    ap (λ (k : ℕ). summary_output k (length t.gates) (vector t)) size
    ∙ ap₂ (λ g x. summary_output n (length g) (work g x)) by.accepted by.input

module _ (rules : Settings) (q n seed : ℕ) where
  -- memory is wanted before the text is read
  pub demo_starved : (out : Option (List ℕ)) → MayEnd (Demonstrates rules q n seed) OutOfMemory out out
  demo_starved out = inl refl

  module _ (c : Circuit) (reads : Reads 1 (demo_text q n seed) (Ok c)) where
    -- it stops at a gate
    pub demo_halts : (cause : Cause) (out : Option (List ℕ)) → MayStopBy (Simulates sliced_policy rules (zeros c.qubits) c.gates) cause → MayEnd (Demonstrates rules q n seed) cause out out
    demo_halts cause out h =
        ends_after (Reads 1 (demo_text q n seed)) _ c cause out out reads
        (ends_first (Simulates sliced_policy rules (zeros c.qubits) c.gates) _ cause out h)

    module _ (t : Standing) (simulates : Simulates sliced_policy rules (zeros c.qubits) c.gates (Ok t)) (m : ℕ) (size : m ≡ c.qubits) where
      bytes : summary_output m (length t.gates) (vector t) ≡ demo_output c.qubits c.gates
      bytes = working_summary m c.qubits rules c.gates t size (walked sliced_policy (begun (zeros c.qubits) rules) c.gates t simulates)

      ended : (cause : Cause) (old new : Option (List ℕ)) → MayEnd (HandsOn (record { cause = Done; bytes = demo_output c.qubits c.gates })) cause old new → MayEnd (Demonstrates rules q n seed) cause old new
      ended cause old new h =
          ends_after (Reads 1 (demo_text q n seed)) _ c cause old new reads
          (ends_after (Simulates sliced_policy rules (zeros c.qubits) c.gates) _ t cause old new simulates h)

      -- it stops while the summary is sent
      pub demo_stops : (stop : SendStop) (old new : Option (List ℕ)) → AddedSome old new (summary_output m (length t.gates) (vector t)) → MayEnd (Demonstrates rules q n seed) (cause_of_sending stop) old new
      demo_stops stop old new some =
          ended (cause_of_sending stop) old new
          (ends_sending (record { cause = Done; bytes = demo_output c.qubits c.gates }) stop old new (subst (AddedSome old new) bytes some))

      -- the summary is written
      pub demo_ends : (old new : Option (List ℕ)) → Added old new (summary_output m (length t.gates) (vector t)) → MayEnd (Demonstrates rules q n seed) Done old new
      demo_ends old new all = ended Done old new (demo_output c.qubits c.gates, refl, subst (Added old new) bytes all)
