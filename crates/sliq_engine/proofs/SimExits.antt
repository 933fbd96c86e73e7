-- How `sim` ends, exit by exit.
use Rattle.std.proofs.Common.{◌≡◌, ℕ, Bool, List, length, Option, Ok, refl, sym, ◌∙◌, ap, subst}
use Rattle.gate_set.specs.Circuits.{Circuit}
use Rattle.outside.specs.Bytes.{Added, AddedSome}
use Rattle.phases.specs.Phases.{HandsOn}
use Rattle.amp_dense.specs.Rules.{Settings}
use Rattle.amp_dense.specs.Standing.{Standing, begun, vector}
use Rattle.amp_dense.proofs.Chains.{GoesBy}
use Rattle.amp_dense.proofs.Walking.{walked}
use Rattle.state_update.specs.Kept.{sliced_policy}
use Rattle.outputs.specs.declared.output.SendStop.{SendStop}
use Rattle.causes.specs.declared.cause.Cause.{Cause}
use Rattle.causes.specs.declared.cause.Cause.TheVariants.{Done}
use Rattle.outputs.specs.Listing.{vector_output}
use Rattle.sliq_engine.specs.Steps.{Reads, SameQubits, Simulates}
use Rattle.sliq_engine.specs.Sim.{input_for, sim_output, Sims}
use Rattle.sliq_engine.specs.Ending.{MayEnd, MayStopBy}
use Rattle.causes.specs.Stops.{cause_of_sending}
use Rattle.sliq_engine.proofs.Endings.{ends_first, ends_after, ends_sending}
use Rattle.std.proofs.Math.Path.{ap₂}
use Rattle.gate_set.specs.declared.gate.Gate.{Gate}
use Rattle.circuit_model.specs.Product.{amp, exponent}
use Rattle.circuit_model.specs.Working.{work}
use Rattle.circuit_model.proofs.WorkingLemmas.{work-HasValues}
use Rattle.outputs.proofs.ListingLemmas.{vector_output-values}

-- the output of a circuit, from its working vector
working_output : (m n : ℕ) (z : List Bool) (rules : Settings) (gates : List Gate) (t : Standing) → m ≡ n → length z ≡ n → GoesBy (begun z rules) gates t
    → vector_output m (vector t) ≡ sim_output n z gates
working_output m n z rules gates t size input by =
    ap (λ (k : ℕ). vector_output k (vector t)) size
    ∙ ap₂ (λ g x. vector_output n (work g x)) by.accepted by.input
    ∙ vector_output-values n (work gates z).entries (amp gates z) (work gates z).exponent (exponent gates)
    (λ x long. work-HasValues gates z x (long ∙ sym input))

module _ (bits : Option (List Bool)) (rules : Settings) (text : List ℕ) where
  -- the text is refused
  pub sim_refused : (cause : Cause) (out : Option (List ℕ)) → MayStopBy (Reads 1 text) cause → MayEnd (Sims bits rules text) cause out out
  sim_refused cause out h = ends_first (Reads 1 text) _ cause out h

  module _ (c : Circuit) (reads : Reads 1 text (Ok c)) where
    -- the basis state at the start
    abbrev pub start : List Bool
    start = input_for bits c.qubits

    -- the input has another number of qubits
    pub sim_differs : (cause : Cause) (out : Option (List ℕ)) → MayStopBy (SameQubits c.qubits (length start)) cause → MayEnd (Sims bits rules text) cause out out
    sim_differs cause out h =
        ends_after (Reads 1 text) _ c cause out out reads (ends_first (SameQubits c.qubits (length start)) _ cause out h)

    module _ (same : c.qubits ≡ length start) where
      -- it stops at a gate
      pub sim_halts : (cause : Cause) (out : Option (List ℕ)) → MayStopBy (Simulates sliced_policy rules start c.gates) cause → MayEnd (Sims bits rules text) cause out out
      sim_halts cause out h =
          ends_after (Reads 1 text) _ c cause out out reads
          (ends_after (SameQubits c.qubits (length start)) _ tt cause out out (λ other. other same)
          (ends_first (Simulates sliced_policy rules start c.gates) _ cause out h))

      module _ (t : Standing) (simulates : Simulates sliced_policy rules start c.gates (Ok t)) (m : ℕ) (size : m ≡ c.qubits) where
        -- what is sent is the circuit's output
        bytes : vector_output m (vector t) ≡ sim_output c.qubits start c.gates
        bytes = working_output m c.qubits start rules c.gates t size (sym same) (walked sliced_policy (begun start rules) c.gates t simulates)

        -- it ends as its last phase may
        ended : (cause : Cause) (old new : Option (List ℕ)) → MayEnd (HandsOn (record { cause = Done; bytes = sim_output c.qubits start c.gates })) cause old new → MayEnd (Sims bits rules text) cause old new
        ended cause old new h =
            ends_after (Reads 1 text) _ c cause old new reads
            (ends_after (SameQubits c.qubits (length start)) _ tt cause old new (λ other. other same)
            (ends_after (Simulates sliced_policy rules start c.gates) _ t cause old new simulates h))

        -- it stops while the output is sent
        pub sim_stops : (stop : SendStop) (old new : Option (List ℕ)) → AddedSome old new (vector_output m (vector t)) → MayEnd (Sims bits rules text) (cause_of_sending stop) old new
        sim_stops stop old new some =
            ended (cause_of_sending stop) old new
            (ends_sending (record { cause = Done; bytes = sim_output c.qubits start c.gates }) stop old new (subst (AddedSome old new) bytes some))

        -- the output is written
        pub sim_ends : (old new : Option (List ℕ)) → Added old new (vector_output m (vector t)) → MayEnd (Sims bits rules text) Done old new
        sim_ends old new all = ended Done old new (sim_output c.qubits start c.gates, refl, subst (Added old new) bytes all)
