-- How the commands end that first weigh all states, `prob` and `sample`, exit by exit.
use Rattle.std.proofs.Common.{◌≡◌, ◌⊎◌, inl, inr, ℕ, ◌≤◌, pos, ◌≤ℤ◌, ◌<ℤ◌, ℤ, List, Bool, Option, Ok, refl, ◌∙◌, subst, ap, arith}
use Rattle.std.proofs.lemmas.Int.{ints}
use Rattle.gate_set.specs.Circuits.{Circuit}
use Rattle.ring_omega.specs.declared.quad.Quad.{Quad}
use Rattle.circuit_model.specs.Working.{Scaled, work}
use Rattle.outside.specs.Bytes.{Added, AddedSome}
use Rattle.phases.specs.Phases.{Phase, ◌>>=◌, ◌>>◌, HandsOn, StopsWhere}
use Rattle.amp_dense.specs.Rules.{Settings}
use Rattle.amp_dense.specs.Standing.{Standing, begun, vector}
use Rattle.amp_dense.proofs.Walking.{walked}
use Rattle.state_update.specs.Kept.{sliced_policy}
use Rattle.probabilities.specs.Outcomes.{counted}
use Rattle.outputs.specs.declared.output.SendStop.{SendStop}
use Rattle.causes.specs.declared.cause.Cause.{Cause}
use Rattle.causes.specs.declared.cause.Cause.TheVariants.{Done}
use Rattle.causes.specs.Stops.{cause_of_sending}
use Rattle.sliq_engine.specs.Steps.{Reads, zeros, Simulates, Output, Writes}
use Rattle.sliq_engine.specs.Ending.{MayEnd, MayStopBy}
use Rattle.sliq_engine.proofs.Endings.{ends_first, ends_after, ends_sending}

-- ---- a number is at least m, or below it
two_sides : (m : ℕ) (z : ℤ) → (pos m ≤ℤ z) ⊎ (z <ℤ pos m)
two_sides m z = grind (arith, ints)

pub below_fails : (m : ℕ) (z : ℤ) → z <ℤ pos m → ¬ (pos m ≤ℤ z)
below_fails m z less h = omega (arith, ints)

pub at_least_or_not : (m : ℕ) (z : ℤ) → (pos m ≤ℤ z) ⊎ (¬ (pos m ≤ℤ z))
at_least_or_not m z = elim (two_sides m z) [ inl h ↦ inl h | inr less ↦ inr (below_fails m z less) ]

pub below_from : (m : ℕ) (z : ℤ) → ¬ (pos m ≤ℤ z) → z <ℤ pos m
below_from m z fails = elim (two_sides m z) [ inl h ↦ absurd (fails h) | inr less ↦ less ]

pub at_least_from : (m : ℕ) (z : ℤ) → ¬ (z <ℤ pos m) → pos m ≤ℤ z
at_least_from m z fails = elim (two_sides m z) [ inl h ↦ h | inr less ↦ absurd (fails less) ]

-- ---- the exits
-- Heavy tells which states are too heavy, which stops the run by the cause `own`; else this is written of the measured qubits and the vector
module _ (Heavy : ℕ → (List Bool → Quad) → Type 0) (own : Cause) (output : List Bool → Scaled → List ℕ) (rules : Settings) (text : List ℕ) where
  abbrev pub written : Circuit → List ℕ
  written c = output (counted c.measured) (work c.gates (zeros c.qubits))

  abbrev pub Chain : Phase Output Cause
  Chain = do
    c ← Reads 1 text
    Simulates sliced_policy rules (zeros c.qubits) c.gates
    StopsWhere (Heavy c.qubits (work c.gates (zeros c.qubits)).entries) own
    Writes Done (written c)

  -- the text is refused
  pub weighed_refused : (cause : Cause) (out : Option (List ℕ)) → MayStopBy (Reads 1 text) cause → MayEnd Chain cause out out
  weighed_refused cause out h = ends_first (Reads 1 text) _ cause out h

  module _ (c : Circuit) (reads : Reads 1 text (Ok c)) where
    -- it stops at a gate
    pub weighed_halts : (cause : Cause) (out : Option (List ℕ)) → MayStopBy (Simulates sliced_policy rules (zeros c.qubits) c.gates) cause → MayEnd Chain cause out out
    weighed_halts cause out h =
        ends_after (Reads 1 text) _ c cause out out reads
        (ends_first (Simulates sliced_policy rules (zeros c.qubits) c.gates) _ cause out h)

    module _ (t : Standing) (simulates : Simulates sliced_policy rules (zeros c.qubits) c.gates (Ok t)) (m : ℕ) (size : m ≡ c.qubits) where
      -- the vector at the end is that of the circuit's gates
      pub whole : vector t ≡ work c.gates (zeros c.qubits)
      whole = let by = walked sliced_policy (begun (zeros c.qubits) rules) c.gates t simulates in worked t by.accepted by.input
        where
          worked : (s : Standing) → s.gates ≡ c.gates → s.input ≡ zeros c.qubits → vector s ≡ work c.gates (zeros c.qubits)
          worked s g i = ap (λ l. work l s.input) g ∙ ap (work c.gates) i

      ended : (cause : Cause) (old new : Option (List ℕ)) → MayEnd (HandsOn (record { cause = Done; bytes = written c })) cause old new
          → ¬ (Heavy m (vector t).entries) → MayEnd Chain cause old new
      ended cause old new h light =
          ends_after (Reads 1 text) _ c cause old new reads
          (ends_after (Simulates sliced_policy rules (zeros c.qubits) c.gates) _ t cause old new simulates
          (ends_after (StopsWhere (Heavy c.qubits (work c.gates (zeros c.qubits)).entries) own) _ tt cause old new (still light) h))
        where
          still : ¬ (Heavy m (vector t).entries) → ¬ (Heavy c.qubits (work c.gates (zeros c.qubits)).entries)
          still l = subst (λ k. ¬ (Heavy k (work c.gates (zeros c.qubits)).entries)) size (subst (λ (w : Scaled). ¬ (Heavy m w.entries)) whole l)

      -- all states weigh too much
      pub weighed_too_heavy : (cause : Cause) (out : Option (List ℕ)) → MayStopBy (StopsWhere (Heavy m (vector t).entries) own) cause → MayEnd Chain cause out out
      weighed_too_heavy cause out h =
          ends_after (Reads 1 text) _ c cause out out reads
          (ends_after (Simulates sliced_policy rules (zeros c.qubits) c.gates) _ t cause out out simulates
          (ends_first (StopsWhere (Heavy c.qubits (work c.gates (zeros c.qubits)).entries) own) _ cause out
          (subst (λ k. MayStopBy (StopsWhere (Heavy k (work c.gates (zeros c.qubits)).entries) own) cause) size
          (subst (λ (w : Scaled). MayStopBy (StopsWhere (Heavy m w.entries) own) cause) whole h))))

      module _ (light : ¬ (Heavy m (vector t).entries)) (flags : List Bool) (measured : flags ≡ counted c.measured) where
        bytes : output flags (vector t) ≡ written c
        bytes = ap (λ l. output l (vector t)) measured ∙ ap (output (counted c.measured)) whole

        -- it stops while the output is sent
        pub weighed_stops : (stop : SendStop) (old new : Option (List ℕ)) → AddedSome old new (output flags (vector t)) → MayEnd Chain (cause_of_sending stop) old new
        weighed_stops stop old new some =
            ended (cause_of_sending stop) old new
            (ends_sending (record { cause = Done; bytes = written c }) stop old new (subst (AddedSome old new) bytes some)) light

        -- the output is written
        pub weighed_ends : (old new : Option (List ℕ)) → Added old new (output flags (vector t)) → MayEnd Chain Done old new
        weighed_ends old new all = ended Done old new (written c, refl, subst (Added old new) bytes all) light
