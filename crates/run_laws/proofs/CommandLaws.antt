-- What each command keeps: a term along its chain.
use Rattle.std.proofs.Common.{◌≡◌, ◌↔◌, ℕ, ◌+◌, ◌*◌, ◌^◌, ◌≤◌, Bool, List, [], ◌∷◌, length, get_or, Option, Result, Ok, Err, ◌∙◌, refl, sym, ap, subst, arith}
use Rattle.gate_set.specs.Circuits.{Circuit}
use Rattle.circuit_model.specs.Working.{work, AllFit}
use Rattle.comparison.specs.Products.{work_matrix, AllStepsFit}
use Rattle.comparison.specs.Steps.{steps_of}
use Rattle.phases.specs.Phases.{StopsWhere, Told}
use Rattle.amp_dense.specs.Rules.{Settings}
use Rattle.amp_dense.specs.declared.stop.Stop.{Stop}
use Rattle.amp_dense.specs.declared.stop.Stop.TheVariants as stops
use Rattle.state_update.specs.Kept.{sliced_policy}
use Rattle.unitary_update.specs.Kept.{Standing, Multiplies}
use Rattle.probabilities.specs.Weighing.{total_weight}
use Rattle.qasm_reader.specs.Reading.{ReadsAs, circuit}
use Rattle.fidelity.specs.Widths.{IsTooWide}
use Rattle.fidelity.proofs.KeptMatrix.{too_wide_or_not}
use Rattle.demo_text.specs.Generator.{demo_text}
use Rattle.demo_reads.specs.Drawn.{drawn_circuit}
use Rattle.demo_reads.proofs.Whole.{demo_is_read, demo_unrefused}
use Rattle.causes.specs.declared.cause.Cause.{Cause}
use Rattle.causes.specs.declared.cause.Cause.TheVariants.{Done, WeightTooWide, SampleTooWide, FidelityTooWide, Refused}
use Rattle.causes.specs.Stops.{cause_of}
use Rattle.sliq_words.specs.declared.reading.Task.{Task}
use Rattle.sliq_words.specs.declared.reading.Task.TheVariants as task
use Rattle.sliq_engine.specs.Steps.{Reads, SameQubits, Simulates, Output, zeros}
use Rattle.sliq_engine.specs.Sim.{input_for, sim_output, Sims}
use Rattle.sliq_engine.specs.Prob.{IsHeavy, prob_output, Weighs}
use Rattle.sliq_engine.specs.Demo.{demo_output, Demonstrates}
use Rattle.sliq_engine.specs.Eq.{Says, Compares}
use Rattle.sliq_engine.specs.Sample.{IsTooHeavyToDraw, sample_output, Samples}
use Rattle.sliq_engine.specs.Fidelity.{fidelity_output, Overlaps}
use Rattle.sliq_engine.specs.Comes.{CarriesOut}
use Rattle.sliq_engine.proofs.WeighedExits.{at_least_or_not}
use Rattle.run_laws.specs.Laws.{IsSure, AreEnough, HasEnough, GatesHaveNodes, StepsHaveNodes, ComesTo}
use Rattle.run_laws.proofs.Lawful.{IsLawful, StopsBy, by_both, by_handing_on, behind, hands_on, tests, handed_on, comes_to, from}
use Rattle.run_laws.proofs.PhaseLaws.{read_same, as_read, read_on, as_zeros, same_number, reads, same_qubits, simulates, multiplies, says}

-- ---- all in order
-- a text reads as a circuit, of which this holds
abbrev pub ReadsWith : (Circuit → Type 0) → List ℕ → Type 0
ReadsWith P text = ((c : Circuit) × ReadsAs text 64 (circuit c)) × ((c : Circuit) → ReadsAs text 64 (circuit c) → P c)

pub reads_with : (P : Circuit → Type 0) (text : List ℕ) (c : Circuit) → ReadsAs text 64 (circuit c) → P c → ReadsWith P text
reads_with P text c reads h = ((c, reads), as_read P text c reads h)

-- its gates fit and have nodes on this input
abbrev pub ArePassed : Settings → (ℕ → List Bool) → Circuit → Type 0
ArePassed rules input c = AllFit rules.width (input c.qubits) c.gates × GatesHaveNodes rules (input c.qubits) c.gates

abbrev pub SimIsOrdered : Option (List Bool) → Settings → Circuit → Type 0
SimIsOrdered bits rules c = (c.qubits ≡ length (input_for bits c.qubits)) × ArePassed rules (input_for bits) c

abbrev pub ProbIsOrdered : Settings → Circuit → Type 0
ProbIsOrdered rules c = (¬ IsHeavy c.qubits (work c.gates (zeros c.qubits)).entries) × ArePassed rules zeros c

abbrev pub SampleIsOrdered : Settings → Circuit → Type 0
SampleIsOrdered rules c = (¬ IsTooHeavyToDraw c.qubits (work c.gates (zeros c.qubits)).entries) × ArePassed rules zeros c

abbrev pub EqIsOrdered : Settings → Circuit → Circuit → Type 0
EqIsOrdered rules u v =
    (u.qubits ≡ v.qubits) × AllStepsFit rules.width u.qubits (steps_of u.gates v.gates) × (3 * u.qubits ≤ rules.nodes) × StepsHaveNodes rules u.qubits (steps_of u.gates v.gates)

abbrev pub FidelityIsOrdered : Settings → Circuit → Circuit → Type 0
FidelityIsOrdered rules u v = (¬ IsTooWide u.qubits (work_matrix u.qubits (steps_of u.gates v.gates)).entries) × EqIsOrdered rules u v

abbrev pub IsOrdered : Task → Settings → List (List ℕ) → Type 0
IsOrdered (task.Sim bits) rules texts = ReadsWith (SimIsOrdered bits rules) (get_or texts 0 [])
IsOrdered task.Prob rules texts = ReadsWith (ProbIsOrdered rules) (get_or texts 0 [])
IsOrdered task.Eq rules texts = ReadsWith (λ u. ReadsWith (EqIsOrdered rules u) (get_or texts 1 [])) (get_or texts 0 [])
IsOrdered (task.Demo qubits gates seed) rules texts = ReadsWith (ArePassed rules zeros) (demo_text qubits gates seed)
IsOrdered (task.Sample shots seed) rules texts = ReadsWith (SampleIsOrdered rules) (get_or texts 0 [])
IsOrdered task.Fidelity rules texts = ReadsWith (λ u. ReadsWith (FidelityIsOrdered rules u) (get_or texts 1 [])) (get_or texts 0 [])

-- ---- the commands
late : (k : ℕ) → k + 1 ≡ 0 → ⊥
late k first = absurd (omega (arith, first))

module _ (rules : Settings) (texts : List (List ℕ)) where
  -- what is asked of a task
  abbrev Fed : Task → Type 0
  Fed it = HasEnough it rules texts

  abbrev Fine : Task → Type 0
  Fine it = IsOrdered it rules texts

  abbrev one : List ℕ
  one = get_or texts 0 []

  abbrev two : List ℕ
  two = get_or texts 1 []

  sim_laws : (bits : Option (List Bool)) → IsLawful (IsSure (task.Sim bits)) rules (Fed (task.Sim bits)) (Fine (task.Sim bits)) (Sims bits rules one)
  sim_laws bits =
      behind (reads 1 one (λ (fine : Fine (task.Sim bits)). fine.0))
      (λ c read. behind (same_qubits c.qubits (length (input_for bits c.qubits)) (λ (fine : Fine (task.Sim bits)). (fine.1 c read).0))
      (λ _ other. let same = same_number c.qubits (length (input_for bits c.qubits)) other in
      behind (simulates (λ k _ _. late k) (input_for bits c.qubits) c.gates (read_on one c (length (input_for bits c.qubits)) read same)
      (λ (fed : Fed (task.Sim bits)). subst (AreEnough rules) same (fed c read)) (λ (fine : Fine (task.Sim bits)). (fine.1 c read).1))
      (λ _ _. hands_on _)))

  prob_laws : IsLawful (IsSure task.Prob) rules (Fed task.Prob) (Fine task.Prob) (Weighs rules one)
  prob_laws =
      behind (reads 1 one (λ (fine : Fine task.Prob). fine.0))
      (λ c read. behind (simulates (λ k _ _. late k) (zeros c.qubits) c.gates (read_on one c (length (zeros c.qubits)) read (as_zeros c.qubits))
      (λ (fed : Fed task.Prob). subst (AreEnough rules) (as_zeros c.qubits) (fed c read)) (λ (fine : Fine task.Prob). (fine.1 c read).1))
      (λ _ _. behind (tests (IsHeavy c.qubits (work c.gates (zeros c.qubits)).entries) WeightTooWide tt tt (at_least_or_not (2 ^ 127) (total_weight c.qubits (work c.gates (zeros c.qubits)).entries).a)
      (λ (fine : Fine task.Prob). (fine.1 c read).0))
      (λ _ _. hands_on _)))

  eq_laws : IsLawful (IsSure task.Eq) rules (Fed task.Eq) (Fine task.Eq) (Compares rules one two)
  eq_laws =
      behind (reads 1 one (λ (fine : Fine task.Eq). fine.0))
      (λ u first. behind (reads 2 two (λ (fine : Fine task.Eq). (fine.1 u first).0))
      (λ v second. behind (same_qubits u.qubits v.qubits (λ (fine : Fine task.Eq). ((fine.1 u first).1 v second).0))
      (λ _ other.
      behind (multiplies (λ k _ _. late k) u v (read_on one u u.qubits first refl) (read_on two v u.qubits second (sym (same_number u.qubits v.qubits other))) (λ (fed : Fed task.Eq). fed u first)
      (λ (fine : Fine task.Eq). let is = (fine.1 u first).1 v second in (is.1, is.2, is.3)))
      (λ _ _. says u v))))

  demo_laws : (qubits gates seed : ℕ) → IsLawful (IsSure (task.Demo qubits gates seed)) rules (Fed (task.Demo qubits gates seed)) (Fine (task.Demo qubits gates seed)) (Demonstrates rules qubits gates seed)
  demo_laws qubits gates seed =
      behind (reads 1 (demo_text qubits gates seed) (λ (fine : Fine (task.Demo qubits gates seed)). fine.0))
      (λ c read. behind (simulates (λ k _ _. late k) (zeros c.qubits) c.gates (read_on (demo_text qubits gates seed) c (length (zeros c.qubits)) read (as_zeros c.qubits))
      (λ (fed : Fed (task.Demo qubits gates seed)). subst (AreEnough rules) (as_zeros c.qubits)
      (as_read (λ d. AreEnough rules d.qubits) (demo_text qubits gates seed) (drawn_circuit qubits gates seed) (demo_is_read qubits gates seed fed.0.0 fed.0.1 fed.0.2) fed.1 c read))
      (λ (fine : Fine (task.Demo qubits gates seed)). fine.1 c read))
      (λ _ _. hands_on _))

  sample_laws : (shots seed : ℕ)
      → IsLawful (IsSure (task.Sample shots seed)) rules (Fed (task.Sample shots seed)) (Fine (task.Sample shots seed)) (Samples shots seed rules one)
  sample_laws shots seed =
      behind (reads 1 one (λ (fine : Fine (task.Sample shots seed)). fine.0))
      (λ c read. behind (simulates (λ k _ _. late k) (zeros c.qubits) c.gates (read_on one c (length (zeros c.qubits)) read (as_zeros c.qubits))
      (λ (fed : Fed (task.Sample shots seed)). subst (AreEnough rules) (as_zeros c.qubits) (fed c read)) (λ (fine : Fine (task.Sample shots seed)). (fine.1 c read).1))
      (λ _ _. behind (tests (IsTooHeavyToDraw c.qubits (work c.gates (zeros c.qubits)).entries) SampleTooWide tt tt (at_least_or_not (2 ^ 60) (total_weight c.qubits (work c.gates (zeros c.qubits)).entries).a)
      (λ (fine : Fine (task.Sample shots seed)). (fine.1 c read).0))
      (λ _ _. hands_on _)))

  fidelity_laws : IsLawful (IsSure task.Fidelity) rules (Fed task.Fidelity) (Fine task.Fidelity) (Overlaps rules one two)
  fidelity_laws =
      behind (reads 1 one (λ (fine : Fine task.Fidelity). fine.0))
      (λ u first. behind (reads 2 two (λ (fine : Fine task.Fidelity). (fine.1 u first).0))
      (λ v second. behind (same_qubits u.qubits v.qubits (λ (fine : Fine task.Fidelity). ((fine.1 u first).1 v second).1.0))
      (λ _ other.
      behind (multiplies (λ k _ _. late k) u v (read_on one u u.qubits first refl) (read_on two v u.qubits second (sym (same_number u.qubits v.qubits other))) (λ (fed : Fed task.Fidelity). fed u first)
      (λ (fine : Fine task.Fidelity). let is = ((fine.1 u first).1 v second).1 in (is.1, is.2, is.3)))
      (λ _ _. behind (tests (IsTooWide u.qubits (work_matrix u.qubits (steps_of u.gates v.gates)).entries) FidelityTooWide tt tt
      (too_wide_or_not u.qubits (work_matrix u.qubits (steps_of u.gates v.gates)).entries) (λ (fine : Fine task.Fidelity). ((fine.1 u first).1 v second).0))
      (λ _ _. hands_on _)))))

pub laws_of : (it : Task) (rules : Settings) (texts : List (List ℕ)) → IsLawful (IsSure it) rules (HasEnough it rules texts) (IsOrdered it rules texts) (CarriesOut it rules texts)
laws_of (task.Sim bits) rules texts = sim_laws rules texts bits
laws_of task.Prob rules texts = prob_laws rules texts
laws_of task.Eq rules texts = eq_laws rules texts
laws_of (task.Demo qubits gates seed) rules texts = demo_laws rules texts qubits gates seed
laws_of (task.Sample shots seed) rules texts = sample_laws rules texts shots seed
laws_of task.Fidelity rules texts = fidelity_laws rules texts

-- ---- their outputs
-- the bytes of an output that ends as Done
same_output : (o : Output) (bytes more : List ℕ) → (let r : Result Output Cause = Ok o in r) ≡ Ok (record { cause = Done; bytes = bytes }) → bytes ≡ more → o ≡ record { cause = Done; bytes = more }
same_output o bytes more is same = let here : o ≡ record { cause = Done; bytes = bytes } = cc in here ∙ ap (λ (b : List ℕ). let p : Output = record { cause = Done; bytes = b } in p) same

-- what `fidelity` writes is that of the circuits as which its texts read, which are on as many qubits
pub fidelity_written : (rules : Settings) (one two : List ℕ) (u v : Circuit) → ReadsAs one 64 (circuit u) → ReadsAs two 64 (circuit v) → (o : Output) → Overlaps rules one two (Ok o)
    → (u.qubits ≡ v.qubits) × (o ≡ record { cause = Done; bytes = fidelity_output u.qubits u.gates v.gates })
fidelity_written rules one two u v first second o h =
    let a = from (Reads 1 one) _ o h in
    let b = from (Reads 2 two) _ o a.2 in
    let s = from (SameQubits a.0.qubits b.0.qubits) _ o b.2 in
    let m = from (Told cause_of (Multiplies rules a.0.qubits (steps_of a.0.gates b.0.gates))) _ o s.2 in
    let w = from (StopsWhere (IsTooWide a.0.qubits (work_matrix a.0.qubits (steps_of a.0.gates b.0.gates)).entries) FidelityTooWide) _ o m.2 in
    let one_read = read_same one a.0 u a.1 first in
    let two_read = read_same two b.0 v b.1 second in (
      sym (ap (λ (d : Circuit). d.qubits) one_read) ∙ same_number a.0.qubits b.0.qubits s.1 ∙ ap (λ (d : Circuit). d.qubits) two_read,
      same_output o _ _ w.2 (ap (λ (d : Circuit). fidelity_output d.qubits d.gates b.0.gates) one_read ∙ ap (λ (d : Circuit). fidelity_output u.qubits u.gates d.gates) two_read),
    )

module _ (rules : Settings) (wide : 2 ≤ rules.width) where
  module _ (text : List ℕ) (c : Circuit) (read : ReadsAs text 64 (circuit c)) where
    pub sim_comes : (bits : Option (List Bool)) → SimIsOrdered bits rules c → ComesTo (Sims bits rules text) (record { cause = Done; bytes = sim_output c.qubits (input_for bits c.qubits) c.gates })
    sim_comes bits ordered = comes_to _ (laws_of (task.Sim bits) rules (text ∷ [])) wide (reads_with (SimIsOrdered bits rules) text c read ordered) only
      where
        only : (o : Output) → Sims bits rules text (Ok o) → o ≡ record { cause = Done; bytes = sim_output c.qubits (input_for bits c.qubits) c.gates }
        only o h =
            let a = from (Reads 1 text) _ o h in
            let b = from (SameQubits a.0.qubits (length (input_for bits a.0.qubits))) _ o a.2 in
            let s = from (Simulates sliced_policy rules (input_for bits a.0.qubits) a.0.gates) _ o b.2 in
            same_output o _ _ s.2 (ap (λ (d : Circuit). sim_output d.qubits (input_for bits d.qubits) d.gates) (read_same text a.0 c a.1 read))

    pub prob_comes : ProbIsOrdered rules c → ComesTo (Weighs rules text) (record { cause = Done; bytes = prob_output c })
    prob_comes ordered = comes_to _ (laws_of task.Prob rules (text ∷ [])) wide (reads_with (ProbIsOrdered rules) text c read ordered) only
      where
        only : (o : Output) → Weighs rules text (Ok o) → o ≡ record { cause = Done; bytes = prob_output c }
        only o h =
            let a = from (Reads 1 text) _ o h in
            let s = from (Simulates sliced_policy rules (zeros a.0.qubits) a.0.gates) _ o a.2 in
            let w = from (StopsWhere (IsHeavy a.0.qubits (work a.0.gates (zeros a.0.qubits)).entries) WeightTooWide) _ o s.2 in
            same_output o _ _ w.2 (ap prob_output (read_same text a.0 c a.1 read))

    pub sample_comes : (shots seed : ℕ) → SampleIsOrdered rules c → ComesTo (Samples shots seed rules text) (record { cause = Done; bytes = sample_output shots seed c })
    sample_comes shots seed ordered = comes_to _ (laws_of (task.Sample shots seed) rules (text ∷ [])) wide (reads_with (SampleIsOrdered rules) text c read ordered) only
      where
        only : (o : Output) → Samples shots seed rules text (Ok o) → o ≡ record { cause = Done; bytes = sample_output shots seed c }
        only o h =
            let a = from (Reads 1 text) _ o h in
            let s = from (Simulates sliced_policy rules (zeros a.0.qubits) a.0.gates) _ o a.2 in
            let w = from (StopsWhere (IsTooHeavyToDraw a.0.qubits (work a.0.gates (zeros a.0.qubits)).entries) SampleTooWide) _ o s.2 in
            same_output o _ _ w.2 (ap (sample_output shots seed) (read_same text a.0 c a.1 read))

  pub demo_comes : (qubits gates seed : ℕ) → 1 ≤ qubits → qubits ≤ 64 → gates ≤ 500000 → ArePassed rules zeros (drawn_circuit qubits gates seed)
      → ComesTo (Demonstrates rules qubits gates seed) (record { cause = Done; bytes = demo_output qubits (drawn_circuit qubits gates seed).gates })
  demo_comes qubits gates seed some le few ordered =
      comes_to _ (laws_of (task.Demo qubits gates seed) rules []) wide (reads_with (ArePassed rules zeros) (demo_text qubits gates seed) (drawn_circuit qubits gates seed) read ordered) only
    where
      read : ReadsAs (demo_text qubits gates seed) 64 (circuit (drawn_circuit qubits gates seed))
      read = demo_is_read qubits gates seed some le few

      only : (o : Output) → Demonstrates rules qubits gates seed (Ok o) → o ≡ record { cause = Done; bytes = demo_output qubits (drawn_circuit qubits gates seed).gates }
      only o h =
          let a = from (Reads 1 (demo_text qubits gates seed)) _ o h in
          let s = from (Simulates sliced_policy rules (zeros a.0.qubits) a.0.gates) _ o a.2 in
          same_output o _ _ s.2 (ap (λ (d : Circuit). demo_output d.qubits d.gates) (read_same (demo_text qubits gates seed) a.0 (drawn_circuit qubits gates seed) a.1 read))

  module _ (one two : List ℕ) (u v : Circuit) (first : ReadsAs one 64 (circuit u)) (second : ReadsAs two 64 (circuit v)) (ordered : EqIsOrdered rules u v) where
    lawful : IsLawful (IsSure task.Eq) rules (HasEnough task.Eq rules (one ∷ two ∷ [])) (IsOrdered task.Eq rules (one ∷ two ∷ [])) (Compares rules one two)
    lawful = laws_of task.Eq rules (one ∷ two ∷ [])

    in_order : IsOrdered task.Eq rules (one ∷ two ∷ [])
    in_order = reads_with (λ w. ReadsWith (EqIsOrdered rules w) two) one u first (reads_with (EqIsOrdered rules u) two v second ordered)

    -- what is said is said of these circuits, of which the steps came
    said : (o : Output) → Compares rules one two (Ok o) → ((m : Standing) × Multiplies rules u.qubits (steps_of u.gates v.gates) (Ok m)) × Says u v (Ok o)
    said o h =
        let a = from (Reads 1 one) _ o h in
        let b = from (Reads 2 two) _ o a.2 in
        let s = from (SameQubits a.0.qubits b.0.qubits) _ o b.2 in
        let m = from (Told cause_of (Multiplies rules a.0.qubits (steps_of a.0.gates b.0.gates))) _ o s.2 in
        let P : Circuit → Circuit → Type 0 = λ w x. ((m : Standing) × Multiplies rules w.qubits (steps_of w.gates x.gates) (Ok m)) × Says w x (Ok o) in
        subst (λ w. P w v) (read_same one a.0 u a.1 first) (subst (λ x. P a.0 x) (read_same two b.0 v b.1 second) ((m.0, m.1), m.2))

    pub eq_comes : (end : Result Output Cause) → Compares rules one two end ↔ Says u v end
    eq_comes end = (to end, back)
      where
        to : (at : Result Output Cause) → Compares rules one two at → Says u v at
        to (Ok o) h = (said o h).1
        to (Err cause) h = absurd (lawful.passed in_order cause h)

        back : Says u v end → Compares rules one two end
        back says =
            let some = handed_on lawful wide in_order in
            let m = (said some.0 some.1).0 in
            (Ok u, first, (Ok v, second, (Ok tt, (λ other. other ordered.0), (Ok m.0, m.1, says))))

  pub fidelity_comes : (one two : List ℕ) (u v : Circuit) → ReadsAs one 64 (circuit u) → ReadsAs two 64 (circuit v) → FidelityIsOrdered rules u v
      → ComesTo (Overlaps rules one two) (record { cause = Done; bytes = fidelity_output u.qubits u.gates v.gates })
  fidelity_comes one two u v first second ordered =
      comes_to _ (laws_of task.Fidelity rules (one ∷ two ∷ [])) wide
      (reads_with (λ w. ReadsWith (FidelityIsOrdered rules w) two) one u first (reads_with (FidelityIsOrdered rules u) two v second ordered))
      (λ o h. (fidelity_written rules one two u v first second o h).1)

-- ---- refusals
-- any cause but a refusal
abbrev IsUnrefused : Cause → Type 0
IsUnrefused (Refused file r) = ⊥
IsUnrefused cause = Unit {0}

unrefused : (stop : Stop) → IsUnrefused (cause_of stop)
unrefused (stops.Width number) = tt
unrefused (stops.Nodes number order held) = tt
unrefused stops.OutOfMemory = tt

-- the text of `demo` is never refused, and no later phase stops so
pub never_refused : (rules : Settings) (qubits gates seed : ℕ) → 1 ≤ qubits → qubits ≤ 64 → gates ≤ 500000 → StopsBy IsUnrefused (Demonstrates rules qubits gates seed)
never_refused rules qubits gates seed some le few =
    by_both IsUnrefused (Reads 1 (demo_text qubits gates seed)) _ (λ cause h. absurd (demo_unrefused qubits gates seed some le few h.0.statement h.0.why h.1))
    (λ c _. by_both IsUnrefused (Simulates sliced_policy rules (zeros c.qubits) c.gates) _ (λ cause h. subst IsUnrefused (sym h.2) (unrefused h.0)) (λ _ _. by_handing_on IsUnrefused _))
