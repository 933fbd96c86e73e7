-- What the phases keep that commands are made of.
use Rattle.std.proofs.Common.{◌≡◌, ◌≢◌, ◌⊎◌, inl, inr, ℕ, ◌+◌, ◌*◌, ◌≤◌, Bool, false, List, length, Result, Ok, Err, All, refl, sym, ◌∙◌, ap, subst, arith}
use Rattle.std.proofs.Math.Path.{ap₂}
use Rattle.std.proofs.lemmas.Bool.{cases_eq}
use Rattle.std.proofs.lemmas.List.{length-replicate}
use Rattle.gate_set.specs.declared.gate.Gate.{Gate}
use Rattle.gate_set.specs.Circuits.{Circuit}
use Rattle.gate_set.specs.Shape.{IsOn}
use Rattle.circuit_model.specs.Product.{exponent}
use Rattle.circuit_model.specs.Working.{RawFits, AllFit}
use Rattle.circuit_model.proofs.PrefixLemmas.{first_failing-apart}
use Rattle.comparison.specs.Products.{RawStepFits, AllStepsFit}
use Rattle.comparison.specs.Scalars.{comparison, compared}
use Rattle.comparison.specs.Steps.{steps_of}
use Rattle.comparison.proofs.Verdicts.{one_verdict, some_verdict}
use Rattle.amp_printer.specs.declared.verdict.Verdict.{Verdict}
use Rattle.amp_printer.specs.Verdicts.{verdict_text}
use Rattle.phases.specs.Phases.{Told, HasOneEnd, HasSomeEnd}
use Rattle.phases.proofs.Ends.{one_told, some_told}
use Rattle.amp_dense.specs.Rules.{Settings}
use Rattle.amp_dense.specs.Standing.{begun, Walks}
use Rattle.amp_dense.specs.declared.stop.Stop.{Stop}
use Rattle.amp_dense.specs.declared.stop.Stop.TheVariants as stops
use Rattle.amp_dense.proofs.Walking.{walk_unfit, none_unfit}
use Rattle.state_update.specs.Kept.{sliced_policy}
use Rattle.unitary_update.specs.Kept.{Multiplies}
use Rattle.unitary_update.proofs.Chains as chains
use Rattle.equivalence.proofs.StepsOn.{steps_on}
use Rattle.qasm_reader.specs.declared.reason.Why.{Why}
use Rattle.qasm_reader.specs.declared.reason.Refusal.{Refusal}
use Rattle.qasm_reader.specs.Reading.{Reading, ReadsAs, circuit, refusal}
use Rattle.qasm_reader.proofs.OneReading.{one_reading}
use Rattle.qasm_reader.proofs.EveryReading.{every_reading}
use Rattle.qasm_reader.proofs.Sound.{read_is_circuit}
use Rattle.causes.specs.declared.cause.Cause.{Cause}
use Rattle.causes.specs.declared.cause.Cause.TheVariants.{Refused, QubitsDiffer, Nodes}
use Rattle.causes.specs.Stops.{cause_of}
use Rattle.sliq_engine.specs.Steps.{Reads, SameQubits, Simulates, zeros, Output}
use Rattle.sliq_engine.specs.Eq.{told_by, Says}
use Rattle.run_laws.specs.Laws.{IsNoFault, AreEnough, GatesHaveNodes, StepsHaveNodes}
use Rattle.run_laws.proofs.Lawful.{IsOther, IsLawful, NeverStops, by_telling, tests}
use Rattle.run_laws.proofs.HaveNodes.{walk_stops, multiplies_stops, gates_find, steps_find}
use Rattle.run_laws.proofs.SlicedWalks.{one_simulates, some_simulates}

-- ---- what was read
-- a text reads as one circuit
pub read_same : (text : List ℕ) (c d : Circuit) → ReadsAs text 64 (circuit c) → ReadsAs text 64 (circuit d) → c ≡ d
read_same text c d one other = let e = one_reading text 64 (circuit c) (circuit d) one other in cc

-- what holds of a circuit holds of each as which its text reads
pub as_read : (P : Circuit → Type 0) (text : List ℕ) (c : Circuit) → ReadsAs text 64 (circuit c) → P c → (d : Circuit) → ReadsAs text 64 (circuit d) → P d
as_read P text c reads h d other = subst P (read_same text c d reads other) h

-- its gates are on the qubits of an input of as many
pub read_on : (text : List ℕ) (c : Circuit) (n : ℕ) → ReadsAs text 64 (circuit c) → c.qubits ≡ n → All (IsOn n) c.gates
read_on text c n reads same = subst (λ m. All (IsOn m) c.gates) same (read_is_circuit text 64 c (omega arith) reads).within

-- and on those of all zeros
pub as_zeros : (n : ℕ) → n ≡ length (zeros n)
as_zeros n = sym (length-replicate n false)

-- two numbers of qubits that don't differ are the same
pub same_number : (first second : ℕ) → ¬ (first ≢ second) → first ≡ second
same_number first second same = elim (cases_eq first second) [ inl e ↦ e | inr other ↦ absurd (same other) ]

differ_or_not : (first second : ℕ) → (first ≢ second) ⊎ (¬ (first ≢ second))
differ_or_not first second = elim (cases_eq first second) [ inl e ↦ inr (λ other. other e) | inr other ↦ inl other ]

one_reads : (Sure : Cause → Type 0) (file : ℕ) (text : List ℕ) → HasOneEnd Sure (Reads file text)
one_reads Sure file text (Ok c) (Ok d) p q s t = ap Ok (read_same text c d p q)
one_reads Sure file text (Ok c) (Err a) p q s t = absurd (let e = one_reading text 64 (circuit c) (refusal q.0.statement q.0.why) p q.1 in cc)
one_reads Sure file text (Err a) (Ok d) p q s t = absurd (let e = one_reading text 64 (circuit d) (refusal p.0.statement p.0.why) q p.1 in cc)
one_reads Sure file text (Err a) (Err b) p q s t =
    let e = one_reading text 64 (refusal p.0.statement p.0.why) (refusal q.0.statement q.0.why) p.1 q.1 in
    let number : p.0.statement ≡ q.0.statement = cc in
    let why : p.0.why ≡ q.0.why = cc in
    let same : p.0 ≡ q.0 = ap₂ (λ (n : ℕ) (w : Why). let t : Refusal = record { statement = n; why = w } in t) number why in
    ap Err (p.2 ∙ ap (λ (r : Refusal). Refused file r) same ∙ sym q.2)

some_reads : (file : ℕ) (text : List ℕ) → HasSomeEnd IsNoFault (Reads file text)
some_reads file text = let r = every_reading 64 text in by r.0 r.1
  where
    by : (reading : Reading) → ReadsAs text 64 reading → HasSomeEnd IsNoFault (Reads file text)
    by (circuit c) h = (Ok c, h, tt)
    by (refusal n why) h = let r : Refusal = record { statement = n; why = why } in (Err (Refused file r), (r, h, refl), tt)

-- ---- gates, steps and verdicts
-- gates that all fit and have nodes
gates_pass : (rules : Settings) (input : List Bool) (gates : List Gate) → AllFit rules.width input gates → GatesHaveNodes rules input gates → NeverStops (Simulates sliced_policy rules input gates)
gates_pass rules input gates fits has cause h = by h.0 h.1
  where
    by : (stop : Stop) → Walks sliced_policy (begun input rules) gates (Err stop) → ⊥
    by (stops.Width number) w =
        first_failing-apart (λ front g. RawFits rules.width front input g) gates number (walk_unfit sliced_policy (begun input rules) gates number (none_unfit rules.width input) w) fits
    by (stops.Nodes number order held) w = walk_stops rules input gates has (stops.Nodes number order held) w
    by stops.OutOfMemory w = walk_stops rules input gates has stops.OutOfMemory w

-- and such steps
steps_pass : (rules : Settings) (u v : Circuit) → AllStepsFit rules.width u.qubits (steps_of u.gates v.gates) → 3 * u.qubits ≤ rules.nodes → StepsHaveNodes rules u.qubits (steps_of u.gates v.gates)
    → NeverStops (Told cause_of (Multiplies rules u.qubits (steps_of u.gates v.gates)))
steps_pass rules u v fits room has cause h = by h.0 h.1
  where
    by : (stop : Stop) → Multiplies rules u.qubits (steps_of u.gates v.gates) (Err stop) → ⊥
    by (stops.Width number) w = first_failing-apart (RawStepFits rules.width u.qubits) (steps_of u.gates v.gates) number (chains.chain_unfit rules u.qubits (steps_of u.gates v.gates) number w) fits
    by (stops.Nodes number order held) w = multiplies_stops rules u.qubits (steps_of u.gates v.gates) room has (stops.Nodes number order held) w
    by stops.OutOfMemory w = multiplies_stops rules u.qubits (steps_of u.gates v.gates) room has stops.OutOfMemory w

stop_told : (stop : Stop) → IsNoFault (cause_of stop)
stop_told (stops.Width number) = tt
stop_told (stops.Nodes number order held) = tt
stop_told stops.OutOfMemory = tt

pub one_says : (Sure : Cause → Type 0) (u v : Circuit) → HasOneEnd Sure (Says u v)
one_says Sure u v a b p q s t =
    let same = one_verdict u.qubits (compared u.gates v.gates) (exponent (comparison u.gates v.gates)) p.0 q.0 p.1 q.1 in
    p.2 ∙ ap (λ (w : Verdict). let o : Output = record { cause = told_by w; bytes = verdict_text w } in let r : Result Output Cause = Ok o in r) same ∙ sym q.2

some_says : (u v : Circuit) → HasSomeEnd IsNoFault (Says u v)
some_says u v =
    let s = some_verdict u.qubits (compared u.gates v.gates) (exponent (comparison u.gates v.gates)) in
    (Ok (record { cause = told_by s.0; bytes = verdict_text s.0 }), (s.0, s.1, refl), tt)

-- ---- what each keeps
module _ {Sure : Cause → Type 0} {rules : Settings} {Enough Ordered : Type 0} where
  pub reads : (file : ℕ) (text : List ℕ) → (Ordered → (c : Circuit) × ReadsAs text 64 (circuit c)) → IsLawful Sure rules Enough Ordered (Reads file text)
  reads file text accepted = record {
    one = one_reads Sure file text;
    some = λ wide. some_reads file text;
    fed = λ enough cause h. subst IsOther (sym h.2) tt;
    passed = λ ordered cause h. let c = accepted ordered in let e = one_reading text 64 (circuit c.0) (refusal h.0.statement h.0.why) c.1 h.1 in cc;
  }

  pub same_qubits : (first second : ℕ) → (Ordered → first ≡ second) → IsLawful Sure rules Enough Ordered (SameQubits first second)
  same_qubits first second same = tests (first ≢ second) (QubitsDiffer first second) tt tt (differ_or_not first second) (λ ordered other. other (same ordered))

  -- no want of nodes at a gate, or a step, is a sure stop
  module _ (late : (k : ℕ) (order : List ℕ) (held : ℕ) → Sure (Nodes (k + 1) order held) → ⊥) where
    pub simulates : (input : List Bool) (gates : List Gate) → All (IsOn (length input)) gates → (Enough → AreEnough rules (length input))
        → (Ordered → AllFit rules.width input gates × GatesHaveNodes rules input gates) → IsLawful Sure rules Enough Ordered (Simulates sliced_policy rules input gates)
    simulates input gates on nodes fits = record {
      one = one_simulates Sure late rules input gates;
      some = λ wide. some_simulates rules input gates wide on;
      fed = λ enough. by_telling IsOther cause_of (Walks sliced_policy (begun input rules) gates) (walk_stops rules input gates (gates_find rules input gates on (nodes enough)));
      passed = λ ordered. gates_pass rules input gates (fits ordered).0 (fits ordered).1;
    }

    pub multiplies : (u v : Circuit) → All (IsOn u.qubits) u.gates → All (IsOn u.qubits) v.gates → (Enough → AreEnough rules (2 * u.qubits))
        → (Ordered → AllStepsFit rules.width u.qubits (steps_of u.gates v.gates) × (3 * u.qubits ≤ rules.nodes) × StepsHaveNodes rules u.qubits (steps_of u.gates v.gates))
        → IsLawful Sure rules Enough Ordered (Told cause_of (Multiplies rules u.qubits (steps_of u.gates v.gates)))
    multiplies u v on_u on_v nodes fits =
        let steps = steps_of u.gates v.gates in
        let on = steps_on u.qubits u.gates v.gates on_u on_v in
        record {
          one = one_told Sure cause_of (Multiplies rules u.qubits steps) (chains.one_multiplies (λ stop. Sure (cause_of stop)) late rules u.qubits steps);
          some = λ wide. some_told IsNoFault cause_of (Multiplies rules u.qubits steps) (chains.some_multiplies (λ stop. IsNoFault (cause_of stop)) stop_told rules u.qubits steps wide on);
          fed = λ enough. let found = steps_find rules u.qubits steps on (nodes enough) in by_telling IsOther cause_of (Multiplies rules u.qubits steps) (multiplies_stops rules u.qubits steps found.0 found.1);
          passed = λ ordered. steps_pass rules u v (fits ordered).0 (fits ordered).1 (fits ordered).2;
        }

  pub says : (u v : Circuit) → IsLawful Sure rules Enough Ordered (Says u v)
  says u v = record { one = one_says Sure u v; some = λ wide. some_says u v; fed = λ enough cause h. absurd (let lie = h.2 in cc); passed = λ ordered cause h. let lie = h.2 in cc }
