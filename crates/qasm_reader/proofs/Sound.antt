-- What a text reads as keeps the limits of a circuit.
use Rattle.std.proofs.Common.{◌≡◌, ◌∙◌, sym, ap, refl, subst, ◌⊎◌, inl, inr, ◌≤◌, ℕ, List, [], ◌∷◌, ◌++◌, Option, Some, None, Result, Ok, Err, append_assoc, append-nil}
use Rattle.gate_set.specs.Circuits.{Circuit, IsCircuit}
use Rattle.qasm_forms.specs.Statements.{Statement, version}
use Rattle.qasm_reader.specs.declared.reason.Why.{Why}
use Rattle.qasm_reader.specs.declared.reason.Why.TheVariants.{BadByte, NoVersion}
use Rattle.qasm_reader.specs.Acts.{Act, definitions}
use Rattle.qasm_reader.specs.Parts.{Part, parts_of, Has}
use Rattle.qasm_reader.specs.Reasons.{IsFree}
use Rattle.qasm_reader.specs.Reading.{Accepts, AllAccepted, Reads, ReadsAs, circuit}
use Rattle.qasm_reader.specs.Private.Drafts.{Draft, Follows, draft_of, step}
use Rattle.qasm_reader.proofs.Good.{has_one}
use Rattle.qasm_reader.proofs.Deciding.{IsGood, refuses}
use Rattle.qasm_reader.proofs.Growing.{follows_none}
use Rattle.qasm_reader.proofs.Reasoning.{why_of}
use Rattle.qasm_reader.proofs.Following.{done, tells}
use Rattle.qasm_reader.proofs.OneReading.{does_one}
use Rattle.qasm_reader.proofs.EveryReading.{version_or_not}

-- a statement that nothing refuses stands in its place
free_good : (limit : ℕ) (before : List Act) (part : Part) (s : Statement) → IsFree limit before part → Has before part s → IsGood before part s
free_good limit before part s free h = record { has = h; no_bad = no_bad part.bad refl; first = λ e. first e (version_or_not s) }
  where
    no_bad : (bad : Option ℕ) → part.bad ≡ bad → part.bad ≡ None
    no_bad None e = e
    no_bad (Some place) e = absurd (free (BadByte place) e)

    first : before ≡ [] → (s ≡ version) ⊎ (s ≡ version → ⊥) → s ≡ version
    first e (inl v) = v
    first e (inr n) = absurd (free NoVersion (e, λ v. n (has_one before part s version h v)))

module _ (limit : ℕ) (few : limit ≤ 64) where
  -- accepted statements keep the limits, one after the other
  follows_one : (before : List Act) (part : Part) (act : Act) → Accepts limit before part act → Follows limit before (draft_of before) → Follows limit (before ++ act ∷ []) (draft_of (before ++ act ∷ []))
  follows_one before part act a f = by (step limit (draft_of before) (definitions before) a.statement) refl
    where
      good : IsGood before part a.statement
      good = free_good limit before part a.statement a.free a.has

      by : (r : Result Draft Why) → step limit (draft_of before) (definitions before) a.statement ≡ r → Follows limit (before ++ act ∷ []) (draft_of (before ++ act ∷ []))
      by (Ok d) h =
          let x = done limit few before (draft_of before) f a.statement d h in
          let same : x.0 ≡ act = does_one before f.sound a.statement x.0 act x.1 a.does in
          subst (λ b. Follows limit (before ++ b ∷ []) (draft_of (before ++ b ∷ []))) same (subst (Follows limit (before ++ x.0 ∷ [])) (x.2).is x.2)
      by (Err w) h = absurd (a.free w (refuses limit before f.sound part a.statement good w (sym (tells limit few before (draft_of before) f part a.statement good) ∙ ap why_of h)).holds)

  follows_all : (before : List Act) (parts : List Part) (acts : List Act) → AllAccepted limit before parts acts → Follows limit before (draft_of before) → Follows limit (before ++ acts) (draft_of (before ++ acts))
  follows_all before [] [] all f = subst (λ b. Follows limit b (draft_of b)) (sym (append-nil before)) f
  follows_all before [] (a ∷ acts) all f = absurd all
  follows_all before (p ∷ parts) [] all f = absurd all
  follows_all before (p ∷ parts) (a ∷ acts) all f =
      subst (λ b. Follows limit b (draft_of b)) (append_assoc before (a ∷ []) acts) (follows_all (before ++ a ∷ []) parts acts all.1 (follows_one before p a all.0 f))

  reads_sound : (parts : List Part) (c : Circuit) → Reads limit parts (circuit c) → IsCircuit c × (c.qubits ≤ limit)
  reads_sound [] c r = absurd cc
  reads_sound (p ∷ parts) c r =
      let f = follows_all [] (p ∷ parts) r.0 r.1 (follows_none limit) in
      let fits = f.fits in
      subst (λ x. IsCircuit x × (x.qubits ≤ limit)) (sym r.2) (record { few_qubits = fits.few_qubits; few_gates = fits.few_gates; within = fits.within; flags = fits.flags }, f.few)

  -- so does a text
  pub text_sound : (text : List ℕ) (c : Circuit) → ReadsAs text limit (circuit c) → IsCircuit c × (c.qubits ≤ limit)
  text_sound text c r = reads_sound (parts_of r.lexemes r.bad) c r.reads

pub read_is_circuit : (text : List ℕ) (limit : ℕ) (c : Circuit) → limit ≤ 64 → ReadsAs text limit (circuit c) → IsCircuit c
read_is_circuit text limit c few r = (text_sound limit few text c r).0

pub read_has_few_qubits : (text : List ℕ) (limit : ℕ) (c : Circuit) → limit ≤ 64 → ReadsAs text limit (circuit c) → c.qubits ≤ limit
read_has_few_qubits text limit c few r = (text_sound limit few text c r).1
