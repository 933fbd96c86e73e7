-- Statements of a text, one after the other.
use Rattle.std.proofs.Common.{◌≡◌, ◌≢◌, ◌∙◌, sym, ap, refl, subst, ℕ, suc, ◌+◌, Bool, true, false, cond, nat_eq, List, [], ◌∷◌, ◌++◌, length, append_assoc, Option, Some, None, Result, Ok, Err, IfErr, arith}
use Rattle.std.proofs.lemmas.Bool.Decides.{nat_tests}
use Rattle.std.proofs.lemmas.List.{length-append}
use Rattle.qasm_reader.specs.declared.reason.Why.{Why}
use Rattle.qasm_reader.specs.declared.reason.Why.TheVariants.{BadByte, NoVersion}
use Rattle.qasm_reader.specs.declared.reason.Refusal.{Refusal}
use Rattle.qasm_reader.specs.declared.reason.ReadStop.{ReadStop}
use Rattle.qasm_reader.specs.declared.reason.ReadStop.TheVariants.{Refused as Stopped, OutOfMemory}
use Rattle.qasm_lex.specs.Lexemes.{Lexeme}
use Rattle.qasm_forms.specs.Cutting.{is_nothing}
use Rattle.qasm_gates.specs.declared.gates.Gates.{Gates}
use Rattle.qasm_reader.specs.Acts.{Act}
use Rattle.qasm_reader.specs.Parts.{Part, last_part, is_end, cut, parts_of}
use Rattle.qasm_reader.specs.Reasons.{Refuses}
use Rattle.qasm_reader.specs.Reading.{Accepts, AllAccepted, circuit, refusal, IsRefused, Reads, IfRefused}
use Rattle.qasm_reader.specs.Private.Drafts.{Draft, Follows, Knows, Concludes, Reached, draft_of, no_form}
use Rattle.qasm_reader.proofs.Good.{is_first, no_acts, some_acts, bad_refuses, version_refuses, form_refuses}
use Rattle.qasm_reader.proofs.Growing.{follows_none}
use Rattle.std.proofs.lemmas.List.{append-nil}
use Rattle.gate_set.specs.Circuits.{Circuit}

-- the circuit of a draft
abbrev circuit_in : Draft → Circuit
circuit_in d = record { qubits = d.qubits; gates = d.gates; measured = d.measured }

accepted_more : (limit : ℕ) (before : List Act) (good : List Part) (acts : List Act) (p : Part) (a : Act)
    → AllAccepted limit before good acts → Accepts limit (before ++ acts) p a → AllAccepted limit before (good ++ p ∷ []) (acts ++ a ∷ [])
accepted_more limit before [] [] p a all one = (subst (λ b. Accepts limit b p a) (append-nil before) one, tt)
accepted_more limit before (q ∷ good) (b ∷ acts) p a all one =
    (all.0, accepted_more limit (before ++ b ∷ []) good acts p a all.1 (subst (λ c. Accepts limit c p a) (sym (append_assoc before (b ∷ []) acts)) one))
accepted_more limit before _ _ p a all one = absurd all

same_length : (limit : ℕ) (before : List Act) (good : List Part) (acts : List Act) → AllAccepted limit before good acts → length acts ≡ length good
same_length limit before [] [] all = refl
same_length limit before (q ∷ good) (b ∷ acts) all = ap suc (same_length limit (before ++ b ∷ []) good acts all.1)
same_length limit before _ _ all = absurd all

first_is : (number : ℕ) (acts : List Act) → number ≡ length acts + 1 → nat_eq number 1 ≡ is_first acts
first_is number [] e = ap (λ n. nat_eq n 1) e
first_is number (a ∷ acts) e = let q : number ≡ suc (length acts) + 1 = e in grind (arith, nat_tests)

module _ (limit : ℕ) (all : List Part) (d : Draft) (g : Gates) (number : ℕ) where
  pub number_first : (rest : List Part) (r : Reached limit all rest d g number) → nat_eq number 1 ≡ is_first r.acts
  number_first rest r = first_is number r.acts (let e = same_length limit [] r.good r.acts r.accepted in let c = r.count in omega arith)

  -- what comes of the next statement
  abbrev pub Next : Part → Option Why → Draft → Gates → Type 0
  Next p why e k = (before : List Act) → Follows limit before d → Knows before g → nat_eq number 1 ≡ is_first before → Concludes limit before p why e k

  pub reached_next : (p : Part) (rest : List Part) (e : Draft) (k : Gates) (next : ℕ) → next ≡ number + 1 → Reached limit all (p ∷ rest) d g number → Next p None e k → Reached limit all rest e k next
  reached_next p rest e k next n r c =
      let x = c r.acts r.follows r.knows (number_first (p ∷ rest) r) in
      record {
        good = r.good ++ p ∷ [];
        acts = r.acts ++ x.0 ∷ [];
        split = r.split ∙ sym (append_assoc r.good (p ∷ []) rest);
        accepted = accepted_more limit [] r.good r.acts p x.0 r.accepted x.1;
        follows = x.2;
        knows = x.3;
        count = let l = length-append r.good (p ∷ []) in let m = r.count in omega arith;
      }

  pub reached_refused : (p : Part) (rest : List Part) (e : Draft) (k : Gates) (why : Why) → Reached limit all (p ∷ rest) d g number → Next p (Some why) e k → IsRefused limit all number why
  reached_refused p rest e k why r c = record {
    good = r.good;
    bad = p;
    more = rest;
    acts = r.acts;
    split = r.split;
    accepted = r.accepted;
    refuses = c r.acts r.follows r.knows (number_first (p ∷ rest) r);
    count = r.count;
  }

  -- nothing is left
  pub reached_end : all ≢ [] → Reached limit all [] d g number → Reads limit all (circuit (circuit_in d))
  reached_end some r = by all some (r.split ∙ append-nil r.good)
    where
      by : (ps : List Part) → ps ≢ [] → ps ≡ r.good → Reads limit ps (circuit (circuit_in d))
      by [] n e = absurd (n refl)
      by (p ∷ ps) n e = (r.acts, subst (λ qs. AllAccepted limit [] qs r.acts) (sym e) r.accepted, ap circuit_in r.follows.is)

-- a refusal of the statements is that of the text
pub refused_reads : (limit : ℕ) (all : List Part) (number : ℕ) (why : Why) → IsRefused limit all number why → Reads limit all (refusal number why)
refused_reads limit [] number why r = absurd (none r.good r.bad r.more r.split)
  where
    none : (good : List Part) (bad : Part) (more : List Part) → [] ≡ good ++ (bad ∷ more) → ⊥
    none [] bad more e = cc
    none (g ∷ good) bad more e = cc
refused_reads limit (p ∷ ps) number why r = r

-- a text with tokens or a bad place has statements
some_cut : (before ls : List Lexeme) (bad : Option ℕ) → cut before ls bad ≡ [] → (before ≡ []) × (ls ≡ []) × (bad ≡ None)
unfolding cut
some_cut [] [] None e = (refl, refl, refl)
some_cut [] [] (Some b) e = absurd cc
some_cut (x ∷ before) [] bad e = absurd cc
some_cut before (l ∷ ls) bad e = absurd (by (is_end before l) (some_cut (before ++ l ∷ []) ls bad) e)
  where
    longer : (before : List Lexeme) → before ++ l ∷ [] ≡ [] → ⊥
    longer [] e = cc
    longer (x ∷ before) e = cc

    by : (x : Bool) → (cut (before ++ l ∷ []) ls bad ≡ [] → (before ++ l ∷ [] ≡ []) × (ls ≡ []) × (bad ≡ None))
        → cond x (record { lexemes = before ++ l ∷ []; closed = true; bad = None } ∷ cut [] ls bad) (cut (before ++ l ∷ []) ls bad) ≡ [] → ⊥
    by true more e = cc
    by false more e = longer before (more e).0

some_parts : (ls : List Lexeme) (bad : Option ℕ) → parts_of ls bad ≡ [] → (ls ≡ []) × (bad ≡ None)
some_parts ls bad e = let c = some_cut [] ls bad e in (c.1, c.2)

-- the end of a text: a bad place
last_bad : (ls : List Lexeme) (place : ℕ) → last_part ls (Some place) ≡ record { lexemes = ls; closed = false; bad = Some place } ∷ []
last_bad [] place = refl
last_bad (l ∷ ls) place = refl

pub end_bad : (limit : ℕ) (all : List Part) (d : Draft) (g : Gates) (number : ℕ) (ls : List Lexeme) (place : ℕ) → Reached limit all (last_part ls (Some place)) d g number → Reads limit all (refusal number (BadByte place))
end_bad limit all d g number ls place r =
    let p : Part = record { lexemes = ls; closed = false; bad = Some place } in
    refused_reads limit all number (BadByte place) (record {
      good = r.good;
      bad = p;
      more = [];
      acts = r.acts;
      split = r.split ∙ ap (λ x. r.good ++ x) (last_bad ls place);
      accepted = r.accepted;
      refuses = bad_refuses limit r.acts p place refl;
      count = r.count;
    })

-- or lexemes without a `;`
last_open : (ls : List Lexeme) → is_nothing ls ≡ false → last_part ls None ≡ record { lexemes = ls; closed = false; bad = None } ∷ []
last_open [] e = absurd cc
last_open (l ∷ ls) e = refl

open_refuses : (limit : ℕ) (acts : List Act) (ls : List Lexeme) (first : Bool) → first ≡ is_first acts → Refuses limit acts (record { lexemes = ls; closed = false; bad = None }) (no_form first)
open_refuses limit acts ls true e = version_refuses limit acts _ refl (no_acts acts e) (λ h. (let c = h.closed in cc))
open_refuses limit acts ls false e = form_refuses limit acts _ refl (some_acts acts e) (λ s h. (let c = h.closed in cc))

pub end_open : (limit : ℕ) (all : List Part) (d : Draft) (g : Gates) (number : ℕ) (ls : List Lexeme) → is_nothing ls ≡ false → Reached limit all (last_part ls None) d g number
    → Reads limit all (refusal number (no_form (nat_eq number 1)))
end_open limit all d g number ls n r =
    let p : Part = record { lexemes = ls; closed = false; bad = None } in
    refused_reads limit all number (no_form (nat_eq number 1)) (record {
      good = r.good;
      bad = p;
      more = [];
      acts = r.acts;
      split = r.split ∙ ap (λ x. r.good ++ x) (last_open ls n);
      accepted = r.accepted;
      refuses = open_refuses limit r.acts ls (nat_eq number 1) (number_first limit all d g number (last_part ls None) r);
      count = r.count;
    })

-- or nothing
pub end_none : (limit : ℕ) (all : List Part) (d : Draft) (g : Gates) (number : ℕ) (ls : List Lexeme) → is_nothing ls ≡ true → all ≢ [] → Reached limit all (last_part ls None) d g number
    → Reads limit all (circuit (circuit_in d))
end_none limit all d g number [] n some r = reached_end limit all d g number some r
end_none limit all d g number (l ∷ ls) n some r = absurd cc

-- a text with nothing in it
pub nothing_reads : (limit : ℕ) (ls : List Lexeme) (bad : Option ℕ) → is_nothing ls ≡ true → bad ≡ None → Reads limit (parts_of ls bad) (refusal 0 NoVersion)
unfolding cut
nothing_reads limit [] None n e = refl
nothing_reads limit [] (Some b) n e = absurd cc
nothing_reads limit (l ∷ ls) bad n e = absurd cc

pub some_lexemes : (ls : List Lexeme) (bad : Option ℕ) → is_nothing ls ≡ false → parts_of ls bad ≢ []
some_lexemes ls bad n e = let p = (some_parts ls bad e).0 in let q : true ≡ false = ap is_nothing (sym p) ∙ n in cc

pub some_bad : (ls : List Lexeme) (bad : Option ℕ) → bad ≢ None → parts_of ls bad ≢ []
some_bad ls bad n e = n (some_parts ls bad e).1

pub reached_start : (limit : ℕ) (all : List Part) (g : Gates) → Knows [] g → Reached limit all all (draft_of []) g 1
reached_start limit all g k = record { good = []; acts = []; split = refl; accepted = tt; follows = follows_none limit; knows = k; count = refl }

-- what holds of a refusal holds where it follows
pub if_refused : {A : Type 0} (r : Result A ReadStop) (P Q : Refusal → Type 0) → ((x : Refusal) → P x → Q x) → IfErr r (λ stop. IfRefused stop P) → IfErr r (λ stop. IfRefused stop Q)
if_refused (Ok a) P Q f p = tt
if_refused (Err (Stopped x)) P Q f p = f x p
if_refused (Err OutOfMemory) P Q f p = tt
