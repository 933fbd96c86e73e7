-- A text reads in one way.
use Rattle.std.proofs.Common.{◌≡◌, ◌∙◌, sym, ap, refl, subst, ℕ, ◌+◌, List, [], ◌∷◌, ◌++◌, length, Option, Some, Result, Ok, Err, IfOk, IfErr, arith, append_assoc, append-nil}
use Rattle.std.proofs.lemmas.Option.{same_Some}
use Rattle.qasm_lex.proofs.LexemeCuts.{lexemes_same}
use Rattle.qasm_lex.specs.Lexemes.{Lexeme, AreLexemes}
use Rattle.qasm_reader.specs.declared.reason.Why.{Why}
use Rattle.qasm_reader.specs.declared.reason.ReadStop.{ReadStop}
use Rattle.qasm_reader.specs.declared.reason.ReadStop.TheVariants.{Refused as Stopped, OutOfMemory}
use Rattle.gate_set.specs.Circuits.{Circuit}
use Rattle.qasm_forms.specs.Statements.{Statement, measure, call, definition, Argument}
use Rattle.qasm_gates.specs.Gates.{Basic, Meaning}
use Rattle.qasm_gates.specs.Bodies.{defined}
use Rattle.qasm_gates.specs.Private.Counts.{items_done}
use Rattle.qasm_reader.specs.Acts.{Act, Target, defines, measures, applies, definitions, circuit_of}
use Rattle.qasm_reader.specs.Calls.{listed, Calls, Does}
use Rattle.qasm_reader.specs.Parts.{Part, parts_of}
use Rattle.qasm_reader.specs.Reasons.{Holds, Refuses, IsFree}
use Rattle.qasm_reader.specs.Reading.{Accepts, AllAccepted, Reading, circuit, refusal, IsRefused, Reads, ReadsAs, IfRefused, Says}
use Rattle.qasm_reader.specs.Private.Meanings.{meaning_of}
use Rattle.qasm_reader.specs.Private.Drafts.{AreSound}
use Rattle.qasm_reader.proofs.Facts.{same_first, same_rest}
use Rattle.qasm_reader.proofs.Good.{has_one, one_refusal}
use Rattle.qasm_reader.proofs.Meanings.{means_one, calls_one}
use Rattle.qasm_reader.proofs.Deciding.{meant_counts}
use Rattle.qasm_reader.proofs.Sounding.{accepted_sound}

same_basics : (x y : List Basic) → ◌≡◌ {A = Meaning} (Ok x) (Ok y) → x ≡ y
same_basics x y e = cc

-- a call does one thing
call_one : (before : List Act) → AreSound (definitions before) → (name : List ℕ) (angles : List (List Lexeme)) (all : List Argument) (a b : Act) → Calls before name angles all a → Calls before name angles all b → a ≡ b
call_one before sound name angles all a b p q =
    let called : p.called ≡ q.called = same_Some p.called q.called (sym p.named ∙ q.named) in
    let m = means_one p.called angles (Ok p.basics) p.meant in
    let n = means_one q.called angles (Ok q.basics) q.meant in
    let basics : p.basics ≡ q.basics = same_basics p.basics q.basics (sym m ∙ ap (λ c. meaning_of c angles) called ∙ n) in
    let items : p.items ≡ q.items =
    (meant_counts before sound name p.called angles p.basics p.items p.named m p.done).1 ∙ ap items_done basics ∙ sym (meant_counts before sound name q.called angles q.basics q.items q.named n q.done).1 in
    let on : p.on ≡ q.on = same_Some p.on q.on (sym p.means ∙ q.means) in
    p.does ∙ ap (λ x. applies x.items p.items p.on) called ∙ ap (λ x. applies q.called.items x p.on) items ∙ ap (applies q.called.items q.items) on ∙ sym q.does

measures_one : (x : Option Target) (a b : Act) → (t : Target) × (x ≡ Some t) × (a ≡ measures t) → (t : Target) × (x ≡ Some t) × (b ≡ measures t) → a ≡ b
measures_one x a b p q = p.2 ∙ ap measures (same_Some p.0 q.0 (sym p.1 ∙ q.1)) ∙ sym q.2

-- a statement does one thing
pub does_one : (before : List Act) → AreSound (definitions before) → (s : Statement) (a b : Act) → Does before s a → Does before s b → a ≡ b
does_one before sound (measure from to) a b p q = measures_one _ a b p q
does_one before sound (call name angles all) a b p q = call_one before sound name _ all a b p q
does_one before sound (definition name params formals lines) a b p q =
    let cs : p.0 ≡ q.0 = same_Some p.0 q.0 (sym (calls_one before (listed params) formals lines p.0 p.1) ∙ calls_one before (listed params) formals lines q.0 q.1) in
    p.2 ∙ ap (λ cs. defines name (defined (length (listed params)) (length formals) cs)) cs ∙ sym q.2
does_one before sound _ a b p q = p ∙ sym q

-- an accepted part does one thing
pub accepts_one : (limit : ℕ) (before : List Act) → AreSound (definitions before) → (part : Part) (a b : Act) → Accepts limit before part a → Accepts limit before part b → a ≡ b
accepts_one limit before sound part a b p q =
    does_one before sound p.statement a b p.does (subst (λ s. Does before s b) (has_one before part q.statement p.statement q.has p.has) q.does)

-- parts that are all accepted do the same
pub all_accepted_one : (limit : ℕ) (before : List Act) → AreSound (definitions before) → (parts : List Part) (xs ys : List Act) → AllAccepted limit before parts xs → AllAccepted limit before parts ys → xs ≡ ys
all_accepted_one limit before sound [] [] [] p q = refl
all_accepted_one limit before sound (part ∷ parts) (x ∷ xs) (y ∷ ys) p q =
    let e : x ≡ y = accepts_one limit before sound part x y p.0 q.0 in
    let rest = all_accepted_one limit (before ++ x ∷ []) (accepted_sound limit before part x sound p.0) parts xs ys p.1 (subst (λ a. AllAccepted limit (before ++ a ∷ []) parts ys) (sym e) q.1) in
    ap (λ a. a ∷ xs) e ∙ ap (λ r. y ∷ r) rest
all_accepted_one limit before sound [] [] _ p q = absurd q
all_accepted_one limit before sound (part ∷ parts) (x ∷ xs) _ p q = absurd q
all_accepted_one limit before sound _ _ _ p q = absurd p

-- no part is both accepted and refused
free_not_refused : (limit : ℕ) (before : List Act) (part : Part) (why : Why) → IsFree limit before part → Refuses limit (before ++ []) part why → ⊥
free_not_refused limit before part why free r = free why (subst (λ b. Holds limit b part why) (append-nil before) r.holds)

-- a refusal after one more statement
further : (limit : ℕ) (before : List Act) (x : Act) (xs : List Act) (part : Part) (why : Why) → Refuses limit (before ++ (x ∷ xs)) part why → Refuses limit ((before ++ x ∷ []) ++ xs) part why
further limit before x xs part why r = subst (λ b. Refuses limit b part why) (sym (append_assoc before (x ∷ []) xs)) r

-- parts that are all accepted have none that is refused
accepted_not_refused : (limit : ℕ) (before : List Act) → AreSound (definitions before) → (good more : List Part) (bad : Part) (acts xs : List Act) (why : Why) → AllAccepted limit before (good ++ (bad ∷ more)) acts
    → AllAccepted limit before good xs → Refuses limit (before ++ xs) bad why → ⊥
accepted_not_refused limit before sound [] more bad (a ∷ acts) [] why p q r = free_not_refused limit before bad why ((p.0).free) r
accepted_not_refused limit before sound (part ∷ good) more bad (a ∷ acts) (x ∷ xs) why p q r =
    let e : a ≡ x = accepts_one limit before sound part a x p.0 q.0 in
    accepted_not_refused limit (before ++ x ∷ []) (accepted_sound limit before part x sound q.0) good more bad acts xs why (subst (λ y. AllAccepted limit (before ++ y ∷ []) (good ++ (bad ∷ more)) acts) e p.1) q.1
    (further limit before x xs bad why r)
accepted_not_refused limit before sound [] more bad [] xs why p q r = p
accepted_not_refused limit before sound [] more bad (a ∷ acts) (x ∷ xs) why p q r = q
accepted_not_refused limit before sound (part ∷ good) more bad [] xs why p q r = p
accepted_not_refused limit before sound (part ∷ good) more bad (a ∷ acts) [] why p q r = q

-- the first part that is refused is one, and so is its reason
refused_one : (limit : ℕ) (before : List Act) → AreSound (definitions before) → (good other : List Part) (bad worse : Part) (more rest : List Part) (xs ys : List Act) (v w : Why) → good ++ (bad ∷ more) ≡ other ++ (worse ∷ rest)
    → AllAccepted limit before good xs → AllAccepted limit before other ys → Refuses limit (before ++ xs) bad v → Refuses limit (before ++ ys) worse w → (length good ≡ length other) × (v ≡ w)
refused_one limit before sound [] [] bad worse more rest [] [] v w e p q r s =
    (refl, one_refusal limit (before ++ []) bad v w r (subst (λ part. Refuses limit (before ++ []) part w) (sym (same_first e)) s))
refused_one limit before sound [] (o ∷ other) bad worse more rest [] (y ∷ ys) v w e p q r s =
    absurd (free_not_refused limit before o v ((q.0).free) (subst (λ part. Refuses limit (before ++ []) part v) (same_first e) r))
refused_one limit before sound (g ∷ good) [] bad worse more rest (x ∷ xs) [] v w e p q r s =
    absurd (free_not_refused limit before g w ((p.0).free) (subst (λ part. Refuses limit (before ++ []) part w) (sym (same_first e)) s))
refused_one limit before sound (g ∷ good) (o ∷ other) bad worse more rest (x ∷ xs) (y ∷ ys) v w e p q r s =
    let part : g ≡ o = same_first e in
    let act : y ≡ x = accepts_one limit before sound g y x (subst (λ k. Accepts limit before k y) (sym part) q.0) p.0 in
    let one = refused_one limit (before ++ x ∷ []) (accepted_sound limit before g x sound p.0) good other bad worse more rest xs ys v w (same_rest e) p.1
    (subst (λ a. AllAccepted limit (before ++ a ∷ []) other ys) act q.1) (further limit before x xs bad v r)
    (subst (λ a. Refuses limit ((before ++ a ∷ []) ++ ys) worse w) act (further limit before y ys worse w s)) in
    (let l = one.0 in omega arith, one.1)
refused_one limit before sound [] other bad worse more rest (x ∷ xs) ys v w e p q r s = absurd p
refused_one limit before sound (g ∷ good) other bad worse more rest [] ys v w e p q r s = absurd p
refused_one limit before sound _ _ bad worse more rest _ _ v w e p q r s = absurd q

-- statements read in one way
reading_refused : (limit : ℕ) (parts : List Part) (n m : ℕ) (v w : Why) → IsRefused limit parts n v → IsRefused limit parts m w → refusal n v ≡ refusal m w
reading_refused limit parts n m v w p q =
    let one = refused_one limit [] tt p.good q.good p.bad q.bad p.more q.more p.acts q.acts v w (sym p.split ∙ q.split) p.accepted q.accepted p.refuses q.refuses in
    ap (λ k. refusal k v) (p.count ∙ ap (λ k. k + 1) one.0 ∙ sym q.count) ∙ ap (λ y. refusal m y) one.1

reading_not_both : (limit : ℕ) (parts : List Part) (acts : List Act) (n : ℕ) (why : Why) → AllAccepted limit [] parts acts → IsRefused limit parts n why → ⊥
reading_not_both limit parts acts n why p q =
    accepted_not_refused limit [] tt q.good q.more q.bad acts q.acts why (subst (λ x. AllAccepted limit [] x acts) q.split p) q.accepted q.refuses

pub reads_one : (limit : ℕ) (parts : List Part) (a b : Reading) → Reads limit parts a → Reads limit parts b → a ≡ b
reads_one limit [] a b p q = p ∙ sym q
reads_one limit (part ∷ parts) (circuit c) (circuit d) p q =
    ap circuit (p.2 ∙ ap circuit_of (all_accepted_one limit [] tt (part ∷ parts) p.0 q.0 p.1 q.1) ∙ sym q.2)
reads_one limit (part ∷ parts) (circuit c) (refusal n why) p q = absurd (reading_not_both limit (part ∷ parts) p.0 n why p.1 q)
reads_one limit (part ∷ parts) (refusal n why) (circuit c) p q = absurd (reading_not_both limit (part ∷ parts) q.0 n why q.1 p)
reads_one limit (part ∷ parts) (refusal n v) (refusal m w) p q = reading_refused limit (part ∷ parts) n m v w p q

-- a text reads in one way
pub one_reading : (text : List ℕ) (limit : ℕ) (a b : Reading) → ReadsAs text limit a → ReadsAs text limit b → a ≡ b
one_reading text limit a b p q =
    let same = lexemes_same text p.lexemes q.lexemes p.bad q.bad p.are_lexemes q.are_lexemes in
    let parts : parts_of q.lexemes q.bad ≡ parts_of p.lexemes p.bad = ap (λ l. parts_of l q.bad) (sym same.0) ∙ ap (parts_of p.lexemes) (sym same.1) in
    reads_one limit (parts_of p.lexemes p.bad) a b p.reads (subst (λ x. Reads limit x b) parts q.reads)

-- what is read is the only reading
pub says_one : (limit : ℕ) (parts : List Part) (r : Result Circuit ReadStop) → IfOk r (λ c. Reads limit parts (circuit c)) → IfErr r (λ stop. IfRefused stop (λ x. Reads limit parts (refusal x.statement x.why)))
    → (reading : Reading) → Reads limit parts reading → Says r reading
says_one limit parts (Ok c) found refused reading h = reads_one limit parts reading (circuit c) h found
says_one limit parts (Err (Stopped x)) found refused reading h = reads_one limit parts reading (refusal x.statement x.why) h refused
says_one limit parts (Err OutOfMemory) found refused reading h = tt

-- what a text's lexemes read as, the text reads as
module _ (text : List ℕ) (limit : ℕ) (lexemes : List Lexeme) (bad : Option ℕ) (are : AreLexemes text lexemes bad) where
  pub found_so : (r : Result Circuit ReadStop) → IfOk r (λ c. Reads limit (parts_of lexemes bad) (circuit c)) → IfOk r (λ c. ReadsAs text limit (circuit c))
  found_so (Ok c) h = record { lexemes = lexemes; bad = bad; are_lexemes = are; reads = h }
  found_so (Err e) h = tt

  pub refused_so : (r : Result Circuit ReadStop) → IfErr r (λ stop. IfRefused stop (λ x. Reads limit (parts_of lexemes bad) (refusal x.statement x.why)))
      → IfErr r (λ stop. IfRefused stop (λ x. ReadsAs text limit (refusal x.statement x.why)))
  refused_so (Ok c) h = tt
  refused_so (Err (Stopped x)) h = record { lexemes = lexemes; bad = bad; are_lexemes = are; reads = h }
  refused_so (Err OutOfMemory) h = tt
