-- The statement that is read is written so.
use Rattle.std.proofs.Common.{◌≡◌, ◌∙◌, sym, ap, refl, subst, ℕ, Bool, true, false, cond, List, [], ◌∷◌, ◌++◌, Option, Some, None, codes}
use Rattle.std.specs.Str.{bytes_eq}
use Rattle.std.proofs.lemmas.Bool.{and_parts}
use Rattle.std.proofs.lemmas.Option.{cond_some, same_Some}
use Rattle.std.proofs.lemmas.Slice.Eq.{bytes_eq-Decides}
use Rattle.qasm_forms.specs.declared.lexemes.Stop.TheVariants.{To}
use Rattle.qasm_lex.specs.Lexemes.{Lexeme, word, real, quoted, arrow}
use Rattle.qasm_forms.specs.Statements.{Statement, version, include, qubits, bits, barrier, measure, call, definition, End, semicolon, brace, end_of, Formed, first_word, written_rest, written_argument, written_angles, is_name, is_left_out}
use Rattle.qasm_forms.specs.Private.Fronts.{and_then, mark_at}
use Rattle.qasm_forms.specs.Cutting.{is_nothing, before_stop, has_stop, after_stop}
use Rattle.qasm_forms.specs.Private.Parsing.{argument_at, arguments_at, angles_at, declaration_at, is_version, included_at, measure_at, call_from, call_at, definition_at, after_word, by_end, form_at, statement_at}
use Rattle.qasm_forms.proofs.Found.{and_then_some, mark_found, end_found, declaration_found, argument_found, arguments_found}
use Rattle.qasm_forms.proofs.AnglesRead.{angles_found}
use Rattle.qasm_forms.proofs.Definitions.{definition_found}

-- bytes that pass the test are the same
bytes_same : (a b : List ℕ) → bytes_eq a b ≡ true → a ≡ b
bytes_same a b e = (bytes_eq-Decides a b).0 e

-- lexemes that are written as a formed statement
pub record Reads (end : End) (ls : List Lexeme) (s : Statement) : Type 0 where
  pub spelled : ls ≡ word (first_word s) ∷ written_rest s
  pub formed : Formed s
  pub kept : is_left_out s ≡ false
  pub ends : end_of s ≡ end

begun : (s : Statement) (ls : List Lexeme) → ls ≡ written_rest s → Formed s → is_left_out s ≡ false → Reads (end_of s) (word (first_word s) ∷ ls) s
begun s ls e f k = record { spelled = ap (λ r. word (first_word s) ∷ r) e; formed = f; kept = k; ends = refl }

-- a statement that is made of what a step found
made : {A : Type 0} (ls : List Lexeme) (s : Statement) (x : Option A) (make : A → Statement) → ((a : A) → x ≡ Some a → Reads semicolon ls (make a)) → and_then x (λ a. Some (make a)) ≡ Some s → Reads semicolon ls s
made ls s None make f e = absurd cc
made ls s (Some a) make f e = subst (Reads semicolon ls) (same_Some (make a) s e) (f a refl)

to_cut : (ls : List Lexeme) → has_stop To ls ≡ true → ls ≡ before_stop To ls ++ (arrow ∷ after_stop To ls)
to_cut [] e = absurd cc
to_cut (arrow ∷ ls) e = refl
to_cut (l ∷ ls) e = ap (λ r. l ∷ r) (to_cut ls e)

measure_found : (ls : List Lexeme) (s : Statement) → measure_at ls ≡ Some s → Reads semicolon (word (codes "measure") ∷ ls) s
measure_found ls s e = by (has_stop To ls) refl
  where
    by : (x : Bool) → has_stop To ls ≡ x → Reads semicolon (word (codes "measure") ∷ ls) s
    by false h = absurd (let q : None ≡ Some s = sym (ap (λ x. cond x (and_then (argument_at (before_stop To ls)) (λ a. and_then (argument_at (after_stop To ls)) (λ b. Some (measure a b)))) None) h) ∙ e in cc)
    by true h =
        let e' = sym (ap (λ x. cond x (and_then (argument_at (before_stop To ls)) (λ a. and_then (argument_at (after_stop To ls)) (λ b. Some (measure a b)))) None) h) ∙ e in
        let a = and_then_some (argument_at (before_stop To ls)) (λ a. and_then (argument_at (after_stop To ls)) (λ b. Some (measure a b))) s e' in
        let f = argument_found (before_stop To ls) a.0 a.1 in
        made (word (codes "measure") ∷ ls) s (argument_at (after_stop To ls)) (measure a.0)
        (λ b k. let g = argument_found (after_stop To ls) b k in
        begun (measure a.0 b) ls (to_cut ls h ∙ ap (λ r. r ++ (arrow ∷ after_stop To ls)) f.0 ∙ ap (λ r. written_argument a.0 ++ (arrow ∷ r)) g.0) (f.1, g.1) refl) a.2

call_found : (name : List ℕ) (ls : List Lexeme) (s : Statement) (x : Option (List Lexeme)) → is_name name ≡ true → mark_at 40 ls ≡ x → call_from name ls x ≡ Some s → Reads semicolon (word name ∷ ls) s
call_found name ls s None n m e =
    made (word name ∷ ls) s (arguments_at ls) (call name None) (λ all h. let f = arguments_found ls all h in begun (call name None all) ls f.0 (n, tt, f.1) refl) e
call_found name ls s (Some inner) n m e =
    let p = and_then_some (angles_at inner) (λ p. and_then (arguments_at p.1) (λ all. Some (call name (Some p.0) all))) s e in
    let g = angles_found inner p.0 (mark_at 41 inner) refl p.1 in
    made (word name ∷ ls) s (arguments_at p.0.1) (call name (Some p.0.0))
    (λ all h. let f = arguments_found p.0.1 all h in
    begun (call name (Some p.0.0) all) ls (mark_found 40 ls inner m ∙ g.spelled ∙ ap (λ r. written_angles (Some p.0.0) ++ r) f.0) (n, g.formed, f.1) refl) p.2

none_left : (ls : List Lexeme) → is_nothing ls ≡ true → ls ≡ []
none_left [] e = refl
none_left (l ∷ ls) e = absurd cc

version_found : (ls : List Lexeme) → is_version ls ≡ true → ls ≡ real (codes "2.0") ∷ []
version_found (real b ∷ ls) e =
    let p = and_parts (bytes_eq b (codes "2.0")) (is_nothing ls) e in ap (λ x. real x ∷ ls) (bytes_same b (codes "2.0") p.0) ∙ ap (λ r. real (codes "2.0") ∷ r) (none_left ls p.1)
version_found _ e = absurd cc

included_found : (ls : List Lexeme) (t : List ℕ) → included_at ls ≡ Some t → ls ≡ quoted t ∷ []
included_found (quoted b ∷ ls) t e = let f = end_found b t ls e in ap (λ r. quoted b ∷ r) f.0 ∙ ap (λ x. quoted x ∷ []) f.1
included_found _ t e = absurd cc

with_word : (first w : List ℕ) (ls : List Lexeme) (s : Statement) → bytes_eq first w ≡ true → Reads semicolon (word w ∷ ls) s → Reads semicolon (word first ∷ ls) s
with_word first w ls s e r = subst (λ b. Reads semicolon (word b ∷ ls) s) (sym (bytes_same first w e)) r

-- one test after the other
at_name : (first : List ℕ) (ls : List Lexeme) (s : Statement) (x : Bool) → is_name first ≡ x → cond x (call_at first ls) None ≡ Some s → Reads semicolon (word first ∷ ls) s
at_name first ls s true n e = call_found first ls s (mark_at 40 ls) n refl e
at_name first ls s false n e = absurd cc

-- a test on the first word, and what comes where it fails
chosen : (first w : List ℕ) (ls : List Lexeme) (s : Statement) (y z : Option Statement) → (y ≡ Some s → Reads semicolon (word w ∷ ls) s) → (z ≡ Some s → Reads semicolon (word first ∷ ls) s)
    → cond (bytes_eq first w) y z ≡ Some s → Reads semicolon (word first ∷ ls) s
chosen first w ls s y z f g e = by (bytes_eq first w) refl
  where
    by : (x : Bool) → bytes_eq first w ≡ x → Reads semicolon (word first ∷ ls) s
    by true h = with_word first w ls s h (f (sym (ap (λ x. cond x y z) h) ∙ e))
    by false h = g (sym (ap (λ x. cond x y z) h) ∙ e)

version_chosen : (ls : List Lexeme) (s : Statement) → cond (is_version ls) (Some version) None ≡ Some s → Reads semicolon (word (codes "OPENQASM") ∷ ls) s
version_chosen ls s e =
    let c = cond_some (is_version ls) version s e in subst (Reads semicolon (word (codes "OPENQASM") ∷ ls)) c.1 (begun version ls (version_found ls c.0) tt refl)

-- lexemes with their end, whose first word is left out, or isn't
pub record Found (left : Bool) (end : End) (ls : List Lexeme) (s : Statement) : Type 0 where
  pub spelled : ls ≡ word (first_word s) ∷ written_rest s
  pub formed : Formed s
  pub tried : left ≡ is_left_out s
  pub ends : end_of s ≡ end

after_found : (first : List ℕ) (ls : List Lexeme) (s : Statement) → after_word first ls ≡ Some s → Reads semicolon (word first ∷ ls) s
unfolding after_word
after_found first ls s e =
    chosen first (codes "OPENQASM") ls s _ _ (version_chosen ls s)
    (chosen first (codes "include") ls s _ _ (made (word (codes "include") ∷ ls) s (included_at ls) include (λ t h. begun (include t) ls (included_found ls t h) tt refl))
    (chosen first (codes "qreg") ls s _ _ (made (word (codes "qreg") ∷ ls) s (declaration_at ls) (λ p. qubits p.0 p.1) (λ p h. let d = declaration_found ls p h in begun (qubits p.0 p.1) ls d.0 d.1 refl))
    (chosen first (codes "creg") ls s _ _ (made (word (codes "creg") ∷ ls) s (declaration_at ls) (λ p. bits p.0 p.1) (λ p h. let d = declaration_found ls p h in begun (bits p.0 p.1) ls d.0 d.1 refl))
    (chosen first (codes "barrier") ls s _ _ (made (word (codes "barrier") ∷ ls) s (arguments_at ls) barrier (λ all h. let d = arguments_found ls all h in begun (barrier all) ls d.0 d.1 refl))
    (chosen first (codes "measure") ls s _ _ (measure_found ls s)
    (at_name first ls s (is_name first) refl)))))) e

gate_found : (ls : List Lexeme) (s : Statement) → definition_at ls ≡ Some s → Reads brace (word (codes "gate") ∷ ls) s
gate_found ls s e =
    let r = definition_found ls s e in
    let i = r.is in
    subst (Reads brace (word (codes "gate") ∷ ls)) (sym i.4)
    (begun (definition i.0 i.1 i.2 i.3) ls (r.spelled ∙ ap written_rest i.4) (subst Formed i.4 r.formed) refl)

gate_by : (first : List ℕ) (ls : List Lexeme) (s : Statement) (x : Bool) → bytes_eq first (codes "gate") ≡ x → cond x (definition_at ls) None ≡ Some s → Reads brace (word first ∷ ls) s
gate_by first ls s true f e = subst (λ b. Reads brace (word b ∷ ls) s) (sym (bytes_same first (codes "gate") f)) (gate_found ls s e)
gate_by first ls s false f e = absurd cc

by_end_found : (end : End) (first : List ℕ) (ls : List Lexeme) (s : Statement) → by_end end first ls ≡ Some s → Reads end (word first ∷ ls) s
by_end_found semicolon first ls s e = after_found first ls s e
by_end_found brace first ls s e = gate_by first ls s (bytes_eq first (codes "gate")) refl e

form_found : (left : Bool) (end : End) (first : List ℕ) (ls : List Lexeme) (s : Statement) → form_at left end first ls ≡ Some s → Found left end (word first ∷ ls) s
form_found true end first ls s e = subst (Found true end (word first ∷ ls)) (same_Some _ s e) (record { spelled = refl; formed = tt; tried = refl; ends = refl })
form_found false end first ls s e =
    let r = by_end_found end first ls s e in
    record { spelled = r.spelled; formed = r.formed; tried = sym r.kept; ends = r.ends }

-- what is read is a formed statement, written so
pub statement_found : (left : Bool) (end : End) (ls : List Lexeme) (s : Statement) → statement_at left end ls ≡ Some s → Found left end ls s
statement_found left end (word b ∷ ls) s e = form_found left end b ls s e
statement_found left end _ s e = absurd cc
