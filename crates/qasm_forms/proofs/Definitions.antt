-- The `gate` form: what is read is written so, and what is written is read.
use Rattle.std.proofs.Common.{◌≡◌, ◌∙◌, sym, ap, refl, subst, ◌<◌, ℕ, Bool, true, false, cond, ◌||◌, nat_eq, List, [], ◌∷◌, ◌++◌, length, map, arith, Option, Some, None, is_some, unwrap_or, append_assoc, codes}
use Rattle.std.specs.List.{AllByRecursion, list_any}
use Rattle.std.specs.Str.{bytes_eq}
use Rattle.std.proofs.lemmas.Bool.{or_parts}
use Rattle.std.proofs.lemmas.List.{append-nil}
use Rattle.std.proofs.lemmas.Option.{same_Some}
use Rattle.std.proofs.lemmas.Slice.Eq.{bytes_eq-Decides}
use Rattle.qasm_lex.specs.Lexemes.{Lexeme, word, mark}
use Rattle.qasm_forms.specs.declared.lexemes.Stop.{Stop}
use Rattle.qasm_forms.specs.declared.lexemes.Stop.TheVariants.{Semicolon, Open, Close}
use Rattle.qasm_forms.specs.Statements.{Argument, Statement, Line, fence, calls, definition, plain, IsArgument, AreArguments, AreNames, IsParam, IsLine, Formed, written_names, written_params, written_line, written_lines, written_angles, written_each, written_rest, listed, is_name, is_mark}
use Rattle.qasm_forms.specs.Private.Fronts.{and_then, name_at, mark_at}
use Rattle.qasm_forms.specs.Cutting.{is_nothing, is_stop, before_stop, has_stop, after_stop}
use Rattle.qasm_forms.specs.Private.Parsing.{arguments_at, names_in, names_at, is_function, param_names, params_from, angles_at, line_call_from, line_after, line_at, lines_read, body_at, definition_at}
use Rattle.qasm_forms.proofs.Found.{and_then_some, name_found, mark_found, arguments_found}
use Rattle.qasm_forms.proofs.Nesting.{mark_is}
use Rattle.qasm_forms.proofs.AnglesRead.{angles_found}
use Rattle.qasm_forms.proofs.Written.{arguments_written, angles_written, past}

-- a separator that is a mark, and what stands before and after the first one
cut_joined : (stop : Stop) (b : ℕ) → ((l : Lexeme) → is_stop stop l ≡ true → l ≡ mark b) → (ls : List Lexeme) → has_stop stop ls ≡ true → ls ≡ before_stop stop ls ++ (mark b ∷ after_stop stop ls)
cut_joined stop b m [] h = absurd cc
cut_joined stop b m (l ∷ ls) h = by (is_stop stop l) refl (cut_joined stop b m ls)
  where
    by : (x : Bool) → is_stop stop l ≡ x → (has_stop stop ls ≡ true → ls ≡ before_stop stop ls ++ (mark b ∷ after_stop stop ls)) → l ∷ ls ≡ before_stop stop (l ∷ ls) ++ (mark b ∷ after_stop stop (l ∷ ls))
    by true e more = rw e (ap (λ x. x ∷ ls) (m l e))
    by false e more = rw e (ap (λ r. l ∷ r) (more (sym (ap (λ x. cond x true (has_stop stop ls)) e) ∙ h)))

-- of lexemes that hold none no front holds one
front_none : {A : Type 0} (p : A → Bool) (xs ys : List A) → list_any p (xs ++ ys) ≡ false → list_any p xs ≡ false
front_none p [] ys e = refl
front_none p (x ∷ xs) ys e = let q = or_parts (p x) (list_any p (xs ++ ys)) e in ap (λ b. b || list_any p xs) q.0 ∙ front_none p xs ys q.1

-- the first separator behind lexemes that hold none
pub record CutsAt (stop : Stop) (a : List Lexeme) (s : Lexeme) (r : List Lexeme) : Type 0 where
  pub before : before_stop stop (a ++ (s ∷ r)) ≡ a
  pub has : has_stop stop (a ++ (s ∷ r)) ≡ true
  pub after : after_stop stop (a ++ (s ∷ r)) ≡ r

pub cuts_at : (stop : Stop) (a : List Lexeme) (s : Lexeme) (r : List Lexeme) → is_stop stop s ≡ true → list_any (is_stop stop) a ≡ false → CutsAt stop a s r
cuts_at stop [] s r e h = record { before = rw e refl; has = rw e refl; after = rw e refl }
cuts_at stop (l ∷ a) s r e h = by (is_stop stop l) refl (cuts_at stop a s r e)
  where
    by : (x : Bool) → is_stop stop l ≡ x → (list_any (is_stop stop) a ≡ false → CutsAt stop a s r) → CutsAt stop (l ∷ a) s r
    by true f more = absurd (let q : true ≡ false = sym (ap (λ x. x || list_any (is_stop stop) a) f) ∙ h in cc)
    by false f more =
        let c = more (sym (ap (λ x. x || list_any (is_stop stop) a) f) ∙ h) in
        record { before = rw f (ap (λ x. l ∷ x) c.before); has = rw f c.has; after = rw f c.after }

-- a test that must fail, or hold, for something to be there
none_before : {A : Type 0} (x : Bool) (y : Option A) (b : A) → cond x None y ≡ Some b → (x ≡ false) × (y ≡ Some b)
none_before true y b e = absurd cc
none_before false y b e = (refl, e)

none_behind : {A : Type 0} (x : Bool) (y : Option A) (b : A) → cond x y None ≡ Some b → (x ≡ true) × (y ≡ Some b)
none_behind true y b e = (refl, e)
none_behind false y b e = absurd cc

-- no element passes
any_none : {A : Type 0} (p : A → Bool) (x : A) (xs : List A) → list_any p (x ∷ xs) ≡ false → (p x ≡ false) × (list_any p xs ≡ false)
any_none p x xs e = or_parts (p x) (list_any p xs) e

none_any : {A : Type 0} (p : A → Bool) (x : A) (xs : List A) → p x ≡ false → list_any p xs ≡ false → list_any p (x ∷ xs) ≡ false
none_any p x xs e f = ap (λ b. b || list_any p xs) e ∙ f

any_append : {A : Type 0} (p : A → Bool) (xs ys : List A) → list_any p xs ≡ false → list_any p ys ≡ false → list_any p (xs ++ ys) ≡ false
any_append p [] ys e f = f
any_append p (x ∷ xs) ys e f = let q = any_none p x xs e in none_any p x (xs ++ ys) q.0 (any_append p xs ys q.1 f)

-- names as arguments
plain_of : (name : List ℕ) (index : Option (List ℕ)) → is_some index ≡ false → record { name = name; index = index } ≡ plain name
plain_of name None e = refl
plain_of name (Some d) e = absurd cc

names_plain : (all : List Argument) (names : List (List ℕ)) → names_in all ≡ Some names → all ≡ map plain names
names_plain [] [] e = refl
names_plain [] (n ∷ names) e = absurd cc
names_plain (a ∷ all) names e =
    let t = none_before (is_some a.index) (and_then (names_in all) (λ names. Some (a.name ∷ names))) names e in
    let s = and_then_some (names_in all) (λ names. Some (a.name ∷ names)) names t.1 in
    let p : a ≡ plain a.name = plain_of a.name a.index t.0 in
    ap (λ x. x ∷ all) p ∙ ap (λ r. plain a.name ∷ r) (names_plain all s.0 s.1) ∙ ap (map plain) (same_Some (a.name ∷ s.0) names s.2)

plain_names : (names : List (List ℕ)) → names_in (map plain names) ≡ Some names
plain_names [] = refl
plain_names (n ∷ names) = ap (λ x. and_then x (λ names. Some (n ∷ names))) (plain_names names)

each_name : (names : List (List ℕ)) → AllByRecursion IsArgument (map plain names) → AllByRecursion (λ name. is_name name ≡ true) names
each_name [] h = tt
each_name (n ∷ names) h = (h.0, each_name names h.1)

each_plain : (names : List (List ℕ)) → AllByRecursion (λ name. is_name name ≡ true) names → AllByRecursion IsArgument (map plain names)
each_plain [] h = tt
each_plain (n ∷ names) h = (h.0, each_plain names h.1)

some_name : (names : List (List ℕ)) → 0 < length (map plain names) → 0 < length names
some_name [] h = h
some_name (n ∷ names) h = omega arith

some_plain : (names : List (List ℕ)) → 0 < length names → 0 < length (map plain names)
some_plain [] h = h
some_plain (n ∷ names) h = omega arith

are_arguments : (names : List (List ℕ)) → AreNames names → AreArguments (map plain names)
are_arguments names h = record { some = some_plain names h.some; each = each_plain names h.each }

pub names_found : (ls : List Lexeme) (names : List (List ℕ)) → names_at ls ≡ Some names → (ls ≡ written_names names) × AreNames names
names_found ls names e =
    let s = and_then_some (arguments_at ls) names_in names e in
    let f = arguments_found ls s.0 s.1 in
    let p = names_plain s.0 names s.2 in
    let a = subst AreArguments p f.1 in
    (f.0 ∙ ap (λ all. listed (written_each all)) p, record { some = some_name names a.some; each = each_name names a.each })

pub names_written : (names : List (List ℕ)) → AreNames names → names_at (written_names names) ≡ Some names
names_written names h = ap (λ x. and_then x names_in) (arguments_written (map plain names) (are_arguments names h)) ∙ plain_names names

-- names hold no marks but commas
names_hold : (b : ℕ) → nat_eq 44 b ≡ false → (names : List (List ℕ)) → list_any (is_mark b) (written_names names) ≡ false
names_hold b e [] = refl
names_hold b e (n ∷ []) = refl
names_hold b e (n ∷ m ∷ names) = none_any (is_mark b) (mark 44) (written_names (m ∷ names)) e (names_hold b e (m ∷ names))

-- parameters
params_each : (names : List (List ℕ)) → AllByRecursion (λ name. is_name name ≡ true) names → list_any is_function names ≡ false → AllByRecursion IsParam names
params_each [] h e = tt
params_each (n ∷ names) h e = let q = any_none is_function n names e in ((h.0, q.0), params_each names h.1 q.1)

no_function : (names : List (List ℕ)) → AllByRecursion IsParam names → list_any is_function names ≡ false
no_function [] h = refl
no_function (n ∷ names) h = none_any is_function n names h.0.1 (no_function names h.1)

params_named : (names : List (List ℕ)) → AllByRecursion IsParam names → AllByRecursion (λ name. is_name name ≡ true) names
params_named [] h = tt
params_named (n ∷ names) h = (h.0.0, params_named names h.1)

none_left : (ls : List Lexeme) → is_nothing ls ≡ true → ls ≡ []
none_left [] e = refl
none_left (l ∷ ls) e = absurd cc

abbrev AreParams : List Lexeme → List (List ℕ) → Type 0
AreParams ls names = (ls ≡ written_names names) × AllByRecursion IsParam names

param_names_by : (ls : List Lexeme) (names : List (List ℕ)) (x : Bool) → is_nothing ls ≡ x
    → cond x (Some []) (and_then (names_at ls) (λ names. cond (list_any is_function names) None (Some names))) ≡ Some names → AreParams ls names
param_names_by ls names true f e = subst (AreParams ls) (same_Some [] names e) (none_left ls f, tt)
param_names_by ls names false f e =
    let s = and_then_some (names_at ls) (λ names. cond (list_any is_function names) None (Some names)) names e in
    let t = none_before (list_any is_function s.0) (Some s.0) names s.2 in
    let n = names_found ls s.0 s.1 in
    subst (AreParams ls) (same_Some s.0 names t.1) (n.0, params_each s.0 n.1.each t.0)

param_names_written : (names : List (List ℕ)) → AllByRecursion IsParam names → param_names (written_names names) ≡ Some names
param_names_written [] h = refl
param_names_written (n ∷ []) h =
    ap (λ x. and_then x (λ names. cond (list_any is_function names) None (Some names))) (names_written (n ∷ []) (record { some = omega arith; each = params_named (n ∷ []) h }))
    ∙ ap (λ x. cond x None (Some (n ∷ []))) (no_function (n ∷ []) h)
param_names_written (n ∷ m ∷ names) h =
    ap (λ x. and_then x (λ names. cond (list_any is_function names) None (Some names))) (names_written (n ∷ m ∷ names) (record { some = omega arith; each = params_named (n ∷ m ∷ names) h }))
    ∙ ap (λ x. cond x None (Some (n ∷ m ∷ names))) (no_function (n ∷ m ∷ names) h)

-- parameters that were read, and what follows them
record ReadsParams (ls : List Lexeme) (p : Option (List (List ℕ)) × List Lexeme) : Type 0 where
  spelled : ls ≡ written_params p.0 ++ p.1
  formed : AllByRecursion IsParam (unwrap_or p.0 [])

params_found : (ls : List Lexeme) (p : Option (List (List ℕ)) × List Lexeme) (x : Option (List Lexeme)) → mark_at 40 ls ≡ x → params_from ls x ≡ Some p → ReadsParams ls p
params_found ls p None m e = subst (ReadsParams ls) (same_Some (None, ls) p e) (record { spelled = refl; formed = tt })
params_found ls p (Some inner) m e =
    let t = none_behind (has_stop Close inner) (and_then (param_names (before_stop Close inner)) (λ names. Some (Some names, after_stop Close inner))) p e in
    let s = and_then_some (param_names (before_stop Close inner)) (λ names. Some (Some names, after_stop Close inner)) p t.1 in
    let n = param_names_by (before_stop Close inner) s.0 (is_nothing (before_stop Close inner)) refl s.1 in
    let q : (Some s.0, after_stop Close inner) ≡ p = same_Some (Some s.0, after_stop Close inner) p s.2 in
    subst (ReadsParams ls) q (record {
      spelled =
          mark_found 40 ls inner m ∙ ap (λ r. mark 40 ∷ r) (cut_joined Close 41 (mark_is 41) inner t.0 ∙ ap (λ r. r ++ (mark 41 ∷ after_stop Close inner)) n.0)
          ∙ ap (λ r. mark 40 ∷ r) (sym (append_assoc (written_names s.0) (mark 41 ∷ []) (after_stop Close inner)));
      formed = n.1;
    })

no_open : (formals : List (List ℕ)) (r : List Lexeme) → 0 < length formals → mark_at 40 (written_names formals ++ r) ≡ None
no_open [] r h = absurd (omega arith)
no_open (n ∷ []) r h = refl
no_open (n ∷ m ∷ names) r h = refl

params_written : (params : Option (List (List ℕ))) (formals : List (List ℕ)) (r : List Lexeme) → AllByRecursion IsParam (unwrap_or params []) → 0 < length formals
    → params_from (written_params params ++ (written_names formals ++ r)) (mark_at 40 (written_params params ++ (written_names formals ++ r))) ≡ Some (params, written_names formals ++ r)
params_written None formals r h s = ap (params_from (written_names formals ++ r)) (no_open formals r s)
params_written (Some names) formals r h s =
    let rest = written_names formals ++ r in
    let e : (written_names names ++ (mark 41 ∷ [])) ++ rest ≡ written_names names ++ (mark 41 ∷ rest) = append_assoc (written_names names) (mark 41 ∷ []) rest in
    let c = cuts_at Close (written_names names) (mark 41) rest refl (names_hold 41 refl names) in
    ap (λ inner. cond (has_stop Close inner) (and_then (param_names (before_stop Close inner)) (λ names. Some (Some names, after_stop Close inner))) None) e
    ∙ ap (λ x. cond x (and_then (param_names (before_stop Close (written_names names ++ (mark 41 ∷ rest)))) (λ ns. Some (Some ns, after_stop Close (written_names names ++ (mark 41 ∷ rest))))) None) c.has
    ∙ ap (λ x. and_then x (λ ns. Some (Some ns, after_stop Close (written_names names ++ (mark 41 ∷ rest))))) (ap param_names c.before ∙ param_names_written names h)
    ∙ ap (λ x. Some (Some names, x)) c.after

-- a line that was read: what it is written as, and its form but for what its angles hold
record ReadsLine (ls : List Lexeme) (l : Line) : Type 0 where
  spelled : ls ≡ written_line l
  formed : list_any (is_mark 59) ls ≡ false → IsLine l

angles_hold : (angles : Option (List (List Lexeme))) (rest : List Lexeme) → list_any (is_mark 59) (written_angles angles ++ rest) ≡ false → list_any (is_mark 59) (written_angles angles) ≡ false
angles_hold angles rest e = front_none (is_mark 59) (written_angles angles) rest e

line_call_found : (name : List ℕ) (ls : List Lexeme) (l : Line) (x : Option (List Lexeme)) → is_name name ≡ true → mark_at 40 ls ≡ x → line_call_from name ls x ≡ Some l → ReadsLine (word name ∷ ls) l
line_call_found name ls l None n m e =
    let s = and_then_some (names_at ls) (λ on. Some (calls name None on)) l e in
    let f = names_found ls s.0 s.1 in
    subst (ReadsLine (word name ∷ ls)) (same_Some (calls name None s.0) l s.2) (record { spelled = ap (λ r. word name ∷ r) f.0; formed = λ _. (n, tt, refl, f.1) })
line_call_found name ls l (Some inner) n m e =
    let p = and_then_some (angles_at inner) (λ p. and_then (names_at p.1) (λ on. Some (calls name (Some p.0) on))) l e in
    let g = angles_found inner p.0 (mark_at 41 inner) refl p.1 in
    let s = and_then_some (names_at p.0.1) (λ on. Some (calls name (Some p.0.0) on)) l p.2 in
    let f = names_found p.0.1 s.0 s.1 in
    let w : ls ≡ written_angles (Some p.0.0) ++ written_names s.0 = mark_found 40 ls inner m ∙ g.spelled ∙ ap (λ r. written_angles (Some p.0.0) ++ r) f.0 in
    subst (ReadsLine (word name ∷ ls)) (same_Some (calls name (Some p.0.0) s.0) l s.2) (record {
      spelled = ap (λ r. word name ∷ r) w;
      formed = λ h. (n, g.formed, angles_hold (Some p.0.0) (written_names s.0) (sym (ap (list_any (is_mark 59)) w) ∙ h), f.1);
    })

bytes_same : (a b : List ℕ) → bytes_eq a b ≡ true → a ≡ b
bytes_same a b e = (bytes_eq-Decides a b).0 e

line_by : (first : List ℕ) (ls : List Lexeme) (l : Line) (x y : Bool) → bytes_eq first (codes "barrier") ≡ x → is_name first ≡ y
    → cond x (and_then (names_at ls) (λ on. Some (fence on))) (cond y (line_call_from first ls (mark_at 40 ls)) None) ≡ Some l → ReadsLine (word first ∷ ls) l
line_by first ls l true y f g e =
    let s = and_then_some (names_at ls) (λ on. Some (fence on)) l e in
    let n = names_found ls s.0 s.1 in
    subst (ReadsLine (word first ∷ ls)) (same_Some (fence s.0) l s.2) (record { spelled = ap (λ w. word w ∷ ls) (bytes_same first (codes "barrier") f) ∙ ap (λ r. word (codes "barrier") ∷ r) n.0; formed = λ _. n.1 })
line_by first ls l false true f g e = line_call_found first ls l (mark_at 40 ls) g refl e
line_by first ls l false false f g e = absurd cc

line_found : (ls : List Lexeme) (l : Line) → line_at ls ≡ Some l → ReadsLine ls l
line_found (word first ∷ ls) l e = line_by first ls l (bytes_eq first (codes "barrier")) (is_name first) refl refl e
line_found _ l e = absurd cc

-- lines that were read
record ReadsLines (ls : List Lexeme) (lines : List Line) : Type 0 where
  spelled : ls ≡ written_lines lines
  formed : AllByRecursion IsLine lines

lines_end : (before : List Lexeme) (lines : List Line) (x : Bool) → is_nothing before ≡ x → cond x (Some []) None ≡ Some lines → ReadsLines (before ++ []) lines
lines_end before lines true f e = subst (ReadsLines (before ++ [])) (same_Some [] lines e) (record { spelled = ap (λ b. b ++ []) (none_left before f); formed = tt })
lines_end before lines false f e = absurd cc

lines_found : (before ls : List Lexeme) (lines : List Line) → list_any (is_mark 59) before ≡ false → lines_read before ls ≡ Some lines → ReadsLines (before ++ ls) lines
lines_found before [] lines h e = lines_end before lines (is_nothing before) refl e
lines_found before (l ∷ ls) lines h e = by (is_mark 59 l) refl (lines_found [] ls) (lines_found (before ++ l ∷ []) ls lines)
  where
    both : Option (List Line)
    both = and_then (line_at before) (λ line. and_then (lines_read [] ls) (λ lines. Some (line ∷ lines)))

    by : (x : Bool) → is_mark 59 l ≡ x → ((more : List Line) → list_any (is_mark 59) [] ≡ false → lines_read [] ls ≡ Some more → ReadsLines ls more)
        → (list_any (is_mark 59) (before ++ l ∷ []) ≡ false → lines_read (before ++ l ∷ []) ls ≡ Some lines → ReadsLines ((before ++ l ∷ []) ++ ls) lines) → ReadsLines (before ++ (l ∷ ls)) lines
    by true f rest on =
        let s = and_then_some (line_at before) (λ line. and_then (lines_read [] ls) (λ lines. Some (line ∷ lines))) lines (sym (ap (λ x. cond x both (lines_read (before ++ l ∷ []) ls)) f) ∙ e) in
        let t = and_then_some (lines_read [] ls) (λ lines. Some (s.0 ∷ lines)) lines s.2 in
        let r = line_found before s.0 s.1 in
        let q = rest t.0 refl t.1 in
        subst (ReadsLines (before ++ (l ∷ ls))) (same_Some (s.0 ∷ t.0) lines t.2) (record {
          spelled = ap (λ x. before ++ (x ∷ ls)) (mark_is 59 l f) ∙ ap (λ r. r ++ (mark 59 ∷ ls)) r.spelled ∙ ap (λ r. written_line s.0 ++ (mark 59 ∷ r)) q.spelled;
          formed = (r.formed h, q.formed);
        })
    by false f rest on =
        let q = on (any_append (is_mark 59) before (l ∷ []) h (none_any (is_mark 59) l [] f refl)) (sym (ap (λ x. cond x both (lines_read (before ++ l ∷ []) ls)) f) ∙ e) in
        record { spelled = sym (append_assoc before (l ∷ []) ls) ∙ q.spelled; formed = q.formed }

-- a line is read as it is written
fence_is : (on : List (List ℕ)) → AreNames on → line_at (written_line (fence on)) ≡ Some (fence on)
fence_is on h = ap (λ x. and_then x (λ on. Some (fence on))) (names_written on h)

line_name : (name : List ℕ) (ls : List Lexeme) → is_name name ≡ true → line_after name ls ≡ line_call_from name ls (mark_at 40 ls)
unfolding is_name
line_name name ls n = past name (codes "barrier") _ _ n refl ∙ ap (λ x. cond x (line_call_from name ls (mark_at 40 ls)) None) n

no_open_names : (on : List (List ℕ)) → 0 < length on → mark_at 40 (written_names on) ≡ None
no_open_names [] h = absurd (omega arith)
no_open_names (n ∷ []) h = refl
no_open_names (n ∷ m ∷ names) h = refl

line_written : (l : Line) → IsLine l → line_at (written_line l) ≡ Some l
line_written (fence on) h = fence_is on h
line_written (calls name None on) h =
    line_name name (written_names on) h.0 ∙ ap (line_call_from name (written_names on)) (no_open_names on h.3.some)
    ∙ ap (λ x. and_then x (λ on. Some (calls name None on))) (names_written on h.3)
line_written (calls name (Some angles) on) h =
    line_name name (written_angles (Some angles) ++ written_names on) h.0
    ∙ ap (λ x. and_then x (λ p. and_then (names_at p.1) (λ on. Some (calls name (Some p.0) on))))
    (ap angles_at (append_assoc (listed angles) (mark 41 ∷ []) (written_names on)) ∙ angles_written angles (written_names on) h.1)
    ∙ ap (λ x. and_then x (λ on. Some (calls name (Some angles) on))) (names_written on h.3)

line_holds : (l : Line) → IsLine l → list_any (is_mark 59) (written_line l) ≡ false
line_holds (fence on) h = names_hold 59 refl on
line_holds (calls name angles on) h = any_append (is_mark 59) (written_angles angles) (written_names on) h.2 (names_hold 59 refl on)

lines_next : (before a r : List Lexeme) → list_any (is_mark 59) a ≡ false
    → lines_read before (a ++ (mark 59 ∷ r)) ≡ and_then (line_at (before ++ a)) (λ line. and_then (lines_read [] r) (λ lines. Some (line ∷ lines)))
lines_next before [] r h = ap (λ b. and_then (line_at b) (λ line. and_then (lines_read [] r) (λ lines. Some (line ∷ lines)))) (sym (append-nil before))
lines_next before (l ∷ a) r h =
    let q = any_none (is_mark 59) l a h in
    ap (λ x. cond x (and_then (line_at before) (λ line. and_then (lines_read [] (a ++ (mark 59 ∷ r))) (λ lines. Some (line ∷ lines)))) (lines_read (before ++ l ∷ []) (a ++ (mark 59 ∷ r)))) q.0
    ∙ lines_next (before ++ l ∷ []) a r q.1
    ∙ ap (λ b. and_then (line_at b) (λ line. and_then (lines_read [] r) (λ lines. Some (line ∷ lines)))) (append_assoc before (l ∷ []) a)

lines_written : (lines : List Line) → AllByRecursion IsLine lines → lines_read [] (written_lines lines) ≡ Some lines
lines_written [] h = refl
lines_written (l ∷ lines) h =
    lines_next [] (written_line l) (written_lines lines) (line_holds l h.0)
    ∙ ap (λ x. and_then x (λ line. and_then (lines_read [] (written_lines lines)) (λ lines. Some (line ∷ lines)))) (line_written l h.0)
    ∙ ap (λ x. and_then x (λ lines. Some (l ∷ lines))) (lines_written lines h.1)

-- a definition that was read
pub record ReadsDefinition (ls : List Lexeme) (s : Statement) : Type 0 where
  pub spelled : ls ≡ written_rest s
  pub formed : Formed s
  pub is : (name : List ℕ) × (params : Option (List (List ℕ))) × (formals : List (List ℕ)) × (lines : List Line) × (s ≡ definition name params formals lines)

pub definition_found : (ls : List Lexeme) (s : Statement) → definition_at ls ≡ Some s → ReadsDefinition ls s
definition_found ls s e =
    let a = and_then_some (name_at ls) (λ n. and_then (params_from n.1 (mark_at 40 n.1)) (λ p. body_at n.0 p.0 p.1)) s e in
    let n = name_found ls a.0 a.1 in
    let b = and_then_some (params_from a.0.1 (mark_at 40 a.0.1)) (λ p. body_at a.0.0 p.0 p.1) s a.2 in
    let p = params_found a.0.1 b.0 (mark_at 40 a.0.1) refl b.1 in
    let r = b.0.1 in
    let c = none_behind (has_stop Open r) (and_then (names_at (before_stop Open r)) (λ formals. and_then (lines_read [] (after_stop Open r)) (λ lines. Some (definition a.0.0 b.0.0 formals lines)))) s b.2 in
    let f = and_then_some (names_at (before_stop Open r)) (λ formals. and_then (lines_read [] (after_stop Open r)) (λ lines. Some (definition a.0.0 b.0.0 formals lines))) s c.1 in
    let g = names_found (before_stop Open r) f.0 f.1 in
    let d = and_then_some (lines_read [] (after_stop Open r)) (λ lines. Some (definition a.0.0 b.0.0 f.0 lines)) s f.2 in
    let k = lines_found [] (after_stop Open r) d.0 refl d.1 in
    subst (ReadsDefinition ls) (same_Some (definition a.0.0 b.0.0 f.0 d.0) s d.2) (record {
      spelled =
          n.0 ∙ ap (λ x. word a.0.0 ∷ x) (p.spelled ∙ ap (λ x. written_params b.0.0 ++ x) (cut_joined Open 123 (mark_is 123) r c.0
          ∙ ap (λ x. x ++ (mark 123 ∷ after_stop Open r)) g.0 ∙ ap (λ x. written_names f.0 ++ (mark 123 ∷ x)) k.spelled));
      formed = (n.1, p.formed, g.1, k.formed);
      is = (a.0.0, b.0.0, f.0, d.0, refl);
    })

-- a formed definition is read as it is written
pub definition_written : (name : List ℕ) (params : Option (List (List ℕ))) (formals : List (List ℕ)) (lines : List Line) → Formed (definition name params formals lines)
    → definition_at (written_rest (definition name params formals lines)) ≡ Some (definition name params formals lines)
definition_written name params formals lines h =
    let body = written_names formals ++ (mark 123 ∷ written_lines lines) in
    let c = cuts_at Open (written_names formals) (mark 123) (written_lines lines) refl (names_hold 123 refl formals) in
    ap (λ x. and_then {A = List ℕ × List Lexeme} (cond x (Some (name, written_params params ++ body)) None) (λ n. and_then (params_from n.1 (mark_at 40 n.1)) (λ p. body_at n.0 p.0 p.1))) h.0
    ∙ ap (λ x. and_then x (λ p. body_at name p.0 p.1)) (params_written params formals (mark 123 ∷ written_lines lines) h.1 h.2.some)
    ∙ ap (λ x. cond x (and_then (names_at (before_stop Open body)) (λ formals. and_then (lines_read [] (after_stop Open body)) (λ lines. Some (definition name params formals lines)))) None) c.has
    ∙ ap (λ x. and_then x (λ formals. and_then (lines_read [] (after_stop Open body)) (λ lines. Some (definition name params formals lines)))) (ap names_at c.before ∙ names_written formals h.2)
    ∙ ap (λ x. and_then x (λ lines. Some (definition name params formals lines))) (ap (lines_read []) c.after ∙ lines_written lines h.3)

-- lines are read up to the first `;`, and from there on
abbrev lines_step : List Lexeme → List Lexeme → Option (List Line)
lines_step before ls =
    cond (has_stop Semicolon ls) (and_then (line_at (before ++ before_stop Semicolon ls)) (λ line. and_then (lines_read [] (after_stop Semicolon ls)) (λ lines. Some (line ∷ lines))))
    (cond (is_nothing (before ++ ls)) (Some []) None)

nothing_longer : (before : List Lexeme) (l : Lexeme) (ls : List Lexeme) → is_nothing (before ++ (l ∷ ls)) ≡ false
nothing_longer [] l ls = refl
nothing_longer (b ∷ before) l ls = refl

lines_cut : (before ls : List Lexeme) → lines_read before ls ≡ lines_step before ls
lines_cut before [] = ap (λ b. cond (is_nothing b) (Some []) None) (sym (append-nil before))
lines_cut before (l ∷ ls) = by (is_mark 59 l) refl (lines_cut (before ++ l ∷ []) ls)
  where
    by : (x : Bool) → is_mark 59 l ≡ x → lines_read (before ++ l ∷ []) ls ≡ lines_step (before ++ l ∷ []) ls → lines_read before (l ∷ ls) ≡ lines_step before (l ∷ ls)
    by true e more = rw e (ap (λ b. and_then (line_at b) (λ line. and_then (lines_read [] ls) (λ lines. Some (line ∷ lines)))) (sym (append-nil before)))
    by false e more =
        rw e (more ∙ ap (λ b. cond (has_stop Semicolon ls) (and_then (line_at b) (λ line. and_then (lines_read [] (after_stop Semicolon ls)) (λ lines. Some (line ∷ lines)))) (cond (is_nothing ((before ++ l ∷ []) ++ ls)) (Some []) None)) (append_assoc before (l ∷ []) (before_stop Semicolon ls))
        ∙ ap (λ b. cond (has_stop Semicolon ls) (and_then (line_at (before ++ (l ∷ before_stop Semicolon ls))) (λ line. and_then (lines_read [] (after_stop Semicolon ls)) (λ lines. Some (line ∷ lines)))) (cond (is_nothing b) (Some []) None)) (append_assoc before (l ∷ []) ls))

plain_back : (names : List (List ℕ)) → map (λ (a : Argument). a.name) (map plain names) ≡ names
plain_back [] = refl
plain_back (n ∷ names) = ap (λ r. n ∷ r) (plain_back names)

-- names that are all there
pub names_some : (all : List Argument) → is_some (names_in all) ≡ true → Some (map (λ (a : Argument). a.name) all) ≡ names_in all
names_some all h = by (names_in all) refl h
  where
    by : (x : Option (List (List ℕ))) → names_in all ≡ x → is_some x ≡ true → Some (map (λ (a : Argument). a.name) all) ≡ names_in all
    by None e h = absurd cc
    by (Some names) e h = ap (λ (all : List Argument). Some (map (λ (a : Argument). a.name) all)) (names_plain all names e) ∙ ap Some (plain_back names) ∙ sym e

-- the first line, and those that are left
pub record NextLine (ls : List Lexeme) : Type 0 where
  pub line : Line
  pub more : List Line
  pub is : line_at (before_stop Semicolon ls) ≡ Some line
  pub rest : lines_read [] (after_stop Semicolon ls) ≡ Some more
  pub all : lines_read [] ls ≡ Some (line ∷ more)
  pub has : has_stop Semicolon ls ≡ true

lines_at : (ls : List Lexeme) → is_nothing ls ≡ false → lines_read [] ls ≡ cond (has_stop Semicolon ls) (and_then (line_at (before_stop Semicolon ls)) (λ line. and_then (lines_read [] (after_stop Semicolon ls)) (λ lines. Some (line ∷ lines)))) None
lines_at ls n =
    lines_cut [] ls
    ∙ ap (λ b. cond (has_stop Semicolon ls) (and_then (line_at (before_stop Semicolon ls)) (λ line. and_then (lines_read [] (after_stop Semicolon ls)) (λ lines. Some (line ∷ lines)))) (cond b (Some []) None)) n

pub next_line : (ls : List Lexeme) → is_nothing ls ≡ false → is_some (lines_read [] ls) ≡ true → NextLine ls
next_line ls n h = from (lines_read [] ls) refl h
  where
    from : (x : Option (List Line)) → lines_read [] ls ≡ x → is_some x ≡ true → NextLine ls
    from None e h = absurd cc
    from (Some lines) e h =
        let t = none_behind (has_stop Semicolon ls) (and_then (line_at (before_stop Semicolon ls)) (λ line. and_then (lines_read [] (after_stop Semicolon ls)) (λ lines. Some (line ∷ lines)))) lines (sym (lines_at ls n) ∙ e) in
        let s = and_then_some (line_at (before_stop Semicolon ls)) (λ line. and_then (lines_read [] (after_stop Semicolon ls)) (λ lines. Some (line ∷ lines))) lines t.1 in
        let u = and_then_some (lines_read [] (after_stop Semicolon ls)) (λ lines. Some (s.0 ∷ lines)) lines s.2 in
        record { line = s.0; more = u.0; is = s.1; rest = u.1; all = e ∙ sym u.2; has = t.0 }

-- one step over lines
abbrev lines_by : Bool → Option Line → Option (List Line) → Option (List Line)
lines_by has line more = cond has (and_then line (λ l. and_then more (λ lines. Some (l ∷ lines)))) None

pub lines_open : (ls : List Lexeme) → is_nothing ls ≡ false → has_stop Semicolon ls ≡ false → is_some (lines_read [] ls) ≡ false
lines_open ls n h = ap is_some (lines_at ls n ∙ ap (λ x. lines_by x (line_at (before_stop Semicolon ls)) (lines_read [] (after_stop Semicolon ls))) h)

pub lines_bad : (ls : List Lexeme) → is_nothing ls ≡ false → has_stop Semicolon ls ≡ true → line_at (before_stop Semicolon ls) ≡ None → is_some (lines_read [] ls) ≡ false
lines_bad ls n h e =
    ap is_some (lines_at ls n ∙ ap (λ x. lines_by x (line_at (before_stop Semicolon ls)) (lines_read [] (after_stop Semicolon ls))) h
    ∙ ap (λ x. lines_by true x (lines_read [] (after_stop Semicolon ls))) e)

some_more : (l : Line) (more : Option (List Line)) → is_some (lines_by true (Some l) more) ≡ is_some more
some_more l None = refl
some_more l (Some lines) = refl

pub lines_more : (l : Line) (ls : List Lexeme) → is_nothing ls ≡ false → has_stop Semicolon ls ≡ true → line_at (before_stop Semicolon ls) ≡ Some l → is_some (lines_read [] ls) ≡ is_some (lines_read [] (after_stop Semicolon ls))
lines_more l ls n h e =
    ap is_some (lines_at ls n ∙ ap (λ x. lines_by x (line_at (before_stop Semicolon ls)) (lines_read [] (after_stop Semicolon ls))) h
    ∙ ap (λ x. lines_by true x (lines_read [] (after_stop Semicolon ls))) e)
    ∙ some_more l (lines_read [] (after_stop Semicolon ls))
