-- Arguments between commas and angles up to a parenthesis, one after the other.
use Rattle.std.proofs.Common.{◌≡◌, ◌∙◌, sym, ap, refl, ◌<◌, ℕ, Bool, true, false, ◌||◌, cond, List, [], ◌∷◌, length, arith, Option, Some, None, is_some, unwrap_or, not, MatchOption, subst}
use Rattle.std.specs.List.{list_any, onto_first, slice_split}
use Rattle.std.specs.Option.{option_map_or}
use Rattle.qasm_forms.specs.declared.lexemes.Stop.{Stop}
use Rattle.qasm_forms.specs.declared.lexemes.Stop.TheVariants.{Comma}
use Rattle.qasm_lex.specs.Lexemes.{Lexeme}
use Rattle.qasm_forms.specs.Statements.{is_mark}
use Rattle.qasm_forms.specs.Statements.{Argument}
use Rattle.qasm_forms.specs.Private.Fronts.{and_then, then_angle, ends_angle, deeper, angle_at, led_by}
use Rattle.qasm_forms.specs.Cutting.{is_stop, before_stop, has_stop, after_stop, is_nothing}
use Rattle.qasm_forms.specs.Private.Parsing.{argument_at, gather, arguments_at, left_arguments, lead_angle, next_angle, scan, filled, behind_angles, left_angles}

-- the parts between commas
abbrev pub split : List Lexeme → List (List Lexeme)
split ls = slice_split (is_stop Comma) ls

-- the first part, and those after it
pub split_cut : (ls : List Lexeme) → split ls ≡ before_stop Comma ls ∷ cond (has_stop Comma ls) (split (after_stop Comma ls)) []
split_cut [] = refl
split_cut (l ∷ ls) = by (is_stop Comma l) refl (split_cut ls)
  where
    by : (x : Bool) → is_stop Comma l ≡ x → split ls ≡ before_stop Comma ls ∷ cond (has_stop Comma ls) (split (after_stop Comma ls)) []
        → split (l ∷ ls) ≡ before_stop Comma (l ∷ ls) ∷ cond (has_stop Comma (l ∷ ls)) (split (after_stop Comma (l ∷ ls))) []
    by true e more = rw e refl
    by false e more = rw e (ap (onto_first l) more)

-- the rest after a separator is shorter
pub after_shorter : (stop : Stop) (ls : List Lexeme) → has_stop stop ls ≡ true → length (after_stop stop ls) < length ls
after_shorter stop [] h = absurd cc
after_shorter stop (l ∷ ls) h = by (is_stop stop l) refl (after_shorter stop ls)
  where
    by : (x : Bool) → is_stop stop l ≡ x → (has_stop stop ls ≡ true → length (after_stop stop ls) < length ls) → length (after_stop stop (l ∷ ls)) < length (l ∷ ls)
    by true e more = rw e (omega arith)
    by false e more = rw e (let r = more (sym (ap (λ x. cond x true (has_stop stop ls)) e) ∙ h) in omega arith)

-- one step over arguments
abbrev step : Option Argument → Option (List Argument) → Option (List Argument)
step x rest = and_then x (λ a. and_then rest (λ all. Some (a ∷ all)))

gather_cond : (more : Bool) (ps : List (List Lexeme)) → gather (cond more ps []) ≡ cond more (gather ps) (Some [])
gather_cond true ps = refl
gather_cond false ps = refl

arguments_step : (ls : List Lexeme) → arguments_at ls ≡ step (argument_at (before_stop Comma ls)) (cond (has_stop Comma ls) (arguments_at (after_stop Comma ls)) (Some []))
arguments_step ls = ap gather (split_cut ls) ∙ ap (step (argument_at (before_stop Comma ls))) (gather_cond (has_stop Comma ls) (split (after_stop Comma ls)))

pub arguments_none : (ls : List Lexeme) → argument_at (before_stop Comma ls) ≡ None → is_some (arguments_at ls) ≡ false
arguments_none ls e = ap is_some (arguments_step ls ∙ ap (λ x. step x (cond (has_stop Comma ls) (arguments_at (after_stop Comma ls)) (Some []))) e)

pub arguments_last : (a : Argument) (ls : List Lexeme) → argument_at (before_stop Comma ls) ≡ Some a → has_stop Comma ls ≡ false → is_some (arguments_at ls) ≡ true
arguments_last a ls e h =
    ap is_some (arguments_step ls ∙ ap (λ x. step x (cond (has_stop Comma ls) (arguments_at (after_stop Comma ls)) (Some []))) e
    ∙ ap (λ b. step (Some a) (cond b (arguments_at (after_stop Comma ls)) (Some []))) h)

some_step : (a : Argument) (rest : Option (List Argument)) → is_some (step (Some a) rest) ≡ is_some rest
some_step a None = refl
some_step a (Some all) = refl

pub arguments_more : (a : Argument) (ls : List Lexeme) → argument_at (before_stop Comma ls) ≡ Some a → has_stop Comma ls ≡ true → is_some (arguments_at ls) ≡ is_some (arguments_at (after_stop Comma ls))
arguments_more a ls e h =
    ap is_some (arguments_step ls ∙ ap (λ x. step x (cond (has_stop Comma ls) (arguments_at (after_stop Comma ls)) (Some []))) e
    ∙ ap (λ b. step (Some a) (cond b (arguments_at (after_stop Comma ls)) (Some []))) h)
    ∙ some_step a (arguments_at (after_stop Comma ls))

-- the first argument, and those that are left
pub record NextArgument (ls : List Lexeme) : Type 0 where
  pub argument : Argument
  pub is : argument_at (before_stop Comma ls) ≡ Some argument
  pub all : left_arguments false ls ≡ argument ∷ left_arguments (not (has_stop Comma ls)) (after_stop Comma ls)
  pub more : not (has_stop Comma ls) ≡ false → is_some (arguments_at (after_stop Comma ls)) ≡ true

pub next_argument : (ls : List Lexeme) → is_some (arguments_at ls) ≡ true → NextArgument ls
next_argument ls h = by (argument_at (before_stop Comma ls)) refl (has_stop Comma ls) refl (arguments_at (after_stop Comma ls)) refl
  where
    by : (x : Option Argument) → argument_at (before_stop Comma ls) ≡ x → (b : Bool) → has_stop Comma ls ≡ b → (r : Option (List Argument)) → arguments_at (after_stop Comma ls) ≡ r → NextArgument ls
    by None e b f r g = absurd (let q : false ≡ true = sym (arguments_none ls e) ∙ h in cc)
    by (Some a) e true f None g = absurd (let q : false ≡ true = sym (arguments_more a ls e f ∙ ap is_some g) ∙ h in cc)
    by (Some a) e true f (Some all) g = record {
      argument = a;
      is = e;
      all =
          ap (λ x. unwrap_or x []) (arguments_step ls ∙ ap (λ x. step x (cond (has_stop Comma ls) (arguments_at (after_stop Comma ls)) (Some []))) e
          ∙ ap (λ b. step (Some a) (cond b (arguments_at (after_stop Comma ls)) (Some []))) f ∙ ap (step (Some a)) g)
          ∙ sym (ap (λ b. a ∷ left_arguments (not b) (after_stop Comma ls)) f ∙ ap (λ r. a ∷ unwrap_or r []) g);
      more = λ _. ap is_some g;
    }
    by (Some a) e false f r g = record {
      argument = a;
      is = e;
      all =
          ap (λ x. unwrap_or x []) (arguments_step ls ∙ ap (λ x. step x (cond (has_stop Comma ls) (arguments_at (after_stop Comma ls)) (Some []))) e
          ∙ ap (λ b. step (Some a) (cond b (arguments_at (after_stop Comma ls)) (Some []))) f)
          ∙ sym (ap (λ b. a ∷ left_arguments (not b) (after_stop Comma ls)) f);
      more = λ n. absurd (let q : true ≡ false = sym (ap not f) ∙ n in cc);
    }

-- the angles that were read
abbrev angles_in : Option (List (List Lexeme) × List Lexeme) → List (List Lexeme)
angles_in read = option_map_or (λ p. p.0) read []

-- the first angle, and those after it
abbrev pub scanned : Option (List Lexeme × Bool × List Lexeme) → Option (List (List Lexeme) × List Lexeme)
scanned None = None
scanned (Some p) = cond p.1 (Some (p.0 ∷ [], p.2)) (next_angle p.0 (scan 0 p.2))

lead_next : (l : Lexeme) (a : List Lexeme) (last : Bool) (rest : List Lexeme) (more : Option (List (List Lexeme) × List Lexeme))
    → lead_angle l (cond last (Some (a ∷ [], rest)) (next_angle a more)) ≡ cond last (Some ((l ∷ a) ∷ [], rest)) (next_angle (l ∷ a) more)
lead_next l a true rest more = refl
lead_next l a false rest None = refl
lead_next l a false rest (Some p) = refl

lead_scanned : (l : Lexeme) (x : Option (List Lexeme × Bool × List Lexeme)) → lead_angle l (scanned x) ≡ scanned (led_by l x)
lead_scanned l None = refl
lead_scanned l (Some p) = lead_next l p.0 p.1 p.2 (scan 0 p.2)

pub scan_cut : (depth : ℕ) (ls : List Lexeme) → scan depth ls ≡ scanned (angle_at depth ls)
scan_cut depth [] = refl
scan_cut depth (l ∷ ls) = by (ends_angle depth l) refl (scan_cut (deeper depth l) ls)
  where
    by : (x : Bool) → ends_angle depth l ≡ x → scan (deeper depth l) ls ≡ scanned (angle_at (deeper depth l) ls) → scan depth (l ∷ ls) ≡ scanned (angle_at depth (l ∷ ls))
    by true e more =
        ap (λ x. cond x (cond (is_mark 41 l) (Some ([] ∷ [], ls)) (next_angle [] (scan 0 ls))) (lead_angle l (scan (deeper depth l) ls))) e
        ∙ sym (ap (λ x. scanned (cond x (Some ([], is_mark 41 l, ls)) (led_by l (angle_at (deeper depth l) ls)))) e)
    by false e more =
        ap (λ x. cond x (cond (is_mark 41 l) (Some ([] ∷ [], ls)) (next_angle [] (scan 0 ls))) (lead_angle l (scan (deeper depth l) ls))) e
        ∙ ap (lead_angle l) more ∙ lead_scanned l (angle_at (deeper depth l) ls)
        ∙ sym (ap (λ x. scanned (cond x (Some ([], is_mark 41 l, ls)) (led_by l (angle_at (deeper depth l) ls)))) e)

filled_next : (a : List Lexeme) (x : Option (List (List Lexeme) × List Lexeme)) → is_nothing a ≡ false → filled (next_angle a x) ≡ next_angle a (filled x)
filled_next a None e = refl
filled_next a (Some p) e = ap (λ b. cond (b || list_any is_nothing p.0) None (Some (a ∷ p.0, p.1))) e ∙ by (list_any is_nothing p.0)
  where
    by : (b : Bool) → cond b None (Some (a ∷ p.0, p.1)) ≡ next_angle a (cond b None (Some p))
    by true = refl
    by false = refl

filled_empty : (a : List Lexeme) (x : Option (List (List Lexeme) × List Lexeme)) → is_nothing a ≡ true → filled (next_angle a x) ≡ None
filled_empty a None e = refl
filled_empty a (Some p) e = ap (λ b. cond (b || list_any is_nothing p.0) None (Some (a ∷ p.0, p.1))) e

-- what was found, by the first angle
found_by : (a : List Lexeme) (last : Bool) (rest ls : List Lexeme) → angle_at 0 ls ≡ Some (a, last, rest) → filled (scan 0 ls) ≡ filled (cond last (Some (a ∷ [], rest)) (next_angle a (scan 0 rest)))
found_by a last rest ls e = ap filled (scan_cut 0 ls ∙ ap scanned e)

pub angles_none : (ls : List Lexeme) → angle_at 0 ls ≡ None → behind_angles (filled (scan 0 ls)) ≡ None
angles_none ls e = ap (λ x. behind_angles (filled x)) (scan_cut 0 ls ∙ ap scanned e)

pub angles_empty : (a : List Lexeme) (last : Bool) (rest ls : List Lexeme) → angle_at 0 ls ≡ Some (a, last, rest) → is_nothing a ≡ true → behind_angles (filled (scan 0 ls)) ≡ None
angles_empty a true rest ls e n = ap behind_angles (found_by a true rest ls e) ∙ ap (λ b. behind_angles (cond (b || false) None (Some (a ∷ [], rest)))) n
angles_empty a false rest ls e n = ap behind_angles (found_by a false rest ls e ∙ filled_empty a (scan 0 rest) n)

pub angles_last : (a rest ls : List Lexeme) → angle_at 0 ls ≡ Some (a, true, rest) → is_nothing a ≡ false → behind_angles (filled (scan 0 ls)) ≡ Some rest
angles_last a rest ls e n = ap behind_angles (found_by a true rest ls e) ∙ ap (λ b. behind_angles (cond (b || false) None (Some (a ∷ [], rest)))) n

behind_next : (a : List Lexeme) (x : Option (List (List Lexeme) × List Lexeme)) → behind_angles (next_angle a x) ≡ behind_angles x
behind_next a None = refl
behind_next a (Some p) = refl

pub angles_more : (a rest ls : List Lexeme) → angle_at 0 ls ≡ Some (a, false, rest) → is_nothing a ≡ false → behind_angles (filled (scan 0 ls)) ≡ behind_angles (filled (scan 0 rest))
angles_more a rest ls e n = ap behind_angles (found_by a false rest ls e ∙ filled_next a (scan 0 rest) n) ∙ behind_next a (filled (scan 0 rest))

-- the first angle, and those that are left
pub record AngleTaken (a : List Lexeme) (last : Bool) (rest ls : List Lexeme) : Type 0 where
  pub all : left_angles false ls ≡ a ∷ left_angles last rest
  pub more : last ≡ false → is_some (filled (scan 0 rest)) ≡ true

some_next : (a : List Lexeme) (x : Option (List (List Lexeme) × List Lexeme)) → is_some (next_angle a x) ≡ true → (angles_in (next_angle a x) ≡ a ∷ angles_in x) × (is_some x ≡ true)
some_next a None h = absurd cc
some_next a (Some p) h = (refl, refl)

pub some_angle_there : (ls : List Lexeme) → is_some (filled (scan 0 ls)) ≡ true → angle_at 0 ls ≡ None → ⊥
some_angle_there ls h e = let q : false ≡ true = sym (ap (λ x. is_some (filled x)) (scan_cut 0 ls ∙ ap scanned e)) ∙ h in cc

pub angle_taken : (a : List Lexeme) (last : Bool) (rest ls : List Lexeme) → angle_at 0 ls ≡ Some (a, last, rest) → is_some (filled (scan 0 ls)) ≡ true → AngleTaken a last rest ls
angle_taken a last rest ls e h = by last e (is_nothing a) refl
  where
    none : filled (scan 0 ls) ≡ None → ⊥
    none e = let q : false ≡ true = sym (ap is_some e) ∙ h in cc

    by : (last : Bool) → angle_at 0 ls ≡ Some (a, last, rest) → (n : Bool) → is_nothing a ≡ n → AngleTaken a last rest ls
    by true e true n = absurd (none (found_by a true rest ls e ∙ ap (λ b. cond (b || false) None (Some (a ∷ [], rest))) n))
    by true e false n = record {
      all = ap angles_in (found_by a true rest ls e ∙ ap (λ b. cond (b || false) None (Some (a ∷ [], rest))) n);
      more = λ f. absurd cc;
    }
    by false e true n = absurd (none (found_by a false rest ls e ∙ filled_empty a (scan 0 rest) n))
    by false e false n =
        let f = found_by a false rest ls e ∙ filled_next a (scan 0 rest) n in
        let s = some_next a (filled (scan 0 rest)) (sym (ap is_some f) ∙ h) in
        record { all = ap angles_in f ∙ s.0; more = λ _. s.1 }

-- the same by what a call gives
pub taken_by : (r : Option (List Lexeme × Bool)) (a : List Lexeme) (last : Bool) (rest ls : List Lexeme) → r ≡ Some (a, last) → then_angle r rest ≡ angle_at 0 ls → is_some (filled (scan 0 ls)) ≡ true → AngleTaken a last rest ls
taken_by r a last rest ls e f h = angle_taken a last rest ls (sym f ∙ ap (λ x. then_angle x rest) e) h

-- an option that is some
pub match_some : {A : Type 0} (r : Option A) (a : A) (P : Type 0) (Q : A → Type 0) → r ≡ Some a → Q a → MatchOption r P Q
match_some r a P Q e q = subst (λ x. MatchOption x P Q) (sym e) q

-- the rest after an angle is shorter
pub angle_shorter : (depth : ℕ) (ls : List Lexeme) (a : List Lexeme) (last : Bool) (rest : List Lexeme) → angle_at depth ls ≡ Some (a, last, rest) → length rest < length ls
angle_shorter depth [] a last rest e = absurd cc
angle_shorter depth (l ∷ ls) a last rest e = by (ends_angle depth l) refl (angle_at (deeper depth l) ls) refl (angle_shorter (deeper depth l) ls)
  where
    by : (x : Bool) → ends_angle depth l ≡ x → (y : Option (List Lexeme × Bool × List Lexeme)) → angle_at (deeper depth l) ls ≡ y
        → ((a : List Lexeme) (last : Bool) (rest : List Lexeme) → angle_at (deeper depth l) ls ≡ Some (a, last, rest) → length rest < length ls) → length rest < length (l ∷ ls)
    by true h y f more =
        let e' : Some ([], is_mark 41 l, ls) ≡ Some (a, last, rest) = sym (ap (λ x. cond x (Some ([], is_mark 41 l, ls)) (led_by l (angle_at (deeper depth l) ls))) h) ∙ e in
        let r : ls ≡ rest = ap (λ (q : List Lexeme × Bool × List Lexeme). q.2) (let q : ([], is_mark 41 l, ls) ≡ (a, last, rest) = cc in q) in
        omega (arith, ap length r)
    by false h None f more =
        let e' : led_by l None ≡ Some (a, last, rest) = sym (ap (λ x. cond x (Some ([], is_mark 41 l, ls)) (led_by l (angle_at (deeper depth l) ls))) h ∙ ap (led_by l) f) ∙ e in absurd cc
    by false h (Some p) f more =
        let e' : Some (l ∷ p.0, p.1, p.2) ≡ Some (a, last, rest) = sym (ap (λ x. cond x (Some ([], is_mark 41 l, ls)) (led_by l (angle_at (deeper depth l) ls))) h ∙ ap (led_by l) f) ∙ e in
        let r : p.2 ≡ rest = ap (λ (q : List Lexeme × Bool × List Lexeme). q.2) (let q : (l ∷ p.0, p.1, p.2) ≡ (a, last, rest) = cc in q) in
        let s = more p.0 p.1 p.2 f in
        omega (arith, ap length r)
