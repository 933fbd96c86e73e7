-- What angles, calls and bodies mean is one thing, always.
use Rattle.std.proofs.Common.{◌≡◌, ◌∙◌, sym, ap, refl, subst, ℕ, Bool, true, false, cond, nat_lt, List, [], ◌∷◌, length, map, Option, Some, None, option_map, unwrap_or, Result, Ok, Err, IfSome}
use Rattle.std.specs.List.{AllZip, AllByRecursion}
use Rattle.std.specs.Option.{option_map_or}
use Rattle.std.proofs.lemmas.Bool.{ltb-false}
use Rattle.std.proofs.lemmas.Bool.Decides.{Decides-ltb}
use Rattle.std.proofs.lemmas.Option.{none-some, same_Some}
use Rattle.qasm_lex.specs.declared.symbol.Symbol.{Symbol}
use Rattle.qasm_lex.specs.declared.refusal.AngleRefusal.{AngleRefusal}
use Rattle.qasm_lex.specs.declared.refusal.AngleRefusal.TheVariants.{TooLong, Malformed}
use Rattle.qasm_lex.specs.Lexemes.{Lexeme}
use Rattle.qasm_lex.specs.Symbols.{symbols, symbols_in, param_of}
use Rattle.qasm_lex.specs.Expressions.{Tree, Formed, spelling, eval, pi}
use Rattle.qasm_lex.specs.Values.{Outcome, values}
use Rattle.qasm_lex.specs.declared.value.Value.{Value}
use Rattle.qasm_lex.specs.Angles.{value_in, IsShape, too_long, malformed, expression, IsOutcome}
use Rattle.qasm_lex.specs.Private.Descent.{expr, parsed, whole_of, tree_in}
use Rattle.qasm_lex.proofs.Whole.{found, only, tree_is}
use Rattle.qasm_lex.proofs.Denominators.{MayBePositive, eval_positive}
use Rattle.qasm_lex.proofs.OneAnswer.{one_shape, one_outcome}
use Rattle.qasm_forms.specs.Statements.{Line, fence, calls}
use Rattle.qasm_gates.specs.Gates.{Basic, Named, Meaning, led, all_of, gate_in}
use Rattle.qasm_gates.specs.Bodies.{Call, means_for}
use Rattle.qasm_gates.specs.Private.Proper.{IsPositive, HasPositive, IsSound}
use Rattle.qasm_gates.proofs.Sound.{led_ok, called_positive}
use Rattle.qasm_reader.specs.Acts.{Act, definitions}
use Rattle.qasm_reader.specs.Calls.{listed, Means, IsCall, AreCalls}
use Rattle.qasm_reader.specs.Private.Meanings.{shape_in, outcome_in, outcomes_in, meaning_of, trees_in, all_there, if_ok, call_by, call_in, with_call, calls_in}

-- symbols have a shape
pub shape_is : (s : List Symbol) → IsShape s (shape_in s)
unfolding shape_in
shape_is s = by (nat_lt 64 (length s)) refl (whole_of (parsed [] expr s)) refl (found [] s)
  where
    by : (b : Bool) → nat_lt 64 (length s) ≡ b → (x : Option Outcome) → whole_of (parsed [] expr s) ≡ x → IfSome x (λ w. (t : Tree) × Formed t × (s ≡ spelling t) × (eval (values []) t ≡ w))
        → IsShape s (cond b (Err TooLong) (option_map_or (λ _. Ok (unwrap_or (tree_in s) pi)) x (Err Malformed)))
    by true e x f h = too_long ((Decides-ltb 64 (length s)).0 e) refl
    by false e None f h = malformed (ltb-false 64 (length s) e) (λ t r. none-some _ (sym f ∙ only [] s t r.formed r.spelled)) refl
    by false e (Some w) f h = expression (ltb-false 64 (length s) e) h.0 (record { formed = h.1; spelled = h.2 }) (ap (λ x. Ok (unwrap_or x pi)) (tree_is s h.0 h.1 h.2))

-- and angles have outcomes
pub outcome_is : (a : List Lexeme) → IsOutcome [] (symbols a) (outcome_in a)
outcome_is a = record { shape = shape_in (symbols a); is_shape = shape_is (symbols a); value = refl }

pub outcome_one : (a : List Lexeme) (o : Outcome) → IsOutcome [] (symbols a) o → o ≡ outcome_in a
outcome_one a o h = one_outcome [] (symbols a) o (outcome_in a) h (outcome_is a)

outcomes_are : (angles : List (List Lexeme)) → AllZip (λ a o. IsOutcome [] (symbols a) o) angles (map outcome_in angles)
outcomes_are [] = tt
outcomes_are (a ∷ angles) = (outcome_is a, outcomes_are angles)

outcomes_one : (angles : List (List Lexeme)) (outcomes : List Outcome) → AllZip (λ a o. IsOutcome [] (symbols a) o) angles outcomes → outcomes ≡ map outcome_in angles
outcomes_one [] [] h = refl
outcomes_one (a ∷ angles) (o ∷ outcomes) h =
    ap (λ x. x ∷ outcomes) (outcome_one a o h.0) ∙ ap (λ r. outcome_in a ∷ r) (outcomes_one angles outcomes h.1)
outcomes_one [] (o ∷ outcomes) h = absurd h
outcomes_one (a ∷ angles) [] h = absurd h

-- whose denominators are positive
shape_positive : (shape : Result Tree AngleRefusal) → MayBePositive (value_in [] shape)
shape_positive (Ok t) = eval_positive [] tt t
shape_positive (Err e) = tt

outcomes_positive : (angles : List (List Lexeme)) (vs : List Value) → outcomes_in angles ≡ Ok vs → AllByRecursion IsPositive vs
outcomes_positive [] vs e = let q : [] ≡ vs = cc e in subst (AllByRecursion IsPositive) q tt
outcomes_positive (a ∷ angles) vs e =
    let l = led_ok (outcome_in a) (outcomes_in angles) vs e in
    subst (AllByRecursion IsPositive) l.4 (subst MayBePositive l.2 (shape_positive (shape_in (symbols a))), outcomes_positive angles l.1 l.3)

-- what a sound gate means has positive denominators
pub meant_positive : (called : Named) (angles : List (List Lexeme)) (basics : List Basic) → IsSound called → meaning_of called angles ≡ Ok basics → AllByRecursion HasPositive basics
meant_positive called angles basics h e = called_positive called (outcomes_in angles) basics h.positive (outcomes_positive angles) e

-- a call means one thing
pub means_is : (gate : Named) (angles : List (List Lexeme)) (m : Meaning) → meaning_of gate angles ≡ m → Means gate angles m
means_is gate angles m e = record { outcomes = map outcome_in angles; are = outcomes_are angles; is = sym e }

pub means_one : (gate : Named) (angles : List (List Lexeme)) (m : Meaning) → Means gate angles m → meaning_of gate angles ≡ m
means_one gate angles m h = sym (h.is ∙ ap (λ os. means_for gate (all_of os)) (outcomes_one angles h.outcomes h.are))

module _ (params : List (List ℕ)) where
  abbrev shape_of : List Lexeme → Result Tree AngleRefusal
  shape_of a = shape_in (symbols_in params a)

  -- angles over parameters have shapes
  pub shapes_are : (angles : List (List Lexeme)) → AllZip (λ a shape. IsShape (symbols_in params a) shape) angles (map shape_of angles)
  shapes_are [] = tt
  shapes_are (a ∷ angles) = (shape_is (symbols_in params a), shapes_are angles)

  pub shapes_one : (angles : List (List Lexeme)) (shapes : List (Result Tree AngleRefusal)) → AllZip (λ a shape. IsShape (symbols_in params a) shape) angles shapes → shapes ≡ map shape_of angles
  shapes_one [] [] h = refl
  shapes_one (a ∷ angles) (s ∷ shapes) h =
      ap (λ x. x ∷ shapes) (one_shape (symbols_in params a) s (shape_of a) h.0 (shape_is (symbols_in params a))) ∙ ap (λ r. shape_of a ∷ r) (shapes_one angles shapes h.1)
  shapes_one [] (s ∷ shapes) h = absurd h
  shapes_one (a ∷ angles) [] h = absurd h

  trees_are : (angles : List (List Lexeme)) (trees : List Tree) → AllZip (λ a t. IsShape (symbols_in params a) (Ok t)) angles trees → trees_in params angles ≡ Ok trees
  trees_are [] [] h = refl
  trees_are (a ∷ angles) (t ∷ trees) h =
      ap (λ x. led x (trees_in params angles)) (one_shape (symbols_in params a) (shape_of a) (Ok t) (shape_is (symbols_in params a)) h.0) ∙ ap (led (Ok t)) (trees_are angles trees h.1)
  trees_are [] (t ∷ trees) h = absurd h
  trees_are (a ∷ angles) [] h = absurd h

  trees_shaped : (angles : List (List Lexeme)) (trees : List Tree) → trees_in params angles ≡ Ok trees → AllZip (λ a t. IsShape (symbols_in params a) (Ok t)) angles trees
  trees_shaped [] trees e = let q : [] ≡ trees = cc e in subst (AllZip (λ a t. IsShape (symbols_in params a) (Ok t)) []) q tt
  trees_shaped (a ∷ angles) trees e =
      let l = led_ok (shape_of a) (trees_in params angles) trees e in
      subst (AllZip (λ a t. IsShape (symbols_in params a) (Ok t)) (a ∷ angles)) l.4 (subst (IsShape (symbols_in params a)) l.2 (shape_is (symbols_in params a)), trees_shaped angles l.1 l.3)

-- all that are there
some_there : {A : Type 0} (xs : List A) → all_there (map Some xs) ≡ Some xs
some_there [] = refl
some_there (x ∷ xs) = ap (λ more. option_map (λ more. x ∷ more) more) (some_there xs)

there_some : {A : Type 0} (all : List (Option A)) (xs : List A) → all_there all ≡ Some xs → all ≡ map Some xs
there_some {A = A} [] xs e = let q : [] ≡ xs = same_Some [] xs e in ap (map Some) q
there_some {A = A} (None ∷ all) xs e = absurd cc
there_some {A = A} (Some a ∷ all) xs e = by (all_there all) (there_some all) e
  where
    by : (x : Option (List A)) → ((more : List A) → x ≡ Some more → all ≡ map Some more) → option_map (λ more. a ∷ more) x ≡ Some xs → Some a ∷ all ≡ map Some xs
    by None f e = absurd cc
    by (Some more) f e = ap (λ r. Some a ∷ r) (f more refl) ∙ ap (map Some) (same_Some (a ∷ more) xs e)

ok_there : {A E : Type 0} (r : Result A E) (a : A) → if_ok r ≡ Some a → r ≡ Ok a
ok_there (Ok x) a e = ap Ok (same_Some x a e)
ok_there (Err x) a e = absurd cc

by_parts : (g : Option Named) (ts : Option (List Tree)) (ns : Option (List ℕ)) (c : Call) → call_by g ts ns ≡ Some c → (g ≡ Some c.called) × (ts ≡ Some c.angles) × (ns ≡ Some c.on)
by_parts (Some g) (Some ts) (Some ns) c e =
    let q : record { called = g; angles = ts; on = ns } ≡ c = same_Some _ c e in
    (ap (λ (c : Call). Some c.called) q, ap (λ (c : Call). Some c.angles) q, ap (λ (c : Call). Some c.on) q)
by_parts (Some g) (Some ts) None c e = absurd cc
by_parts (Some g) None ns c e = absurd cc
by_parts None ts ns c e = absurd cc

with_parts : (x : Option Call) (xs : Option (List Call)) (cs : List Call) → with_call x xs ≡ Some cs → (c : Call) × (more : List Call) × (x ≡ Some c) × (xs ≡ Some more) × (c ∷ more ≡ cs)
with_parts (Some c) (Some more) cs e = (c, more, refl, refl, same_Some (c ∷ more) cs e)
with_parts (Some c) None cs e = absurd cc
with_parts None xs cs e = absurd cc

module _ (before : List Act) (params formals : List (List ℕ)) where
  -- the call of a line
  call_is : (name : List ℕ) (angles : List (List Lexeme)) (on : List (List ℕ)) (c : Call) → call_in (definitions before) params formals name angles on ≡ Some c → IsCall before params formals name angles on c
  call_is name angles on c e =
      let p = by_parts (gate_in (definitions before) name) (if_ok (trees_in params angles)) (all_there (map (param_of formals) on)) c e in
      record { named = p.0; shaped = trees_shaped params angles c.angles (ok_there (trees_in params angles) c.angles p.1); numbered = there_some (map (param_of formals) on) c.on p.2 }

  call_one : (name : List ℕ) (angles : List (List Lexeme)) (on : List (List ℕ)) (c : Call) → IsCall before params formals name angles on c → call_in (definitions before) params formals name angles on ≡ Some c
  call_one name angles on c h =
      ap (λ g. call_by g (if_ok (trees_in params angles)) (all_there (map (param_of formals) on))) h.named
      ∙ ap (λ ts. call_by (Some c.called) (if_ok ts) (all_there (map (param_of formals) on))) (trees_are params angles c.angles h.shaped)
      ∙ ap (λ ns. call_by (Some c.called) (Some c.angles) (all_there ns)) h.numbered ∙ ap (call_by (Some c.called) (Some c.angles)) (some_there c.on)

  -- the calls of a body are one list
  pub calls_are : (lines : List Line) (cs : List Call) → calls_in (definitions before) params formals lines ≡ Some cs → AreCalls before params formals lines cs
  calls_are [] cs e = sym (same_Some [] cs e)
  calls_are (fence on ∷ lines) cs e = calls_are lines cs e
  calls_are (calls name angles on ∷ lines) cs e =
      let p = with_parts (call_in (definitions before) params formals name (listed angles) on) (calls_in (definitions before) params formals lines) cs e in
      subst (AreCalls before params formals (calls name angles on ∷ lines)) p.4 (call_is name (listed angles) on p.0 p.2, calls_are lines p.1 p.3)

  pub calls_one : (lines : List Line) (cs : List Call) → AreCalls before params formals lines cs → calls_in (definitions before) params formals lines ≡ Some cs
  calls_one [] cs h = ap Some (sym h)
  calls_one (fence on ∷ lines) cs h = calls_one lines cs h
  calls_one (calls name angles on ∷ lines) [] h = absurd h
  calls_one (calls name angles on ∷ lines) (c ∷ cs) h =
      ap (λ x. with_call x (calls_in (definitions before) params formals lines)) (call_one name (listed angles) on c h.0) ∙ ap (with_call (Some c)) (calls_one lines cs h.1)
