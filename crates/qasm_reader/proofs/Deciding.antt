-- The reasons of a statement as tests, in their order: the first that holds tells the refusal.
use Rattle.std.proofs.Common.{◌≡◌, ◌≢◌, ◌∙◌, sym, ap, refl, subst, ◌≤◌, ◌<◌, ◌+◌, ◌⊎◌, inl, inr, ℕ, suc, Bool, true, false, ◌||◌, cond, nat_lt, List, [], ◌∷◌, ◌++◌, length, All, arith, Option, Some, None, is_some, option_map, option_and_then, Result, Ok, Err}
use Rattle.std.specs.Bool.{Decides}
use Rattle.std.specs.Option.{option_map_or, is_none}
use Rattle.std.specs.List.{list_any, flat_map}
use Rattle.std.proofs.lemmas.Option.{none-some, same_Some}
use Rattle.std.proofs.lemmas.Bool.Decides.{Decides-eqb, Decides-ltb, Decides-not, Decides-or}
use Rattle.qasm_lex.specs.declared.refusal.AngleRefusal.{AngleRefusal}
use Rattle.qasm_lex.specs.Lexemes.{Lexeme}
use Rattle.qasm_lex.specs.Symbols.{decimal}
use Rattle.qasm_forms.specs.Statements.{Statement, version, qubits, bits, measure, call, definition, Argument}
use Rattle.qasm_reader.specs.declared.reason.Why.{Why}
use Rattle.qasm_reader.specs.declared.reason.Why.TheVariants.{BadByte, NoVersion, NotAStatement, OutOfProfile, UnknownName, Redeclared, UnknownRegister, IndexOutOfRange, WrongCount, SizesDiffer, RepeatedQubit, TooDeep, TooManyItems, AngleRefused, OffGrid, Measured, TooManyQubits, TooManyGates}
use Rattle.qasm_gates.specs.Gates.{Basic, Item, Meaning, Named, all_of, up_to, Do}
use Rattle.qasm_gates.specs.Bodies.{defined}
use Rattle.qasm_gates.specs.Private.Counts.{count_of, items_done}
use Rattle.qasm_gates.proofs.Done.{counted_does, does_only, uncounted_does_nothing}
use Rattle.qasm_gates.proofs.Sound.{found_sound}
use Rattle.qasm_reader.specs.Acts.{Act, Register, Target, nothing, declares, defines, applies, registers, target, targets, wholes, place_count, qubits_at, is_among, measured, qubit_count, gates, measures, item_count, definitions}
use Rattle.qasm_reader.specs.Calls.{gate_named, listed, Calls, Does}
use Rattle.qasm_reader.specs.Parts.{Part, Has}
use Rattle.qasm_reader.specs.Reasons.{out_of_profile, unknown_name, is_declared, Redeclares, unknown_register, out_of_range, wrong_count, depth_of, items_of, line_angles, Breaks, Holds, Refuses, IsFree, AreUnequal, DifferInSize, AtSomePlace, IsRepeated, Repeats, Meets, IsAngleRefused, IsOffGrid, order}
use Rattle.qasm_reader.specs.Private.Meanings.{meaning_of, trees_in, calls_in}
use Rattle.qasm_reader.specs.Private.Scope.{differ, has_twice, named_twice, line_repeats, other_count}
use Rattle.qasm_reader.specs.Private.Drafts.{AreSound}
use Rattle.qasm_reader.proofs.Good.{has_one}
use Rattle.qasm_reader.proofs.Places.{any_decides}
use Rattle.qasm_reader.proofs.Tests.{opposite_decides, none_decides, equal_decides, among_decides, twice_decides, names_decide, lines_decide}
use Rattle.qasm_reader.proofs.Meanings.{means_is, means_one, meant_positive, shapes_are, shapes_one, calls_are, calls_one}

-- the refusal that there is
abbrev pub err_in : {A : Type 0} → Result A AngleRefusal → Option AngleRefusal
err_in (Ok a) = None
err_in (Err e) = Some e

-- the first refusal of an angle of a statement
abbrev pub refusal_in : List Act → Statement → Option AngleRefusal
refusal_in before (call name angles arguments) = option_and_then (λ called. err_in (meaning_of called (listed angles))) (gate_named before name)
refusal_in before (definition name params formals lines) = err_in (trees_in (listed params) (flat_map line_angles lines))
refusal_in before _ = None

abbrev pub refusal_of : Option AngleRefusal → Why
refusal_of (Some e) = AngleRefused e
refusal_of None = OffGrid

-- whether an angle is off its grid, and none is refused
abbrev pub off_in : Meaning → Bool
off_in (Ok basics) = is_none (count_of basics)
off_in (Err e) = false

abbrev pub is_off : List Act → Statement → Bool
is_off before (call name angles arguments) = option_map_or (λ called. off_in (meaning_of called (listed angles))) (gate_named before name) false
is_off before _ = false

abbrev pub over_items : List Act → Statement → Bool
over_items before s = option_map_or (λ n. nat_lt 4000000 (item_count before + n)) (items_of before s) false

abbrev pub redeclares : List Act → Statement → Bool
redeclares before (qubits name size) = is_declared (registers before) name
redeclares before (bits name size) = is_declared (registers before) name
redeclares before (definition name params formals lines) = is_some (gate_named before name) || named_twice (listed params ++ formals)
redeclares before _ = false

-- what holds of targets that there are
abbrev pub if_all : Option (List Target) → (List Target → Bool) → Bool
if_all ts test = option_map_or test ts false

abbrev pub if_two : Option Target → Option Target → (Target → Target → Bool) → Bool
if_two f t test = option_map_or (λ x. option_map_or (test x) t false) f false

abbrev pub sizes_differ : List (List ℕ × Register) → Statement → Bool
sizes_differ all (call name angles arguments) = if_all (targets all arguments) (λ ts. differ (wholes ts))
sizes_differ all (measure from to) = if_two (target all from) (target all to) other_count
sizes_differ all _ = false

abbrev pub some_place : List (List ℕ × Register) → (List ℕ → Bool) → Statement → Bool
some_place all test (call name angles arguments) = if_all (targets all arguments) (λ ts. list_any (λ place. test (qubits_at ts place)) (up_to (place_count ts)))
some_place all test _ = false

abbrev pub is_repeated : List (List ℕ × Register) → Statement → Bool
is_repeated all (definition name params formals lines) = list_any line_repeats lines
is_repeated all s = some_place all has_twice s

-- what a call does, by what it means
abbrev pub act_for : Named → Meaning → Option (List Target) → Option Act
act_for called (Ok basics) ts = option_and_then (λ n. option_map (applies called.items (items_done basics)) ts) (count_of basics)
act_for called (Err e) ts = None

-- what a statement does, if it does something definite
abbrev pub act_of : List Act → Statement → Option Act
act_of before (qubits name size) = Some (declares true name (decimal size))
act_of before (bits name size) = Some (declares false name (decimal size))
act_of before (measure from to) = option_map measures (target (registers before) from)
act_of before (call name angles arguments) = option_and_then (λ called. act_for called (meaning_of called (listed angles)) (targets (registers before) arguments)) (gate_named before name)
act_of before (definition name params formals lines) = option_map (λ cs. defines name (defined (length (listed params)) (length formals) cs)) (calls_in (definitions before) (listed params) formals lines)
act_of before _ = Some nothing

abbrev pub exceeds : ℕ → Option Act → (Act → ℕ) → Bool
exceeds most act count = option_map_or (λ a. nat_lt most (count a)) act false

-- the tests of a statement, each with its reason
abbrev pub tests : ℕ → List Act → Statement → List (Bool × Why)
tests limit before s =
    (out_of_profile before s, OutOfProfile) ∷ (unknown_name before s, UnknownName) ∷ (redeclares before s, Redeclared)
    ∷ (unknown_register (registers before) s, UnknownRegister) ∷ (out_of_range (registers before) s, IndexOutOfRange) ∷ (wrong_count before s, WrongCount)
    ∷ (sizes_differ (registers before) s, SizesDiffer) ∷ (is_repeated (registers before) s, RepeatedQubit) ∷ (nat_lt 32 (depth_of before s), TooDeep) ∷ (over_items before s, TooManyItems)
    ∷ (is_some (refusal_in before s), refusal_of (refusal_in before s)) ∷ (is_off before s, OffGrid)
    ∷ (some_place (registers before) (list_any (is_among (measured before))) s, Measured) ∷ (exceeds limit (act_of before s) (λ act. qubit_count (before ++ act ∷ [])), TooManyQubits)
    ∷ (exceeds 1000000 (act_of before s) (λ act. length (gates (before ++ act ∷ []))), TooManyGates) ∷ []

-- the reason of the first test that holds
abbrev pub first_of : List (Bool × Why) → Option Why
first_of [] = None
first_of (x ∷ xs) = cond x.0 (Some x.1) (first_of xs)

-- what holds of a value that there is
some_decides : {X : Type 0} (x : Option X) (P : X → Type 0) (test : X → Bool) → ((v : X) → Decides (test v) (P v)) → Decides (option_map_or test x false) ((v : X) × (x ≡ Some v) × P v)
some_decides None P test d = (λ h. absurd cc, λ p. absurd (none-some p.0 p.1))
some_decides (Some v) P test d = (λ h. (v, refl, (d v).0 h), λ p. (d v).1 (subst P (same_Some p.0 v (sym p.1)) p.2))

exceeds_decides : (most : ℕ) (x : Option Act) (count : Act → ℕ) → Decides (exceeds most x count) ((act : Act) × (x ≡ Some act) × (most < count act))
exceeds_decides most x count = some_decides x (λ a. most < count a) (λ a. nat_lt most (count a)) (λ a. Decides-ltb most (count a))

module _ (all : List (List ℕ × Register)) where
  -- a fact on the places of a call
  place_decides : (P : List ℕ → Type 0) (test : List ℕ → Bool) → ((qs : List ℕ) → Decides (test qs) (P qs)) → (s : Statement) → Decides (some_place all test s) (AtSomePlace all P s)
  place_decides P test d (call name angles arguments) =
      let x = some_decides (targets all arguments) (λ ts. (place : ℕ) × (place < place_count ts) × P (qubits_at ts place)) (λ ts. list_any (λ place. test (qubits_at ts place)) (up_to (place_count ts)))
      (λ ts. any_decides (λ place. test (qubits_at ts place)) (λ place. P (qubits_at ts place)) (λ place. d (qubits_at ts place)) (place_count ts)) in
      (λ e. (let p = x.0 e in (p.0, p.1, (p.2).0, (p.2).1, (p.2).2)), λ p. x.1 (p.0, p.1, (p.2, p.3, p.4)))
  place_decides P test d _ = (λ e. absurd cc, λ p. absurd p)

  sizes_decide : (s : Statement) → Decides (sizes_differ all s) (DifferInSize all s)
  sizes_decide (measure from to) =
      let x = some_decides (target all from) (λ f. (t : Target) × (target all to ≡ Some t) × (place_count (f ∷ []) ≢ place_count (t ∷ []))) (λ f. option_map_or (other_count f) (target all to) false)
      (λ f. some_decides (target all to) (λ t. place_count (f ∷ []) ≢ place_count (t ∷ [])) (other_count f) (λ t. Decides-not _ (Decides-eqb (place_count (f ∷ [])) (place_count (t ∷ []))))) in
      (λ e. (let p = x.0 e in (p.0, (p.2).0, p.1, (p.2).1, (p.2).2)), λ p. x.1 (p.0, p.2, (p.1, p.3, p.4)))
  sizes_decide (call name angles arguments) =
      some_decides (targets all arguments) (λ ts. AreUnequal (wholes ts)) (λ ts. differ (wholes ts)) (λ ts. opposite_decides (differ (wholes ts)) _ (equal_decides (wholes ts)))
  sizes_decide _ = (λ e. absurd cc, λ p. absurd p)

  repeat_decides : (s : Statement) → Decides (is_repeated all s) (IsRepeated all s)
  repeat_decides (definition name params formals lines) = opposite_decides (list_any line_repeats lines) _ (lines_decide lines)
  repeat_decides s = place_decides Repeats has_twice (λ qs. opposite_decides (has_twice qs) _ (twice_decides qs)) s

-- each test that holds tells its reason, and the reasons stand in their order
abbrev pub Told : (Why → Type 0) → List (Bool × Why) → ℕ → Type 0
Told B [] n = Unit {0}
Told B (x ∷ xs) n = (x.0 ≡ true → B x.1) × (x.0 ≡ true → order x.1 ≡ n) × Told B xs (suc n)

-- the reason is one of those whose tests hold
abbrev pub Among : List (Bool × Why) → Why → Type 0
Among [] o = ⊥
Among (x ∷ xs) o = ((x.0 ≡ true) × (o ≡ x.1)) ⊎ Among xs o

first_tells : (B : Why → Type 0) (xs : List (Bool × Why)) (n : ℕ) (w : Why) → Told B xs n → first_of xs ≡ Some w → B w
first_tells B [] n w t e = absurd cc
first_tells B ((true, v) ∷ xs) n w t e = subst B (same_Some v w e) (t.0 refl)
first_tells B ((false, v) ∷ xs) n w t e = first_tells B xs (suc n) w t.2 e

-- reasons further on are later
among_later : (B : Why → Type 0) (xs : List (Bool × Why)) (n : ℕ) (o : Why) → Told B xs n → Among xs o → n ≤ order o
among_later B [] n o t a = absurd a
among_later B (x ∷ xs) n o t (inl p) = let q = t.1 p.0 in let r = ap order p.1 in omega arith
among_later B (x ∷ xs) n o t (inr a) = let q = among_later B xs (suc n) o t.2 a in omega arith

first_least : (B : Why → Type 0) (xs : List (Bool × Why)) (n : ℕ) (w o : Why) → Told B xs n → first_of xs ≡ Some w → Among xs o → (o ≡ w) ⊎ (order w < order o)
first_least B [] n w o t e a = absurd a
first_least B ((true, v) ∷ xs) n w o t e (inl p) = inl (p.1 ∙ same_Some v w e)
first_least B ((true, v) ∷ xs) n w o t e (inr a) =
    let l = among_later B xs (suc n) o t.2 a in let m = t.1 refl in let r = ap order (same_Some v w e) in inr (omega arith)
first_least B ((false, v) ∷ xs) n w o t e (inl p) = absurd (let q : false ≡ true = p.0 in cc)
first_least B ((false, v) ∷ xs) n w o t e (inr a) = first_least B xs (suc n) w o t.2 e a

first_none : (xs : List (Bool × Why)) (o : Why) → first_of xs ≡ None → Among xs o → ⊥
first_none [] o e a = a
first_none ((true, v) ∷ xs) o e a = cc
first_none ((false, v) ∷ xs) o e (inl p) = let q : false ≡ true = p.0 in cc
first_none ((false, v) ∷ xs) o e (inr a) = first_none xs o e a

-- what a test of options says
then_some : {A B : Type 0} (x : Option A) (f : A → Option B) (b : B) → option_and_then f x ≡ Some b → (a : A) × (x ≡ Some a) × (f a ≡ Some b)
then_some None f b e = absurd cc
then_some (Some a) f b e = (a, refl, e)

map_some : {A B : Type 0} (x : Option A) (f : A → B) (b : B) → option_map f x ≡ Some b → (a : A) × (x ≡ Some a) × (f a ≡ b)
map_some None f b e = absurd cc
map_some (Some a) f b e = (a, refl, same_Some (f a) b e)

if_some : {A : Type 0} (x : Option A) (test : A → Bool) → option_map_or test x false ≡ true → (a : A) × (x ≡ Some a) × (test a ≡ true)
if_some None test e = absurd cc
if_some (Some a) test e = (a, refl, e)

err_is : {A : Type 0} (r : Result A AngleRefusal) (e : AngleRefusal) → err_in r ≡ Some e → r ≡ Err e
err_is (Ok a) e h = absurd cc
err_is (Err x) e h = ap Err (same_Some x e h)

off_is : (m : Meaning) → off_in m ≡ true → (basics : List Basic) × (m ≡ Ok basics) × (count_of basics ≡ None)
off_is (Err e) h = absurd cc
off_is (Ok basics) h = (basics, refl, none (count_of basics) h)
  where
    none : (x : Option ℕ) → is_none x ≡ true → x ≡ None
    none None h = refl
    none (Some n) h = absurd cc

act_is : (called : Named) (m : Meaning) (ts : Option (List Target)) (act : Act) → act_for called m ts ≡ Some act
    → (basics : List Basic) × (n : ℕ) × (on : List Target) × (m ≡ Ok basics) × (count_of basics ≡ Some n) × (ts ≡ Some on) × (applies called.items (items_done basics) on ≡ act)
act_is called (Err e) ts act h = absurd cc
act_is called (Ok basics) ts act h =
    let p = then_some (count_of basics) (λ n. option_map (applies called.items (items_done basics)) ts) act h in
    let q = map_some ts (applies called.items (items_done basics)) act p.2 in
    (basics, p.0, q.0, refl, p.1, q.1, q.2)

module _ (before : List Act) (sound : AreSound (definitions before)) where
  -- what a call means is counted as what it does
  pub meant_counts : (name : List ℕ) (called : Named) (angles : List (List Lexeme)) (basics : List Basic) (items : List Item) → gate_named before name ≡ Some called → meaning_of called angles ≡ Ok basics → Do basics items
      → (count_of basics ≡ Some (length items)) × (items ≡ items_done basics)
  meant_counts name called angles basics items n m d = does_only basics items (meant_positive called angles basics (found_sound (definitions before) name called sound n) m) d

  -- what a statement does is definite
  call_does : (name : List ℕ) (angles : Option (List (List Lexeme))) (all : List Argument) (act : Act) → Calls before name (listed angles) all act → act_of before (call name angles all) ≡ Some act
  call_does name angles all act c =
      let m = means_one c.called (listed angles) (Ok c.basics) c.meant in
      let d = meant_counts name c.called (listed angles) c.basics c.items c.named m c.done in
      ap (λ x. option_and_then (λ called. act_for called (meaning_of called (listed angles)) (targets (registers before) all)) x) c.named
      ∙ ap (λ x. act_for c.called x (targets (registers before) all)) m ∙ ap (λ x. option_and_then (λ n. option_map (applies c.called.items (items_done c.basics)) (targets (registers before) all)) x) d.0
      ∙ ap (option_map (applies c.called.items (items_done c.basics))) c.means ∙ ap (λ items. Some (applies c.called.items items c.on)) (sym d.1) ∙ ap Some (sym c.does)

  does_act : (s : Statement) (act : Act) → Does before s act → act_of before s ≡ Some act
  does_act (measure a b) act d = ap (option_map measures) d.1 ∙ ap Some (sym d.2)
  does_act (call name angles all) act d = call_does name angles all act d
  does_act (definition name params formals lines) act d =
      ap (option_map (λ cs. defines name (defined (length (listed params)) (length formals) cs))) (calls_one before (listed params) formals lines d.0 d.1) ∙ ap Some (sym d.2)
  does_act _ act d = ap Some (sym d)

act_called : (before : List Act) (name : List ℕ) (angles : Option (List (List Lexeme))) (all : List Argument) (act : Act) → act_of before (call name angles all) ≡ Some act → Calls before name (listed angles) all act
act_called before name angles all act e =
    let p = then_some (gate_named before name) (λ called. act_for called (meaning_of called (listed angles)) (targets (registers before) all)) act e in
    let a = act_is p.0 (meaning_of p.0 (listed angles)) (targets (registers before) all) act p.2 in
    record {
      called = p.0;
      basics = a.0;
      items = items_done a.0;
      on = a.2;
      named = p.1;
      meant = means_is p.0 (listed angles) (Ok a.0) a.3;
      done = (counted_does a.0 a.1 a.4).0;
      means = a.5;
      does = sym a.6;
    }

pub act_does : (before : List Act) (s : Statement) (act : Act) → act_of before s ≡ Some act → Does before s act
act_does before (measure a b) act e = let p = map_some (target (registers before) a) measures act e in (p.0, p.1, sym p.2)
act_does before (call name angles all) act e = act_called before name angles all act e
act_does before (definition name params formals lines) act e =
    let p = map_some (calls_in (definitions before) (listed params) formals lines) (λ cs. defines name (defined (length (listed params)) (length formals) cs)) act e in
    (p.0, calls_are before (listed params) formals lines p.0 p.1, sym p.2)
act_does before _ act e = sym (same_Some _ act e)

-- the tests of names and angles
redeclare_decides : (before : List Act) (s : Statement) → Decides (redeclares before s) (Redeclares before s)
redeclare_decides before (qubits name size) = (λ e. e, λ e. e)
redeclare_decides before (bits name size) = (λ e. e, λ e. e)
redeclare_decides before (definition name params formals lines) =
    Decides-or (is_some (gate_named before name)) (named_twice (listed params ++ formals)) (λ e. e, λ e. e) (opposite_decides _ _ (names_decide (listed params ++ formals)))
redeclare_decides before _ = (λ e. absurd cc, λ p. absurd p)

refused_tells : (before : List Act) (s : Statement) (e : AngleRefusal) → refusal_in before s ≡ Some e → IsAngleRefused before s e
refused_tells before (call name angles all) e h =
    let p = then_some (gate_named before name) (λ called. err_in (meaning_of called (listed angles))) e h in
    (p.0, p.1, means_is p.0 (listed angles) (Err e) (err_is (meaning_of p.0 (listed angles)) e p.2))
refused_tells before (definition name params formals lines) e h =
    (_, shapes_are (listed params) (flat_map line_angles lines), err_is (trees_in (listed params) (flat_map line_angles lines)) e h)
refused_tells before _ e h = absurd cc

refused_told : (before : List Act) (s : Statement) (e : AngleRefusal) → IsAngleRefused before s e → refusal_in before s ≡ Some e
refused_told before (call name angles all) e h =
    ap (λ x. option_and_then (λ called. err_in (meaning_of called (listed angles))) x) h.1 ∙ ap err_in (means_one h.0 (listed angles) (Err e) h.2)
refused_told before (definition name params formals lines) e h =
    ap (λ shapes. err_in (all_of shapes)) (sym (shapes_one (listed params) (flat_map line_angles lines) h.0 h.1)) ∙ ap err_in h.2
refused_told before _ e h = absurd h

refusal_tells : (limit : ℕ) (before : List Act) (s : Statement) (x : Option AngleRefusal) → refusal_in before s ≡ x → is_some x ≡ true → Breaks limit before s (refusal_of x)
refusal_tells limit before s (Some e) h b = refused_tells before s e h
refusal_tells limit before s None h b = absurd cc

refusal_order : (x : Option AngleRefusal) → is_some x ≡ true → order (refusal_of x) ≡ 13
refusal_order (Some e) b = refl
refusal_order None b = absurd cc

off_tells : (before : List Act) → AreSound (definitions before) → (s : Statement) → is_off before s ≡ true → IsOffGrid before s
off_tells before sound (call name angles all) b =
    let p = if_some (gate_named before name) (λ called. off_in (meaning_of called (listed angles))) b in
    let o = off_is (meaning_of p.0 (listed angles)) p.2 in (
      p.0,
      o.0,
      p.1,
      means_is p.0 (listed angles) (Ok o.0) o.1,
      λ items d. uncounted_does_nothing o.0 items (meant_positive p.0 (listed angles) o.0 (found_sound (definitions before) name p.0 sound p.1) o.1) o.2 d,
    )
off_tells before sound _ b = absurd cc

none_counted : (basics : List Basic) → ((items : List Item) → Do basics items → ⊥) → is_none (count_of basics) ≡ true
none_counted basics n = by (count_of basics) refl
  where
    by : (x : Option ℕ) → count_of basics ≡ x → is_none x ≡ true
    by None e = refl
    by (Some k) e = absurd (n (items_done basics) (counted_does basics k e).0)

off_told : (before : List Act) (s : Statement) → IsOffGrid before s → is_off before s ≡ true
off_told before (call name angles all) h =
    ap (λ x. option_map_or (λ called. off_in (meaning_of called (listed angles))) x false) h.2 ∙ ap off_in (means_one h.0 (listed angles) (Ok h.1) h.3) ∙ none_counted h.1 h.4
off_told before _ h = absurd h

module _ (limit : ℕ) (before : List Act) (sound : AreSound (definitions before)) (s : Statement) where
  sizes : Decides (sizes_differ (registers before) s) (DifferInSize (registers before) s)
  sizes = sizes_decide (registers before) s

  twice : Decides (is_repeated (registers before) s) (IsRepeated (registers before) s)
  twice = repeat_decides (registers before) s

  items : Decides (over_items before s) ((n : ℕ) × (items_of before s ≡ Some n) × (4000000 < item_count before + n))
  items = some_decides (items_of before s) (λ n. 4000000 < item_count before + n) (λ n. nat_lt 4000000 (item_count before + n)) (λ n. Decides-ltb 4000000 (item_count before + n))

  gone : Decides (some_place (registers before) (list_any (is_among (measured before))) s) (AtSomePlace (registers before) (Meets (measured before)) s)
  gone = place_decides (registers before) (Meets (measured before)) (list_any (is_among (measured before)))
      (λ qs. opposite_decides _ _ (none_decides (λ q. All (λ p. q ≢ p) (measured before)) (is_among (measured before)) (λ q. among_decides q (measured before)) qs)) s

  -- a limit that what the statement does exceeds
  over : (most : ℕ) (count : Act → ℕ) → Decides (exceeds most (act_of before s) count) ((act : Act) × Does before s act × (most < count act))
  over most count =
      let x = exceeds_decides most (act_of before s) count in
      (λ e. (let p = x.0 e in (p.0, act_does before s p.0 p.1, p.2)), λ p. x.1 (p.0, does_act before sound s p.0 p.1, p.2))

  -- the tests tell what a statement breaks
  tests_tell : Told (Breaks limit before s) (tests limit before s) 3
  tests_tell = (λ e. e, λ e. refl, (λ e. e, λ e. refl, ((redeclare_decides before s).0, λ e. refl, (λ e. e, λ e. refl, (λ e. e, λ e. refl, (λ e. e, λ e. refl, (sizes.0, λ e. refl, (twice.0, λ e. refl, ((Decides-ltb 32 (depth_of before s)).0, λ e. refl, (items.0, λ e. refl, (refusal_tells limit before s (refusal_in before s) refl, refusal_order (refusal_in before s), (off_tells before sound s, λ e. refl, (gone.0, λ e. refl, ((over limit _).0, λ e. refl, ((over 1000000 _).0, λ e. refl, tt)))))))))))))))

  -- what a statement breaks is told
  breaks_among : (o : Why) → Breaks limit before s o → Among (tests limit before s) o
  breaks_among OutOfProfile b = inl (b, refl)
  breaks_among UnknownName b = inr (inl (b, refl))
  breaks_among Redeclared b = inr (inr (inl ((redeclare_decides before s).1 b, refl)))
  breaks_among UnknownRegister b = inr (inr (inr (inl (b, refl))))
  breaks_among IndexOutOfRange b = inr (inr (inr (inr (inl (b, refl)))))
  breaks_among WrongCount b = inr (inr (inr (inr (inr (inl (b, refl))))))
  breaks_among SizesDiffer b = inr (inr (inr (inr (inr (inr (inl (sizes.1 b, refl)))))))
  breaks_among RepeatedQubit b = inr (inr (inr (inr (inr (inr (inr (inl (twice.1 b, refl))))))))
  breaks_among TooDeep b = inr (inr (inr (inr (inr (inr (inr (inr (inl ((Decides-ltb 32 (depth_of before s)).1 b, refl)))))))))
  breaks_among TooManyItems b = inr (inr (inr (inr (inr (inr (inr (inr (inr (inl (items.1 b, refl))))))))))
  breaks_among (AngleRefused e) b =
      let q = refused_told before s e b in
      inr (inr (inr (inr (inr (inr (inr (inr (inr (inr (inl (ap is_some q, ap refusal_of (sym q))))))))))))
  breaks_among OffGrid b = inr (inr (inr (inr (inr (inr (inr (inr (inr (inr (inr (inl (off_told before s b, refl))))))))))))
  breaks_among Measured b = inr (inr (inr (inr (inr (inr (inr (inr (inr (inr (inr (inr (inl (gone.1 b, refl)))))))))))))
  breaks_among TooManyQubits b = inr (inr (inr (inr (inr (inr (inr (inr (inr (inr (inr (inr (inr (inl ((over limit _).1 b, refl))))))))))))))
  breaks_among TooManyGates b = inr (inr (inr (inr (inr (inr (inr (inr (inr (inr (inr (inr (inr (inr (inl ((over 1000000 _).1 b, refl)))))))))))))))
  breaks_among _ b = absurd b

-- a broken rule is a reason that holds
breaks_holds : (limit : ℕ) (before : List Act) (part : Part) (s : Statement) → Has before part s → (w : Why) → Breaks limit before s w → Holds limit before part w
breaks_holds limit before part s h (BadByte place) b = absurd b
breaks_holds limit before part s h NoVersion b = absurd b
breaks_holds limit before part s h NotAStatement b = absurd b
breaks_holds limit before part s h _ b = (s, h, b)

-- the part is a statement with no bad place
pub record IsGood (before : List Act) (part : Part) (s : Statement) : Type 0 where
  pub has : Has before part s
  pub no_bad : part.bad ≡ None
  pub first : before ≡ [] → s ≡ version

holds_breaks : (limit : ℕ) (before : List Act) (part : Part) (s : Statement) → IsGood before part s → (o : Why) → Holds limit before part o → Breaks limit before s o
holds_breaks limit before part s g (BadByte place) h = absurd (none-some place (sym g.no_bad ∙ h))
holds_breaks limit before part s g NoVersion h = absurd (h.1 (subst (Has before part) (g.first h.0) g.has))
holds_breaks limit before part s g NotAStatement h = absurd (h s g.has)
holds_breaks limit before part s g o h = subst (λ x. Breaks limit before x o) (has_one before part h.0 s h.1 g.has) h.2

module _ (limit : ℕ) (before : List Act) (sound : AreSound (definitions before)) (part : Part) (s : Statement) (g : IsGood before part s) where
  -- the first test that holds gives the refusal
  pub refuses : (w : Why) → first_of (tests limit before s) ≡ Some w → Refuses limit before part w
  refuses w e = record {
    holds = breaks_holds limit before part s g.has w (first_tells (Breaks limit before s) (tests limit before s) 3 w (tests_tell limit before sound s) e);
    first = λ o h. first_least (Breaks limit before s) (tests limit before s) 3 w o (tests_tell limit before sound s) e (breaks_among limit before sound s o (holds_breaks limit before part s g o h));
  }

  -- and where none holds the statement is free
  pub free : first_of (tests limit before s) ≡ None → IsFree limit before part
  free e o h = first_none (tests limit before s) o e (breaks_among limit before sound s o (holds_breaks limit before part s g o h))
