-- What stops a statement when it is carried out is the first of its tests that holds.
use Rattle.std.proofs.Common.{◌≡◌, ◌∙◌, sym, ap, refl, ◌≤◌, ◌<◌, ℕ, ◌+◌, ◌*◌, Bool, true, false, ◌||◌, not, cond, nat_lt, List, [], ◌∷◌, ◌++◌, length, All, Option, Some, None, option_map, option_and_then, is_some, Result, Ok, Err, codes, arith}
use Rattle.std.specs.Option.{option_map_or, is_none}
use Rattle.std.specs.List.{list_any}
use Rattle.std.specs.Str.{bytes_eq}
use Rattle.std.proofs.lemmas.List.{length-append}
use Rattle.qasm_lex.specs.Lexemes.{Lexeme}
use Rattle.qasm_lex.specs.Symbols.{decimal}
use Rattle.qasm_forms.specs.Statements.{Statement, version, include, qubits, bits, barrier, measure, call, definition, left_out, Argument, first_word, is_left_out}
use Rattle.qasm_reader.specs.declared.reason.Why.{Why}
use Rattle.qasm_reader.specs.declared.reason.Why.TheVariants.{OutOfProfile, UnknownName, Redeclared, UnknownRegister, IndexOutOfRange, WrongCount, SizesDiffer, RepeatedQubit, TooManyItems, OffGrid, Measured, TooManyQubits, TooManyGates}
use Rattle.qasm_gates.specs.Gates.{Basic, Item, Meaning, Named, up_to}
use Rattle.qasm_gates.specs.Private.Counts.{count_of, items_done}
use Rattle.qasm_gates.proofs.Done.{counted_does}
use Rattle.qasm_reader.specs.Acts.{Act, nothing, declares, measures, applies, Target, registers, measured, qubit_count, qubits_in, gates, gates_in, item_count, definitions, product, target, targets, wholes, place_count, qubits_at, qubits_of, is_among}
use Rattle.qasm_reader.specs.Calls.{gate_named, listed}
use Rattle.qasm_reader.specs.Profile.{leaves}
use Rattle.qasm_reader.specs.Reasons.{Calling, is_unknown, is_beyond, no_size, miscounts}
use Rattle.qasm_reader.specs.Private.Meanings.{meaning_of}
use Rattle.qasm_reader.specs.Private.Scope.{found_as, both_found, touches, differ, has_twice, other_count}
use Rattle.qasm_reader.proofs.Deciding.{err_in, off_in, refusal_of, if_all, if_two, act_for, exceeds, tests, first_of}
use Rattle.qasm_reader.specs.Private.Drafts.{Draft, draft_of, with_measured, measured_on, counted_on, judged, applied, call_on, step}
use Rattle.qasm_reader.proofs.Growing.{qubit_count_more, gates_more, length_product, flagged_is}
use Rattle.qasm_reader.proofs.Looking.{has_target, targets_known}
use Rattle.std.proofs.Math.Bool.{or-false}
use Rattle.std.proofs.lemmas.Bool.{le-ltb}

-- why a statement is refused, if it is
abbrev pub why_of : Result Draft Why → Option Why
why_of (Ok d) = None
why_of (Err why) = Some why

-- where a test doesn't hold
why_past : (b : Bool) (w : Why) (r : Result Draft Why) (o : Option Why) → (b ≡ false → why_of r ≡ o) → why_of (cond b (Err w) r) ≡ cond b (Some w) o
why_past true w r o e = refl
why_past false w r o e = e refl

why_cond : (b : Bool) (w : Why) (r : Result Draft Why) (o : Option Why) → why_of r ≡ o → why_of (cond b (Err w) r) ≡ cond b (Some w) o
why_cond b w r o e = why_past b w r o (λ _. e)

cond_is : (b c : Bool) (w : Why) (o p : Option Why) → b ≡ c → o ≡ p → cond b (Some w) o ≡ cond c (Some w) p
cond_is b c w o p e f = ap (λ x. cond x (Some w) o) e ∙ ap (cond c (Some w)) f

passed : (b : Bool) (w : Why) (o p : Option Why) → b ≡ false → o ≡ p → o ≡ cond b (Some w) p
passed b w o p e f = f ∙ ap (λ x. cond x (Some w) p) (sym e)

any_same : {X : Type 0} (f g : X → Bool) → ((x : X) → f x ≡ g x) → (xs : List X) → list_any f xs ≡ list_any g xs
any_same f g e [] = refl
any_same f g e (x ∷ xs) = ap (λ b. b || list_any f xs) (e x) ∙ ap (λ b. g x || b) (any_same f g e xs)

module _ (limit : ℕ) (before : List Act) (few : qubit_count before ≤ limit) (few_gates : length (gates before) ≤ 1000000) (marked : All (λ q. q < qubit_count before) (measured before)) where
  -- no more qubits, and no more gates
  same_qubits : (act : Act) → qubits_in act ≡ 0 → nat_lt limit (qubit_count (before ++ act ∷ [])) ≡ false
  same_qubits act e = let m = qubit_count_more before act in le-ltb limit _ (omega arith)

  same_gates : (act : Act) → gates_in act ≡ [] → nat_lt 1000000 (length (gates (before ++ act ∷ []))) ≡ false
  same_gates act e =
      let m : length (gates (before ++ act ∷ [])) ≡ length (gates before) + 0 = ap length (gates_more before act) ∙ length-append (gates before) (gates_in act) ∙ ap (λ gs. length (gates before) + length gs) e in
      le-ltb 1000000 _ (omega arith)

  -- the tests of the limits, where there are no more qubits and gates
  at_last : (act : Act) → qubits_in act ≡ 0 → gates_in act ≡ []
      → None ≡ cond (nat_lt limit (qubit_count (before ++ act ∷ []))) (Some TooManyQubits) (cond (nat_lt 1000000 (length (gates (before ++ act ∷ [])))) (Some TooManyGates) None)
  at_last act e g = passed _ TooManyQubits None _ (same_qubits act e) (passed _ TooManyGates None None (same_gates act g) refl)

  counted_gates : (count : ℕ) (items : List Item) (ts : List Target) → length (gates (before ++ applies count items ts ∷ [])) ≡ length (gates before) + length items * place_count ts
  counted_gates count items ts =
      ap length (gates_more before (applies count items ts)) ∙ length-append (gates before) (product items ts) ∙ ap (λ n. length (gates before) + n) (length_product items ts)

  -- what is told of a statement
  abbrev Is : Statement → Type 0
  Is s = why_of (step limit (draft_of before) (definitions before) s) ≡ first_of (tests limit before s)

  told_include : (text : List ℕ) → Is (include text)
  told_include text =
      why_cond _ OutOfProfile _ _ (at_last nothing refl refl)
      ∙ cond_is _ _ OutOfProfile _ _ (sym (or-false (not (bytes_eq text (codes "\"qelib1.inc\""))))) refl

  told_qubits : (name size : List ℕ) → Is (qubits name size)
  told_qubits name size =
      why_cond _ Redeclared _ _ (why_cond _ IndexOutOfRange _ _ (why_cond _ TooManyQubits _ None refl)
      ∙ cond_is _ _ IndexOutOfRange _ _ (sym (or-false (no_size (decimal size))))
      (cond_is _ _ TooManyQubits None _ (ap (nat_lt limit) (sym (qubit_count_more before (declares true name (decimal size)))))
      (passed _ TooManyGates None None (same_gates (declares true name (decimal size)) refl) refl)))

  told_bits : (name size : List ℕ) → Is (bits name size)
  told_bits name size =
      why_cond _ Redeclared _ _ (why_cond _ IndexOutOfRange _ None refl
      ∙ cond_is _ _ IndexOutOfRange None _ (sym (or-false (no_size (decimal size)))) (at_last (declares false name (decimal size)) refl refl))

  told_barrier : (all : List Argument) → Is (barrier all)
  told_barrier all =
      why_cond _ UnknownRegister _ _ (why_cond _ IndexOutOfRange _ _ (at_last nothing refl refl)
      ∙ cond_is _ _ IndexOutOfRange _ _ (sym (or-false (list_any (is_beyond (registers before)) all))) refl)
      ∙ cond_is _ _ UnknownRegister _ _ (sym (or-false (list_any (is_unknown (registers before) true) all))) refl

  -- the two sides of a measure, by what is found of them
  abbrev after_known : Option Target → Option Target → Option Why
  after_known x y =
      cond (if_two x y other_count) (Some SizesDiffer)
      (cond (exceeds limit (option_map measures x) (λ act. qubit_count (before ++ act ∷ []))) (Some TooManyQubits)
      (cond (exceeds 1000000 (option_map measures x) (λ act. length (gates (before ++ act ∷ [])))) (Some TooManyGates) None))

  abbrev told_as : Bool → Bool → Bool → Bool → Option Target → Option Target → Option Why
  told_as u v b c x y = cond ((u || false) || (v || false)) (Some UnknownRegister) (cond ((b || false) || (c || false)) (Some IndexOutOfRange) (after_known x y))

  sides : (u v b c : Bool) (x y : Option Target) → (u ≡ false → is_some x ≡ true) → (v ≡ false → is_some y ≡ true)
      → why_of (measured_on (draft_of before) (both_found (found_as u b x) (found_as v c y))) ≡ told_as u v b c x y
  sides true v b c x y k l = refl
  sides false v b c None y k l = absurd (let q : false ≡ true = k refl in cc)
  sides false true true c (Some f) y k l = refl
  sides false true false c (Some f) y k l = refl
  sides false false b c (Some f) None k l = absurd (let q : false ≡ true = l refl in cc)
  sides false false true true (Some f) (Some t) k l = refl
  sides false false true false (Some f) (Some t) k l = refl
  sides false false false true (Some f) (Some t) k l = refl
  sides false false false false (Some f) (Some t) k l = why_cond (other_count f t) SizesDiffer (Ok (with_measured (draft_of before) (qubits_of f))) _ (at_last (measures f) refl refl)

  told_measure : (from to : Argument) → Is (measure from to)
  told_measure from to =
      sides (is_unknown (registers before) true from) (is_unknown (registers before) false to) (is_beyond (registers before) from) (is_beyond (registers before) to)
      (target (registers before) from) (target (registers before) to) (has_target (registers before) true from) (has_target (registers before) false to)

  -- a call has a measured qubit
  touched : (ts : List Target) → touches (draft_of before).measured ts ≡ list_any (λ place. list_any (is_among (measured before)) (qubits_at ts place)) (up_to (place_count ts))
  touched ts =
      any_same _ _ (λ place. any_same _ _ (λ q. flagged_is (qubit_count before) (measured before) q marked) (qubits_at ts place)) (up_to (place_count ts))

  -- the tests of a call of what it means, by how many gates there are
  abbrev after_count : Named → List Basic → List Target → Option ℕ → Option Why
  after_count called basics ts x =
      cond (is_none x) (Some OffGrid)
      (cond (list_any (λ place. list_any (is_among (measured before)) (qubits_at ts place)) (up_to (place_count ts))) (Some Measured)
      (cond (exceeds limit (option_and_then (λ n. Some (applies called.items (items_done basics) ts)) x) (λ act. qubit_count (before ++ act ∷ []))) (Some TooManyQubits)
      (cond (exceeds 1000000 (option_and_then (λ n. Some (applies called.items (items_done basics) ts)) x) (λ act. length (gates (before ++ act ∷ [])))) (Some TooManyGates) None)))

  told_count : (called : Named) (basics : List Basic) (ts : List Target) (items : ℕ) (x : Option ℕ) → count_of basics ≡ x
      → why_of (option_map_or (λ n. counted_on (draft_of before) items n basics ts) x (Err OffGrid)) ≡ after_count called basics ts x
  told_count called basics ts items None e = refl
  told_count called basics ts items (Some n) e =
      why_cond _ Measured _ _ (why_cond _ TooManyGates _ None refl)
      ∙ cond_is _ _ Measured _ _ (touched ts)
      (passed _ TooManyQubits _ _ (same_qubits (applies called.items (items_done basics) ts) refl)
      (cond_is _ _ TooManyGates None None
      (ap (λ k. nat_lt 1000000 (length (gates before) + k * place_count ts)) (sym (counted_does basics n e).1) ∙ ap (nat_lt 1000000) (sym (counted_gates called.items (items_done basics) ts))) refl))

  -- the tests of a call after its counts
  abbrev after_meaning : Named → Meaning → List Target → Option Why
  after_meaning called m ts =
      cond (is_some (err_in m)) (Some (refusal_of (err_in m)))
      (cond (off_in m) (Some OffGrid)
      (cond (list_any (λ place. list_any (is_among (measured before)) (qubits_at ts place)) (up_to (place_count ts))) (Some Measured)
      (cond (exceeds limit (act_for called m (Some ts)) (λ act. qubit_count (before ++ act ∷ []))) (Some TooManyQubits)
      (cond (exceeds 1000000 (act_for called m (Some ts)) (λ act. length (gates (before ++ act ∷ [])))) (Some TooManyGates) None))))

  told_meaning : (called : Named) (m : Meaning) (ts : List Target) (items : ℕ) → why_of (judged (draft_of before) items m ts) ≡ after_meaning called m ts
  told_meaning called (Err e) ts items = refl
  told_meaning called (Ok basics) ts items = told_count called basics ts items (count_of basics) refl

  module _ (name : List ℕ) (angles : Option (List (List Lexeme))) (all : List Argument) where
    -- the call as it is written
    abbrev as_written : Calling
    as_written = record { name = name; arguments = length all; angles = length (listed angles) }

    -- the tests of a call of what its name stands for, with its targets
    abbrev after_counts : Option Named → Option (List Target) → Option Why
    after_counts named x =
        cond (if_all x (λ ts. differ (wholes ts))) (Some SizesDiffer)
        (cond (if_all x (λ ts. list_any (λ place. has_twice (qubits_at ts place)) (up_to (place_count ts)))) (Some RepeatedQubit)
        (cond (option_map_or (λ n. nat_lt 4000000 (item_count before + n)) (option_and_then (λ called. option_map (λ ts. called.items * place_count ts) x) named) false) (Some TooManyItems)
        (cond (is_some (option_and_then (λ called. err_in (meaning_of called (listed angles))) named)) (Some (refusal_of (option_and_then (λ called. err_in (meaning_of called (listed angles))) named)))
        (cond (option_map_or (λ called. off_in (meaning_of called (listed angles))) named false) (Some OffGrid)
        (cond (if_all x (λ ts. list_any (λ place. list_any (is_among (measured before)) (qubits_at ts place)) (up_to (place_count ts)))) (Some Measured)
        (cond (exceeds limit (option_and_then (λ called. act_for called (meaning_of called (listed angles)) x) named) (λ act. qubit_count (before ++ act ∷ []))) (Some TooManyQubits)
        (cond (exceeds 1000000 (option_and_then (λ called. act_for called (meaning_of called (listed angles)) x) named) (λ act. length (gates (before ++ act ∷ [])))) (Some TooManyGates) None)))))))

    abbrev of_named : Option Named → Option Why
    of_named named =
        cond (not (is_some named) || false) (Some UnknownName)
        (cond (list_any (is_unknown (registers before) true) all || false) (Some UnknownRegister)
        (cond (list_any (is_beyond (registers before)) all || false) (Some IndexOutOfRange)
        (cond (miscounts named as_written || false) (Some WrongCount) (after_counts named (targets (registers before) all)))))

    told_applied : (called : Named) (ts : List Target) → why_of (applied (draft_of before) called (meaning_of called (listed angles)) ts) ≡ after_counts (Some called) (Some ts)
    told_applied called ts =
        why_cond _ SizesDiffer _ _ (why_cond _ RepeatedQubit _ _ (why_cond _ TooManyItems _ _ (told_meaning called (meaning_of called (listed angles)) ts (called.items * place_count ts))))

    told_named : (named : Option Named) → why_of (call_on (draft_of before) named (listed angles) all) ≡ of_named named
    told_named None = refl
    told_named (Some called) =
        why_past _ UnknownRegister _ _ (λ u. why_cond _ IndexOutOfRange _ _ (why_cond _ WrongCount _ _
        (let ts = targets_known (registers before) all u in
        ap (λ x. why_of (option_map_or (applied (draft_of before) called (meaning_of called (listed angles))) x (Err UnknownRegister))) ts.1 ∙ told_applied called ts.0 ∙ sym (ap (after_counts (Some called)) ts.1))
        ∙ cond_is _ _ WrongCount _ _ (sym (or-false (miscounts (Some called) as_written))) refl)
        ∙ cond_is _ _ IndexOutOfRange _ _ (sym (or-false (list_any (is_beyond (registers before)) all))) refl)
        ∙ cond_is _ _ UnknownRegister _ _ (sym (or-false (list_any (is_unknown (registers before) true) all))) refl

    told_call : leaves before name ≡ false → Is (call name angles all)
    told_call kept = told_named (gate_named before name) ∙ passed _ OutOfProfile _ _ (ap (λ b. b || false) kept) refl

  pub told : (s : Statement) → leaves before (first_word s) ≡ is_left_out s → Is s
  told version k = at_last nothing refl refl
  told (include text) k = told_include text
  told (qubits name size) k = told_qubits name size
  told (bits name size) k = told_bits name size
  told (barrier all) k = told_barrier all
  told (measure from to) k = told_measure from to
  told (call name angles all) k = told_call name angles all k
  told (definition name params formals lines) k = refl
  told (left_out name more end) k = refl
