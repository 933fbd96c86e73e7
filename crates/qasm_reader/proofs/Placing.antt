-- Arguments that pass all tests are different qubits of the draft.
use Rattle.std.proofs.Common.{◌≡◌, ◌≢◌, ◌∙◌, sym, ap, refl, subst, ◌≤◌, ◌<◌, ℕ, ◌+◌, Bool, true, false, ◌||◌, not, nat_eq, List, [], ◌∷◌, length, map, All, get_or, Option, Some, None, option_map, unwrap_or, Ok, IfSome, arith, length-drop}
use Rattle.std.specs.List.{list_any, AllByRecursion, AllPairs, cons_option}
use Rattle.std.specs.Str.{bytes_eq}
use Rattle.std.proofs.lemmas.Bool.{leb-false, not-false, or_parts, false_from_ne_true, true_from_ne_false, eqb-true}
use Rattle.std.proofs.lemmas.Bool.Decides.{Decides-eqb}
use Rattle.std.proofs.lemmas.Option.{none-some, same_Some}
use Rattle.std.proofs.lemmas.List.{length-map, length-take, take-append-drop, map-append}
use Rattle.std.proofs.lemmas.List.Elements.{All-nil, All-cons, All-replicate, All-append, All-head, All-tail}
use Rattle.std.proofs.lemmas.Map.Steps.{length-le_from_distinct_below}
use Rattle.std.proofs.lemmas.Map.Made.{IsDistinct-from_AllPairs}
use Rattle.gate_set.specs.declared.kind.Kind.{Kind}
use Rattle.gate_set.specs.Matrix.{arity_of, IsKind}
use Rattle.gate_set.specs.Shape.{IsOn}
use Rattle.qasm_lex.specs.declared.value.Value.{Value}
use Rattle.qasm_forms.specs.Statements.{Argument}
use Rattle.qasm_gates.specs.Gates.{up_to, Basic, Named, item_on, placed}
use Rattle.qasm_gates.specs.Private.Seen.{items_of}
use Rattle.qasm_gates.specs.Private.Counts.{body_of, basic_items, items_done}
use Rattle.qasm_gates.specs.Private.Proper.{IsProper, AreProper, IsGood, AreQubits}
use Rattle.qasm_gates.proofs.Builtins.{found_holds, named_fit}
use Rattle.qasm_gates.proofs.Bodied.{body_kind}
use Rattle.qasm_gates.proofs.Good.{picked_different, picked_all}
use Rattle.qasm_gates.proofs.Placed.{pick, gate_on, placed_all, placed_items}
use Rattle.qasm_reader.specs.Acts.{Register, Target, register, index_of, place_in, target, targets, wholes, place_count, qubit_at, qubits_at}
use Rattle.qasm_reader.specs.Reasons.{same_sort, is_unknown, reaches, is_beyond}
use Rattle.qasm_reader.specs.Private.Scope.{differ, has_twice, repeats}
use Rattle.qasm_reader.specs.Private.Drafts.{Draft, IsDraft, EndsWithin}
use Rattle.qasm_reader.proofs.Places.{any_there}
use Rattle.qasm_reader.proofs.Tests.{different, same_places}
use Rattle.qasm_reader.proofs.Looking.{with_first, length_targets}

-- a place of a whole register is below its size, and a single one is at any
IsInside : Option ℕ → ℕ → Type 0
IsInside None place = Unit {0}
IsInside (Some size) place = place < size

inside_single : (size : Option ℕ) (place : ℕ) → place < get_or (cons_option size []) 0 1 → IsInside size place
unfolding IsInside
inside_single None place h = tt
inside_single (Some n) place h = h

qubit_inside : (n : ℕ) (r : Register) (index : Option ℕ) (place : ℕ) → r.first + r.size ≤ n → reaches (Some r) index ≡ false → IsInside (place_in r index).size place → qubit_at place (place_in r index) < n
unfolding IsInside
qubit_inside n r None place e b h = omega arith
qubit_inside n r (Some i) place e b h = let l = leb-false r.size i b in omega arith

module _ (n : ℕ) (all : List (List ℕ × Register)) (ends : AllByRecursion (EndsWithin n) all) where
  -- a qubit of an argument is one of the draft's
  target_below : (a : Argument) (t : Target) (place : ℕ) → is_unknown all true a ≡ false → is_beyond all a ≡ false → target all a ≡ Some t → IsInside t.size place → qubit_at place t < n
  target_below a t place u b e h = by (register all a.name) refl
    where
      by : (x : Option Register) → register all a.name ≡ x → qubit_at place t < n
      by None q = absurd (none-some t (sym (ap (option_map (λ r. place_in r (index_of a.index))) q) ∙ e))
      by (Some r) q =
          let same : place_in r (index_of a.index) ≡ t = same_Some (place_in r (index_of a.index)) t (sym (ap (option_map (λ r. place_in r (index_of a.index))) q) ∙ e) in
          let quantum : r.quantum ≡ true = not-false _ (sym (ap (λ x. not (same_sort true x)) q) ∙ u) in
          let end : r.first + r.size ≤ n = (found_holds (λ (r : Register). r.quantum ≡ true → (0 < r.size) × (r.first + r.size ≤ n)) (bytes_eq a.name) all r ends q quantum).1 in
          subst (λ x. qubit_at place x < n) same
          (qubit_inside n r (index_of a.index) place end (sym (ap (λ x. reaches x (index_of a.index)) q) ∙ b) (subst (λ (x : Target). IsInside x.size place) (sym same) h))

  pub qubit_below : (a : Argument) (t : Target) → is_unknown all true a ≡ false → is_beyond all a ≡ false → target all a ≡ Some t → (place : ℕ) → place < place_count (t ∷ []) → qubit_at place t < n
  qubit_below a t u b e place h = target_below a t place u b e (inside_single t.size place h)

  module _ (places place : ℕ) (inside : place < places) where
    first_inside : (size : Option ℕ) (sizes : List ℕ) → AllByRecursion (λ m. m ≡ places) (cons_option size sizes) → IsInside size place × AllByRecursion (λ m. m ≡ places) sizes
    unfolding IsInside
    first_inside None sizes a = (tt, a)
    first_inside (Some m) sizes a = (let e = a.0 in omega arith, a.1)

    -- the qubits at a place of all arguments are the draft's
    all_below : (arguments : List Argument) (ts : List Target) → list_any (is_unknown all true) arguments ≡ false → list_any (is_beyond all) arguments ≡ false → targets all arguments ≡ Some ts
        → AllByRecursion (λ m. m ≡ places) (wholes ts) → All (λ q. q < n) (qubits_at ts place)
    all_below [] ts u b e w = subst (λ x. All (λ q. q < n) (qubits_at x place)) (same_Some [] ts e) (All-nil (λ q. q < n))
    all_below (a ∷ more) ts u b e w =
        let p = or_parts (is_unknown all true a) (list_any (is_unknown all true) more) u in
        let q = or_parts (is_beyond all a) (list_any (is_beyond all) more) b in
        let f = with_first (target all a) (targets all more) ts e in
        let i = first_inside (f.0).size (wholes f.1) (subst (λ x. AllByRecursion (λ m. m ≡ places) (wholes x)) (sym f.4) w) in
        subst (λ x. All (λ q. q < n) (qubits_at x place)) f.4
        (All-cons (λ q. q < n) (qubit_at place f.0) (qubits_at f.1 place) (target_below a f.0 place p.0 q.0 f.2 i.0) (all_below more f.1 p.1 q.1 f.3 i.1))

-- a whole register of qubits has some places
size_some : (all : List (List ℕ × Register)) (n : ℕ) → AllByRecursion (EndsWithin n) all → (a : Argument) (t : Target) → is_unknown all true a ≡ false → target all a ≡ Some t → IfSome t.size (λ n. 0 < n)
size_some all n ends a t u e = by (register all a.name) refl
  where
    by : (x : Option Register) → register all a.name ≡ x → IfSome t.size (λ n. 0 < n)
    by None q = absurd (none-some t (sym (ap (option_map (λ r. place_in r (index_of a.index))) q) ∙ e))
    by (Some r) q =
        let same : place_in r (index_of a.index) ≡ t = same_Some (place_in r (index_of a.index)) t (sym (ap (option_map (λ r. place_in r (index_of a.index))) q) ∙ e) in
        let quantum : r.quantum ≡ true = not-false _ (sym (ap (λ x. not (same_sort true x)) q) ∙ u) in
        subst (λ (x : Target). IfSome x.size (λ n. 0 < n)) same
        (place_some r (index_of a.index) (found_holds (λ (r : Register). r.quantum ≡ true → (0 < r.size) × (r.first + r.size ≤ n)) (bytes_eq a.name) all r ends q quantum).0)
      where
        place_some : (r : Register) (index : Option ℕ) → 0 < r.size → IfSome (place_in r index).size (λ n. 0 < n)
        place_some r None h = h
        place_some r (Some i) h = tt

-- what is among numbers below 64 is below 64
among_below : (qs : List ℕ) (q : ℕ) → All (λ p. p < 64) qs → list_any (nat_eq q) qs ≡ true → q < 64
among_below [] q a h = absurd cc
among_below (p ∷ qs) q a h = by (nat_eq q p) refl (among_below qs q (All-tail (λ p. p < 64) p qs a)) h
  where
    by : (b : Bool) → nat_eq q p ≡ b → (list_any (nat_eq q) qs ≡ true → q < 64) → b || list_any (nat_eq q) qs ≡ true → q < 64
    by true e more h = let l = All-head (λ p. p < 64) p qs a in let s = eqb-true q p e in omega arith
    by false e more h = more h

-- different numbers below 64 are at most 64
few_different : (qs : List ℕ) → AllPairs (λ p q. p ≢ q) qs → All (λ q. q < 64) qs → length qs ≤ 64
few_different qs d a = length-le_from_distinct_below qs 64 (IsDistinct-from_AllPairs (λ p q. Decides-eqb p q) qs d) (λ q h. among_below qs q a h)

-- a test that holds nowhere doesn't hold at a place
none_there : (f : ℕ → Bool) (place n : ℕ) → place < n → list_any f (up_to n) ≡ false → f place ≡ false
none_there f place n h e = false_from_ne_true (f place) (λ q. let t : true ≡ false = sym (any_there f place n h q) ∙ e in cc)

small : (n : ℕ) (qs : List ℕ) → n ≤ 64 → All (λ q. q < n) qs → All (λ q. q < 64) qs
small n qs h a k d lt = let b = a k d lt in omega arith

-- different qubits are those of a gate
gate_is_on : (n controls : ℕ) (kind : Kind) (qs : List ℕ) → n ≤ 64 → controls ≤ 8 → IsKind kind → length qs ≡ controls + arity_of kind → All (λ q. q < n) qs → AllPairs (λ p q. p ≢ q) qs → IsOn n (gate_on controls kind qs)
gate_is_on n controls kind qs few most power long below different =
    let whole = sym (take-append-drop controls qs) in
    record {
      placed = record {
        power = power;
        count = omega (arith, length-drop controls qs);
        few = omega (arith, length-take controls qs);
        small = subst (All (λ q. q < 64)) whole (small n qs few below);
        different = subst (AllPairs (λ p q. p ≢ q)) whole different;
      };
      below = subst (All (λ q. q < n)) whole below;
    }

-- the gates of a call of a built-in gate, by what it comes to
body_on : (n : ℕ) (qs : List ℕ) (c : Basic) → n ≤ 64 → All (λ q. q < n) qs → AllPairs (λ p q. p ≢ q) qs → IsProper (length qs) c → (x : Option (Kind × ℕ)) → body_of c.gate.base c.angles ≡ x
    → All (IsOn n) (map (placed qs) (map (item_on c.on) (unwrap_or (option_map (items_of c.gate.controls) x) [])))
body_on n qs c few below different p None e = All-nil (IsOn n)
body_on n qs c few below different p (Some b) e =
    let fit = named_fit p.named.0 c.gate p.named.1 in
    let k = body_kind c.gate.base fit.base c.angles b e in
    let long : length c.on ≡ c.gate.controls + arity_of b.0 = p.counted ∙ ap (λ m. c.gate.controls + m) (sym k.0) in
    let picked : length (pick qs c.on) ≡ c.gate.controls + arity_of b.0 = length-map c.on (λ k. get_or qs k 0) ∙ long in
    subst (All (IsOn n)) (sym (placed_items qs c.on c.gate.controls b.0 b.1 long ∙ placed_all c.gate.controls b.0 b.1 (pick qs c.on) picked))
    (All-replicate (IsOn n) b.1 _
    (gate_is_on n c.gate.controls b.0 (pick qs c.on) few fit.few k.1 picked (picked_all (λ q. q < n) qs c.on below p.below) (picked_different qs c.on different p.different p.below)))

-- the gates of calls on different qubits of the draft
pub basics_on : (n : ℕ) (qs : List ℕ) (basics : List Basic) → n ≤ 64 → All (λ q. q < n) qs → AllPairs (λ p q. p ≢ q) qs → AreProper (length qs) basics → All (IsOn n) (map (placed qs) (items_done basics))
basics_on n qs [] few below different p = All-nil (IsOn n)
basics_on n qs (c ∷ basics) few below different p =
    subst (All (IsOn n)) (sym (map-append (placed qs) (basic_items c) (items_done basics)))
    (All-append (IsOn n) _ _ (body_on n qs c few below different (All-head (IsProper (length qs)) c basics p) (body_of c.gate.base c.angles) refl)
    (basics_on n qs basics few below different (All-tail (IsProper (length qs)) c basics p)))

module _ (d : Draft) (i : IsDraft d) (arguments : List Argument) (ts : List Target) (u : list_any (is_unknown d.registers true) arguments ≡ false) (b : list_any (is_beyond d.registers) arguments ≡ false)
    (e : targets d.registers arguments ≡ Some ts) (alike : differ (wholes ts) ≡ false) where
  -- the qubits of a call at a place are the draft's
  pub place_below : (place : ℕ) → place < place_count ts → All (λ q. q < d.qubits) (qubits_at ts place)
  place_below place h = all_below d.qubits d.registers i.registers_end (place_count ts) place h arguments ts u b e (same_places (wholes ts) alike)

  pub place_different : repeats ts ≡ false → (place : ℕ) → place < place_count ts → AllPairs (λ p q. p ≢ q) (qubits_at ts place)
  place_different r place h = different (qubits_at ts place) (none_there (λ place. has_twice (qubits_at ts place)) place (place_count ts) h r)

  place_length : (place : ℕ) → length (qubits_at ts place) ≡ length arguments
  place_length place = length-map ts (qubit_at place) ∙ length_targets d.registers arguments ts e

  pub are_qubits : (n : ℕ) → length arguments ≡ n → repeats ts ≡ false → (place : ℕ) → place < place_count ts → AreQubits n (qubits_at ts place)
  are_qubits n c r place h = record { counted = place_length place ∙ c; small = small d.qubits (qubits_at ts place) i.few_qubits (place_below place h); different = place_different r place h }

  -- the gates of a call that passes all tests are on qubits of the draft
  pub call_on_qubits : (called : Named) → IsGood called → (vs : List Value) (basics : List Basic) → called.means vs ≡ Ok basics → length arguments ≡ called.arity → repeats ts ≡ false
      → (place : ℕ) → place < place_count ts → All (IsOn d.qubits) (map (placed (qubits_at ts place)) (items_done basics))
  call_on_qubits called good vs basics m c r place h =
      basics_on d.qubits (qubits_at ts place) basics i.few_qubits (place_below place h) (place_different r place h) (subst (λ n. AreProper n basics) (sym (place_length place ∙ c)) (good vs basics m))

  -- each whole register has some places
  wholes_some : (arguments : List Argument) (ts : List Target) → list_any (is_unknown d.registers true) arguments ≡ false → targets d.registers arguments ≡ Some ts → AllByRecursion (λ n. 0 < n) (wholes ts)
  wholes_some [] ts u e = subst (λ x. AllByRecursion (λ n. 0 < n) (wholes x)) (same_Some [] ts e) tt
  wholes_some (a ∷ more) ts u e =
      let p = or_parts (is_unknown d.registers true a) (list_any (is_unknown d.registers true) more) u in
      let f = with_first (target d.registers a) (targets d.registers more) ts e in
      subst (λ x. AllByRecursion (λ n. 0 < n) (wholes x)) f.4 (first_some f.0.size (wholes f.1) (size_some d.registers d.qubits i.registers_end a f.0 p.0 f.2) (wholes_some more f.1 p.1 f.3))
    where
      first_some : (size : Option ℕ) (sizes : List ℕ) → IfSome size (λ n. 0 < n) → AllByRecursion (λ n. 0 < n) sizes → AllByRecursion (λ n. 0 < n) (cons_option size sizes)
      first_some None sizes h a = a
      first_some (Some n) sizes h a = (h, a)

  places_some : 0 < place_count ts
  places_some = by (wholes ts) (wholes_some arguments ts u e)
    where
      by : (sizes : List ℕ) → AllByRecursion (λ n. 0 < n) sizes → 0 < get_or sizes 0 1
      by [] a = omega arith
      by (n ∷ sizes) a = a.0

  -- more arguments than there can be qubits have one twice
  pub many_repeat : 64 < length arguments → repeats ts ≡ true
  many_repeat h = any_there (λ place. has_twice (qubits_at ts place)) 0 (place_count ts) places_some
      (true_from_ne_false _ (λ n. (let l = few_different (qubits_at ts 0) (different (qubits_at ts 0) n) (small d.qubits (qubits_at ts 0) i.few_qubits (place_below 0 places_some)) in let s = place_length 0 in omega arith)))
