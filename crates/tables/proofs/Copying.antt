-- The keys of a list of places, added one after the other to a table that was empty.
use Rattle.std.proofs.Common.{◌≡◌, ◌≢◌, ℕ, zero, suc, ◌+◌, ◌<◌, ◌≤◌, Bool, true, false, cond, List, [], ◌∷◌, ◌++◌, map, length, take, Some, None, inl, inr, refl, sym, ◌∙◌, ap, arith, get_or}
use Rattle.std.proofs.lemmas.Bool.{cases_Bool, cond-true, cond-false, both_ways}
use Rattle.std.proofs.lemmas.List.{take_more, append-nil, length-append, length-map, length-take-le}
use Rattle.std.specs.Map.{lookup}
use Rattle.tables.specs.Probing.{Slot, free, gone, holds, entry_of, entries_of, AreApart}
use Rattle.tables.proofs.Probing.{held, length_entry, held_within}
use Rattle.tables.proofs.Searching.{IsTestOf, find_absent, at_slots, at_take}

push_here : {K : Type 0} (e : K → Bool) (es : List (K × ℕ)) (k : K) (v : ℕ) → lookup e es ≡ None → e k ≡ true → lookup e (es ++ (k, v) ∷ []) ≡ Some v
push_here e [] k v none is = cond-true (e k) (Some v) None is
push_here e (x ∷ es) k v none is =
    elim (cases_Bool (e x.0)) [
      | inl y ↦ let bad : Some x.1 ≡ None = sym (cond-true (e x.0) (Some x.1) (lookup e es) y) ∙ none in absurd (cc)
      | inr n ↦ cond-false (e x.0) (Some x.1) (lookup e (es ++ (k, v) ∷ [])) n ∙ push_here e es k v (sym (cond-false (e x.0) (Some x.1) (lookup e es) n) ∙ none) is
    ]

push_other : {K : Type 0} (e : K → Bool) (es : List (K × ℕ)) (k : K) (v : ℕ) → e k ≡ false → lookup e (es ++ (k, v) ∷ []) ≡ lookup e es
push_other e [] k v is = cond-false (e k) (Some v) None is
push_other e (x ∷ es) k v is = ap (λ o. cond (e x.0) (Some x.1) o) (push_other e es k v is)

pub entries_push : {K : Type 0} (xs : List (Slot K)) (s : Slot K) → entries_of (xs ++ s ∷ []) ≡ entries_of xs ++ entry_of s []
unfolding entries_of
entries_push [] s = refl
entries_push (free ∷ xs) s = entries_push xs s
entries_push (gone ∷ xs) s = entries_push xs s
entries_push (holds k n ∷ xs) s = ap (λ es. (k, n) ∷ es) (entries_push xs s)

no_entry : {K : Type 0} (s : Slot K) → held s ≡ 0 → entry_of s [] ≡ []
no_entry free none = refl
no_entry gone none = refl
no_entry (holds k v) none = absurd (omega (arith, none))

-- both lists of entries have the same value for each key
abbrev pub SameEntries : {K : Type 0} → (K → K → Bool) → List (K × ℕ) → List (K × ℕ) → Type 0
SameEntries {K} test es fs = (k : K) → lookup (test k) fs ≡ lookup (test k) es

-- the entries fs are es with the value v for the key k
pub record PutsEntry {K : Type 0} (test : K → K → Bool) (es fs : List (K × ℕ)) (k : K) (v : ℕ) : Type 0 where
  pub here : lookup (test k) fs ≡ Some v
  pub others : (j : K) → j ≢ k → lookup (test j) fs ≡ lookup (test j) es

module _ {P K : Type 0} (slot : P → Slot K) (d : P) (blank : slot d ≡ free) where
  slots_push : (ps : List P) (p : P) → map slot (ps ++ p ∷ []) ≡ map slot ps ++ slot p ∷ []
  slots_push [] p = refl
  slots_push (q ∷ ps) p = ap (λ xs. slot q ∷ xs) (slots_push ps p)

  pub slots_more : (ps : List P) (i : ℕ) → i < length ps → map slot (take (i + 1) ps) ≡ map slot (take i ps) ++ slot (get_or ps i d) ∷ []
  slots_more ps i lt = ap (λ qs. map slot qs) (take_more ps i d lt) ∙ slots_push (take i ps) (get_or ps i d)

  -- how many entries one more place makes
  pub count_more : (ps : List P) (i : ℕ) → i < length ps → length (entries_of (map slot (take (i + 1) ps))) ≡ length (entries_of (map slot (take i ps))) + held (slot (get_or ps i d))
  count_more ps i lt =
      let s = slot (get_or ps i d) in
      let e = ap (λ xs. length (entries_of xs)) (slots_more ps i lt) ∙ ap length (entries_push (map slot (take i ps)) s) in
      let a = length-append (entries_of (map slot (take i ps))) (entry_of s []) in
      let b = length_entry s [] in
      omega (arith, e, a, b)

  pub count_take : (ps : List P) (i : ℕ) → length (entries_of (map slot (take i ps))) ≤ length (entries_of (map slot ps))
  unfolding entries_of
  count_take [] zero = omega arith
  count_take [] (suc i) = omega arith
  count_take (p ∷ ps) zero = omega arith
  count_take (p ∷ ps) (suc i) =
      let h = count_take ps i in
      let a = length_entry (slot p) (entries_of (map slot ps)) in
      let b = length_entry (slot p) (entries_of (map slot (take i ps))) in
      omega (arith, h, a, b)

  -- a key is not among the places before its own
  pub first_new : (e : K → Bool) (ps : List P) (i : ℕ) (k : K) (v : ℕ) → IsTestOf e k → AreApart (map slot ps) → i < length ps → slot (get_or ps i d) ≡ holds k v → lookup e (entries_of (map slot (take i ps))) ≡ None
  first_new e ps i k v t apart lt is =
      find_absent e k t (map slot (take i ps)) (λ j w at_j.
      let len = length-take-le i ps (omega (arith, lt)) in
      let all = length-map (take i ps) slot in
      let within = held_within (map slot (take i ps)) j k w at_j in
      let below : j < i = omega (arith, len, all, within) in
      let same = apart j i k w v (sym (at_take slot d blank ps i j below) ∙ at_j) (at_slots slot d blank ps i ∙ is) in
      omega (arith, below, same))

  -- a place that holds no key adds nothing
  pub copies_none : (test : K → K → Bool) (es : List (K × ℕ)) (ps : List P) (i : ℕ) → i < length ps → held (slot (get_or ps i d)) ≡ 0 → SameEntries test (entries_of (map slot (take i ps))) es → SameEntries test (entries_of (map slot (take (i + 1) ps))) es
  copies_none test es ps i lt none same j =
      rw (slots_more ps i lt, entries_push (map slot (take i ps)) (slot (get_or ps i d)), no_entry (slot (get_or ps i d)) none, append-nil) (same j)

  -- a place that holds a key, which is added
  pub copies_held : (test : K → K → Bool) → ((k : K) → IsTestOf (test k) k) → (es fs : List (K × ℕ)) (ps : List P) (i : ℕ) (k : K) (v : ℕ) → i < length ps → slot (get_or ps i d) ≡ holds k v → SameEntries test (entries_of (map slot (take i ps))) es → lookup (test k) es ≡ None → PutsEntry test es fs k v → SameEntries test (entries_of (map slot (take (i + 1) ps))) fs
  copies_held test tests es fs ps i k v lt is same none puts j =
      let old = entries_of (map slot (take i ps)) in
      rw (slots_more ps i lt, is, entries_push (map slot (take i ps)) (holds k v)) (
      elim (cases_Bool (test j k)) [
        | inl y ↦
            let kj : k ≡ j = (tests j).only k y in
            let none_here : lookup (test j) old ≡ None = ap (λ x. lookup (test x) old) (sym kj) ∙ sym (same k) ∙ none in
            ap (λ x. lookup (test x) fs) (sym kj) ∙ puts.here ∙ sym (push_here (test j) old k v none_here y)
        | inr n ↦
            puts.others j (λ e. both_ways (test j k) n (ap (λ x. test j x) (sym e) ∙ (tests j).its)) ∙ same j ∙ sym (push_other (test j) old k v n)
      ])
