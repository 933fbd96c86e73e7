-- Searches over places, for any key and any kind of place.
use Rattle.std.proofs.Common.{◌≡◌, ◌≢◌, ℕ, zero, suc, ◌+◌, ◌-◌, ◌<◌, ◌≤◌, Bool, true, List, [], ◌∷◌, map, length, take, drop, replicate, Some, None, inl, inr, refl, sym, ◌∙◌, ap, arith, get_or}
use Rattle.std.proofs.lemmas.Bool.{cases_Bool, cases_eq, cases_lt}
use Rattle.std.proofs.lemmas.List.{length-map, get_or-drop, get_or-take, length-drop, length-take-le}
use Rattle.std.specs.Map.{lookup}
use Rattle.tables.specs.declared.probe.Probe.{Probe}
use Rattle.tables.specs.declared.probe.Probe.TheVariants.{Found, Vacant, Full}
use Rattle.tables.specs.Probing.{Slot, free, holds, entries_of, used_of, at, IsAbsent, IsProbed, ArePassed}
use Rattle.tables.specs.Searching.{ProbeMeans, LocateMeans}
use Rattle.tables.proofs.Probing.{IsOther, found_none, found_at, used_all, held_within}

-- e tells k from all other keys
pub record IsTestOf {K : Type 0} (e : K → Bool) (k : K) : Type 0 where
  pub its : e k ≡ true
  pub only : (j : K) → e j ≡ true → j ≡ k

some_none : (v : ℕ) → Some v ≡ None → ⊥
some_none v e = absurd (cc)

-- a search for one key by its test
module _ {K : Type 0} (e : K → Bool) (k : K) (t : IsTestOf e k) where
  other : (s : Slot K) → ((v : ℕ) → s ≢ holds k v) → IsOther e s
  other s ne j v is =
      elim (cases_Bool (e j)) [
        | inl y ↦ absurd (ne v (is ∙ ap (λ q. holds q v) (t.only j y)))
        | inr n ↦ n
      ]

  -- a key that stands at a place is found
  pub find_found : (home : K → ℕ) (xs : List (Slot K)) (i v : ℕ) → IsProbed home xs → at xs i ≡ holds k v → lookup e (entries_of xs) ≡ Some v
  find_found home xs i v p here = found_at e xs k i v t.its (λ j ne. other (at xs j) (λ w is. ne (p.apart j i k w v is here))) here

  -- a key that stands nowhere is not found
  pub find_absent : (xs : List (Slot K)) → IsAbsent xs k → lookup e (entries_of xs) ≡ None
  find_absent xs absent = found_none e xs (λ i. other (at xs i) (λ v. absent i v))

  -- a key that is not found stands nowhere
  pub absent_new : (home : K → ℕ) (xs : List (Slot K)) → IsProbed home xs → lookup e (entries_of xs) ≡ None → IsAbsent xs k
  absent_new home xs p new i v is = some_none v (sym (find_found home xs i v p is) ∙ new)

-- places of any kind: `slot` reads one, and reads `d` as free
module _ {P K : Type 0} (slot : P → Slot K) (d : P) (blank : slot d ≡ free) where
  pub at_slots : (ps : List P) (i : ℕ) → at (map slot ps) i ≡ slot (get_or ps i d)
  at_slots [] i = sym blank
  at_slots (p ∷ ps) zero = refl
  at_slots (p ∷ ps) (suc i) = at_slots ps i

  at_drop : (ps : List P) (s i : ℕ) → at (map slot (drop s ps)) i ≡ at (map slot ps) (s + i)
  at_drop ps s i = at_slots (drop s ps) i ∙ ap slot (get_or-drop s ps i d) ∙ sym (at_slots ps (s + i))

  pub at_take : (ps : List P) (s i : ℕ) → i < s → at (map slot (take s ps)) i ≡ at (map slot ps) i
  at_take ps s i lt = at_slots (take s ps) i ∙ ap slot (get_or-take s ps i d lt) ∙ sym (at_slots ps i)

  -- a list of places that are all passed has no place for the key
  pub absent_full : (ps : List P) (k : K) → ArePassed (map slot ps) k 0 (length ps) → IsAbsent (map slot ps) k
  absent_full ps k passed i v is =
      let len = length-map ps slot in
      let lt = held_within (map slot ps) i k v is in
      (passed i (omega arith) (omega (arith, len, lt))).1 v is

  -- where there is room, not all places are passed
  pub no_place : (ps : List P) (k : K) (room : ℕ) → ArePassed (map slot ps) k 0 (length ps) → used_of (map slot ps) + room ≤ length ps → 0 < room → ⊥
  no_place ps k room passed few some =
      let len = length-map ps slot in
      let all = used_all (map slot ps) (λ j lt. (passed j (omega arith) (omega (arith, len, lt))).0) in
      omega (arith, len, all, few, some)

  -- one more place is passed
  pub passed_more : (ps : List P) (k : K) (i : ℕ) → ArePassed (map slot ps) k 0 i → (at (map slot ps) i ≢ free) × ((v : ℕ) → at (map slot ps) i ≢ holds k v) → ArePassed (map slot ps) k 0 (i + 1)
  passed_more ps k i passed here j from to =
      elim (cases_eq j i) [
        | inl e ↦ ((λ x. here.0 (ap (λ y. at (map slot ps) y) (sym e) ∙ x)), (λ v x. here.1 v (ap (λ y. at (map slot ps) y) (sym e) ∙ x)))
        | inr ne ↦ passed j from (omega (arith, to, ne))
      ]

  -- the part behind the start
  passed_drop : (ps : List P) (s : ℕ) (k : K) (m : ℕ) → ArePassed (map slot (drop s ps)) k 0 m → ArePassed (map slot ps) k s (s + m)
  passed_drop ps s k m passed j from to =
      let h = passed (j - s) (omega arith) (omega (arith, from, to)) in
      let e : s + (j - s) ≡ j = omega (arith, from) in
      let same : at (map slot (drop s ps)) (j - s) ≡ at (map slot ps) j = at_drop ps s (j - s) ∙ ap (λ x. at (map slot ps) x) e in
      ((λ x. h.0 (same ∙ x)), (λ v x. h.1 v (same ∙ x)))

  -- the part before the start
  passed_take : (ps : List P) (s : ℕ) (k : K) (m : ℕ) → m ≤ s → ArePassed (map slot (take s ps)) k 0 m → ArePassed (map slot ps) k 0 m
  passed_take ps s k m le passed j from to =
      let h = passed j (omega arith) to in
      let same = at_take ps s j (omega (arith, le, to)) in
      ((λ x. h.0 (same ∙ x)), (λ v x. h.1 v (same ∙ x)))

  pub found_first : (ps : List P) (s : ℕ) (k : K) (i n : ℕ) → s ≤ length ps → ProbeMeans slot (drop s ps) k (Found i n) → LocateMeans slot ps s k (Found (s + i) n)
  found_first ps s k i n le h =
      let len = length-drop s ps in let lt = h.0 in
      (omega (arith, len, lt, le), sym (at_drop ps s i) ∙ h.1)

  pub vacant_first : (ps : List P) (s : ℕ) (k : K) (i : ℕ) → s ≤ length ps → ProbeMeans slot (drop s ps) k (Vacant i) → LocateMeans slot ps s k (Vacant (s + i))
  vacant_first ps s k i le h =
      let len = length-drop s ps in let lt = h.0 in let all = length-map ps slot in
      record {
        within = omega (arith, len, lt, le, all);
        is = sym (at_drop ps s i) ∙ h.1;
        up = passed_drop ps s k i h.2;
        high = λ wrap. absurd (omega (arith, wrap));
        low = λ wrap. absurd (omega (arith, wrap));
      }

  -- the part before the start, once the part behind it was passed
  pub second : (ps : List P) (s : ℕ) (k : K) (r : Probe) → s ≤ length ps → ProbeMeans slot (drop s ps) k Full → ProbeMeans slot (take s ps) k r → LocateMeans slot ps s k r
  second ps s k (Found i n) le passed h =
      let len = length-take-le s ps le in let lt = h.0 in
      (omega (arith, len, lt, le), sym (at_take ps s i (omega (arith, len, lt))) ∙ h.1)
  second ps s k (Vacant i) le passed h =
      let len = length-take-le s ps le in let lt = h.0 in let all = length-map ps slot in let rest = length-drop s ps in
      let behind = passed_drop ps s k (length (drop s ps)) passed in
      record {
        within = omega (arith, len, lt, le, all);
        is = sym (at_take ps s i (omega (arith, len, lt))) ∙ h.1;
        up = λ j from to. absurd (omega (arith, len, lt, from, to));
        high = λ wrap j from to. behind j from (omega (arith, all, rest, to, le));
        low = λ wrap. passed_take ps s k i (omega (arith, len, lt)) h.2;
      }
  second ps s k Full le passed h =
      let len = length-take-le s ps le in let rest = length-drop s ps in
      let behind = passed_drop ps s k (length (drop s ps)) passed in
      let before = passed_take ps s k (length (take s ps)) (omega (arith, len)) h in
      λ j from to. elim (cases_lt j s) [
        | inl lt ↦ before j from (omega (arith, len, lt))
        | inr ge ↦ behind j ge (omega (arith, rest, to, le))
      ]

  -- so many blank places are free
  pub at_replicate : (n i : ℕ) (p : P) → slot p ≡ free → at (map slot (replicate n p)) i ≡ free
  at_replicate zero i p is = refl
  at_replicate (suc n) zero p is = is
  at_replicate (suc n) (suc i) p is = at_replicate n i p is
