-- Places that are written, for any key and any kind of place.
use Rattle.std.proofs.Common.{◌≡◌, ℕ, ◌+◌, ◌<◌, ◌≤◌, Bool, false, List, map, length, set, Some, None, inl, inr, sym, ◌∙◌, ap, arith}
use Rattle.std.proofs.lemmas.List.{get_or-set_same, length-set, length-map, map-set}
use Rattle.std.specs.Map.{lookup}
use Rattle.tables.specs.Probing.{Slot, free, gone, holds, entries_of, used, used_of, at, IsAbsent, IsProbed, IsFirstFree}
use Rattle.tables.proofs.Probing.{held, found-set, used-set, held-set, held_within, probed_add, probed_remove, probed_vacate, entries_vacate, entry_cases, absent_vacant}
use Rattle.tables.proofs.Searching.{IsTestOf, find_found, find_absent}

-- what one test says of another slot's key
unlike : {K : Type 0} (e : K → Bool) (k j : K) (v w : ℕ) → e k ≡ false → holds k v ≡ holds j w → e j ≡ false
unlike {K} e k j v w is same = let h : k ≡ j = cc in ap e (sym h) ∙ is

free_holds : {K : Type 0} (s : Slot K) (k : K) (v : ℕ) → s ≡ free → s ≡ holds k v → ⊥
free_holds s k v e h = absurd (cc)

gone_holds : {K : Type 0} (k : K) (v : ℕ) → gone ≡ holds k v → ⊥
gone_holds k v h = absurd (cc)

-- a key is written to the free place where its search ended
module _ {P K : Type 0} (home : ℕ → K → ℕ) (slot : P → Slot K) (ps : List P) (q : P) (k : K) (v i : ℕ) (is : slot q ≡ holds k v) (p : IsProbed (home (length ps)) (map slot ps)) (first : IsFirstFree (map slot ps) k (home (length ps) k) i) where
  pub add_probed : IsProbed (home (length (set ps i q))) (map slot (set ps i q))
  add_probed =
      rw (length-set, map-set, is)
      (probed_add (home (length ps)) (map slot ps) i k v p first (absent_vacant (home (length ps)) (map slot ps) k i p first))

  pub add_used : used_of (map slot (set ps i q)) ≡ used_of (map slot ps) + 1
  add_used =
      let h = used-set (map slot ps) i (holds k v) first.within in
      let here : used (at (map slot ps) i) ≡ 0 = ap (λ s. used s) first.is in
      rw (map-set, is) (omega (arith, h, here))

  pub add_count : length (entries_of (map slot (set ps i q))) ≡ length (entries_of (map slot ps)) + 1
  add_count =
      let h = held-set (map slot ps) i (holds k v) first.within in
      let here : held (at (map slot ps) i) ≡ 0 = ap (λ s. held s) first.is in
      rw (map-set, is) (omega (arith, h, here))

  -- the key is found with its value
  pub add_here : (e : K → Bool) → IsTestOf e k → lookup e (entries_of (map slot (set ps i q))) ≡ Some v
  add_here e t =
      rw (map-set, is)
      (find_found e k t (home (length ps)) (set (map slot ps) i (holds k v)) i v
      (probed_add (home (length ps)) (map slot ps) i k v p first (absent_vacant (home (length ps)) (map slot ps) k i p first))
      (get_or-set_same (map slot ps) i (holds k v) free first.within))

  -- all other keys are found as before
  pub add_others : (e : K → Bool) → e k ≡ false → lookup e (entries_of (map slot (set ps i q))) ≡ lookup e (entries_of (map slot ps))
  add_others e not = rw (map-set, is) (found-set e (map slot ps) i (holds k v) (λ j w at_i. absurd (free_holds (at (map slot ps) i) j w first.is at_i)) (λ j w h. unlike e k j v w not h))

-- a key is taken from its place
module _ {P K : Type 0} (home : ℕ → K → ℕ) (slot : P → Slot K) (ps : List P) (q : P) (k : K) (v i : ℕ) (is : slot q ≡ gone) (p : IsProbed (home (length ps)) (map slot ps)) (here : at (map slot ps) i ≡ holds k v) where
  pub remove_probed : IsProbed (home (length (set ps i q))) (map slot (set ps i q))
  remove_probed = rw (length-set, map-set, is) (probed_remove (home (length ps)) (map slot ps) i p (held_within (map slot ps) i k v here))

  pub remove_used : used_of (map slot (set ps i q)) ≡ used_of (map slot ps)
  remove_used =
      let h = used-set (map slot ps) i gone (held_within (map slot ps) i k v here) in
      let was : used (at (map slot ps) i) ≡ 1 = ap (λ s. used s) here in
      rw (map-set, is) (omega (arith, h, was))

  pub remove_count : length (entries_of (map slot (set ps i q))) + 1 ≡ length (entries_of (map slot ps))
  remove_count =
      let h = held-set (map slot ps) i gone (held_within (map slot ps) i k v here) in
      let was : held (at (map slot ps) i) ≡ 1 = ap (λ s. held s) here in
      rw (map-set, is) (omega (arith, h, was))

  removed_absent : IsAbsent (set (map slot ps) i gone) k
  removed_absent m w at_m =
      elim (entry_cases (map slot ps) i m gone (holds k w) (held_within (map slot ps) i k v here) at_m) [
        | inl x ↦ gone_holds k w x.1
        | inr x ↦ x.0 (p.apart m i k w v x.1 here)
      ]

  -- the key is not found any more
  pub remove_here : (e : K → Bool) → IsTestOf e k → lookup e (entries_of (map slot (set ps i q))) ≡ None
  remove_here e t = rw (map-set, is) (find_absent e k t (set (map slot ps) i gone) removed_absent)

  -- all other keys are found as before
  pub remove_others : (e : K → Bool) → e k ≡ false → lookup e (entries_of (map slot (set ps i q))) ≡ lookup e (entries_of (map slot ps))
  remove_others e not = rw (map-set, is) (found-set e (map slot ps) i gone (λ j w at_i. unlike e k j v w not (sym here ∙ at_i)) (λ j w h. absurd (gone_holds j w h)))

-- a place from which a key was taken becomes free
module _ {P K : Type 0} (slot : P → Slot K) (ps : List P) (q : P) (i : ℕ) (is : slot q ≡ free) (lt : i < length ps) (here : at (map slot ps) i ≡ gone) where
  pub vacate_used : used_of (map slot (set ps i q)) + 1 ≡ used_of (map slot ps)
  vacate_used =
      let h = used-set (map slot ps) i free (omega (arith, lt, length-map ps slot)) in
      let was : used (at (map slot ps) i) ≡ 1 = ap (λ s. used s) here in
      rw (map-set, is) (omega (arith, h, was))

  pub vacate_entries : entries_of (map slot (set ps i q)) ≡ entries_of (map slot ps)
  vacate_entries = rw (map-set, is) (entries_vacate (map slot ps) i here)

  pub vacate_probed : (next : ℕ) → (i + 1 < length ps → next ≡ i + 1) → (length ps ≤ i + 1 → next ≡ 0) → at (map slot ps) next ≡ free → (home : K → ℕ) → IsProbed home (map slot ps) → IsProbed home (map slot (set ps i q))
  vacate_probed next more last vacant home p =
      let len = length-map ps slot in
      rw (map-set, is)
      (probed_vacate home (map slot ps) i next (omega (arith, lt, len)) (λ gt. more (omega (arith, len, gt))) (λ le. last (omega (arith, len, le))) here vacant p)
