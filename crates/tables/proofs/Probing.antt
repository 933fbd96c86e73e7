-- What an entry written to a place, or taken from it, leaves of a table.
use Rattle.std.proofs.Common.{◌≡◌, ◌≢◌, ◌⊎◌, ℕ, zero, suc, ◌+◌, ◌<◌, ◌≤◌, Bool, true, false, cond, List, [], ◌∷◌, length, set, Some, None, inl, inr, refl, sym, ◌∙◌, ap, arith}
use Rattle.std.proofs.lemmas.Bool.{cases_eq, cases_lt, cond-true, cond-false}
use Rattle.std.proofs.lemmas.List.{get_or-set_same, get_or-set_other, length-set}
use Rattle.std.specs.Map.{lookup}
use Rattle.tables.specs.Probing.{Slot, free, gone, holds, entry_of, entries_of, used, used_of, at, IsAbsent, IsProbed, IsFirstFree}

-- the slot doesn't hold a key that passes the test
abbrev pub IsOther : {K : Type 0} → (K → Bool) → Slot K → Type 0
IsOther {K} e s = (k : K) (v : ℕ) → s ≡ holds k v → e k ≡ false

skip : {K : Type 0} (e : K → Bool) (s : Slot K) (es : List (K × ℕ)) → IsOther e s → lookup e (entry_of s es) ≡ lookup e es
skip e free es other = refl
skip e gone es other = refl
skip e (holds k v) es other = cond-false (e k) (Some v) (lookup e es) (other k v refl)

same_behind : {K : Type 0} (e : K → Bool) (s : Slot K) (es fs : List (K × ℕ)) → lookup e es ≡ lookup e fs → lookup e (entry_of s es) ≡ lookup e (entry_of s fs)
same_behind e free es fs same = same
same_behind e gone es fs same = same
same_behind e (holds k v) es fs same = ap (λ o. cond (e k) (Some v) o) same

pub found_none : {K : Type 0} (e : K → Bool) (xs : List (Slot K)) → ((i : ℕ) → IsOther e (at xs i)) → lookup e (entries_of xs) ≡ None
unfolding entries_of
found_none e [] other = refl
found_none e (s ∷ xs) other = skip e s (entries_of xs) (other 0) ∙ found_none e xs (λ i. other (suc i))

pub found_at : {K : Type 0} (e : K → Bool) (xs : List (Slot K)) (k : K) (i v : ℕ) → e k ≡ true → ((j : ℕ) → j ≢ i → IsOther e (at xs j)) → at xs i ≡ holds k v → lookup e (entries_of xs) ≡ Some v
unfolding entries_of
found_at e [] k i v sure once here = absurd (cc)
found_at e (s ∷ xs) k zero v sure once here = ap (λ t. lookup e (entry_of t (entries_of xs))) here ∙ cond-true (e k) (Some v) (lookup e (entries_of xs)) sure
found_at e (s ∷ xs) k (suc i) v sure once here =
    skip e s (entries_of xs) (once 0 (λ z. omega (arith, z)))
    ∙ found_at e xs k i v sure (λ j ne. once (suc j) (λ z. ne (omega (arith, z)))) here

pub found-set : {K : Type 0} (e : K → Bool) (xs : List (Slot K)) (i : ℕ) (y : Slot K) → IsOther e (at xs i) → IsOther e y → lookup e (entries_of (set xs i y)) ≡ lookup e (entries_of xs)
unfolding entries_of
found-set e [] i y old new = refl
found-set e (s ∷ xs) zero y old new = skip e y (entries_of xs) new ∙ sym (skip e s (entries_of xs) old)
found-set e (s ∷ xs) (suc i) y old new = same_behind e s (entries_of (set xs i y)) (entries_of xs) (found-set e xs i y old new)

pub used-set : {K : Type 0} (xs : List (Slot K)) (i : ℕ) (y : Slot K) → i < length xs → used_of (set xs i y) + used (at xs i) ≡ used_of xs + used y
unfolding used_of
used-set [] i y lt = absurd (omega arith)
used-set (s ∷ xs) zero y lt = omega arith
used-set (s ∷ xs) (suc i) y lt = let h = used-set xs i y (omega arith) in omega arith

-- one for a key, else zero
abbrev pub held : {K : Type 0} → Slot K → ℕ
held free = 0
held gone = 0
held (holds k v) = 1

pub length_entry : {K : Type 0} (s : Slot K) (es : List (K × ℕ)) → length (entry_of s es) ≡ held s + length es
length_entry free es = omega arith
length_entry gone es = omega arith
length_entry (holds k v) es = omega arith

pub held-set : {K : Type 0} (xs : List (Slot K)) (i : ℕ) (y : Slot K) → i < length xs → length (entries_of (set xs i y)) + held (at xs i) ≡ length (entries_of xs) + held y
unfolding entries_of
held-set [] i y lt = absurd (omega arith)
held-set (s ∷ xs) zero y lt = let p = length_entry s (entries_of xs) in let q = length_entry y (entries_of xs) in omega arith
held-set (s ∷ xs) (suc i) y lt =
    let h = held-set xs i y (omega arith) in let p = length_entry s (entries_of xs) in let q = length_entry s (entries_of (set xs i y)) in omega arith

pub held_at : {K : Type 0} (xs : List (Slot K)) (i : ℕ) → i < length xs → held (at xs i) ≤ length (entries_of xs)
unfolding entries_of
held_at [] i lt = absurd (omega arith)
held_at (s ∷ xs) zero lt = let p = length_entry s (entries_of xs) in omega arith
held_at (s ∷ xs) (suc i) lt = let p = length_entry s (entries_of xs) in let h = held_at xs i (omega arith) in omega arith

held_one : {K : Type 0} (s : Slot K) → held s ≤ used s
held_one free = omega arith
held_one gone = omega arith
held_one (holds k v) = omega arith

used_one : {K : Type 0} (s : Slot K) → s ≢ free → used s ≡ 1
used_one free ne = absurd (ne refl)
used_one gone ne = refl
used_one (holds k v) ne = refl

pub used_all : {K : Type 0} (xs : List (Slot K)) → ((j : ℕ) → j < length xs → at xs j ≢ free) → used_of xs ≡ length xs
unfolding used_of
used_all [] all = refl
used_all (s ∷ xs) all =
    let p = used_one s (all 0 (omega arith)) in
    let h = used_all xs (λ j lt. all (suc j) (omega arith)) in omega arith

-- a place that holds a key is within the list
pub held_within : {K : Type 0} (xs : List (Slot K)) (i : ℕ) (k : K) (v : ℕ) → at xs i ≡ holds k v → i < length xs
held_within [] i k v here = absurd (cc)
held_within (s ∷ xs) zero k v here = omega arith
held_within (s ∷ xs) (suc i) k v here = let h = held_within xs i k v here in omega arith

-- what was not free is not free after a write
still_used : {K : Type 0} (xs : List (Slot K)) (i m : ℕ) (y : Slot K) → i < length xs → y ≢ free → at xs m ≢ free → at (set xs i y) m ≢ free
still_used xs i m y lt new old =
    elim (cases_eq m i) [
      | inl e ↦ λ is. new (sym (get_or-set_same xs i y free lt) ∙ ap (λ n. at (set xs i y) n) (sym e) ∙ is)
      | inr ne ↦ λ is. old (sym (get_or-set_other xs i m y free ne) ∙ is)
    ]

written : {K : Type 0} (xs : List (Slot K)) (i m : ℕ) (y : Slot K) → i < length xs → m ≡ i → at (set xs i y) m ≡ y
written xs i m y lt e = ap (λ n. at (set xs i y) n) e ∙ get_or-set_same xs i y free lt

-- an entry of the new list is the new one or an old one
pub entry_cases : {K : Type 0} (xs : List (Slot K)) (i m : ℕ) (y t : Slot K) → i < length xs → at (set xs i y) m ≡ t → ((m ≡ i) × (y ≡ t)) ⊎ ((m ≢ i) × (at xs m ≡ t))
entry_cases xs i m y t lt is =
    elim (cases_eq m i) [
      | inl e ↦ inl (e, sym (written xs i m y lt e) ∙ is)
      | inr ne ↦ inr (ne, sym (get_or-set_other xs i m y free ne) ∙ is)
    ]

same_key : {K : Type 0} (k l : K) (v w : ℕ) → holds k v ≡ holds l w → k ≡ l
same_key k l v w e = cc

used_slot : {K : Type 0} (k : K) (v : ℕ) → holds k v ≢ free
used_slot k v e = absurd (cc)

pub probed_add : {K : Type 0} (home : K → ℕ) (xs : List (Slot K)) (i : ℕ) (k : K) (v : ℕ) → IsProbed home xs → IsFirstFree xs k (home k) i → IsAbsent xs k → IsProbed home (set xs i (holds k v))
probed_add home xs i k v p first absent =
    let lt = first.within in
    let new = used_slot k v in
    record {
      apart = λ a b l u w at_a at_b.
          elim (entry_cases xs i a (holds k v) (holds l u) lt at_a) [
            | inl x ↦ elim (entry_cases xs i b (holds k v) (holds l w) lt at_b) [
              | inl y ↦ x.0 ∙ sym y.0
              | inr y ↦ absurd (absent b w (y.1 ∙ ap (λ q. holds q w) (sym (same_key k l v u x.1))))
            ]
            | inr x ↦ elim (entry_cases xs i b (holds k v) (holds l w) lt at_b) [
              | inl y ↦ absurd (absent a u (x.1 ∙ ap (λ q. holds q u) (sym (same_key k l v w y.1))))
              | inr y ↦ p.apart a b l u w x.1 y.1
            ]
          ];
      up = λ a l u j is from to.
          elim (cases_eq j i) [
            | inl e ↦ λ z. new (sym (written xs i j (holds k v) lt e) ∙ z)
            | inr ne ↦ still_used xs i j (holds k v) lt new (elim (entry_cases xs i a (holds k v) (holds l u) lt is) [
              | inl x ↦ let h = ap home (same_key k l v u x.1) in (first.up j (omega (arith, h)) (omega (arith, x.0, ne))).0
              | inr x ↦ p.up a l u j x.1 from to
            ])
          ];
      high = λ a l u j is wrap from to.
          let len = length-set xs i (holds k v) in
          still_used xs i j (holds k v) lt new (elim (entry_cases xs i a (holds k v) (holds l u) lt is) [
            | inl x ↦ let h = ap home (same_key k l v u x.1) in (first.high (omega (arith, h, x.0)) j (omega (arith, h)) (omega (arith, len))).0
            | inr x ↦ p.high a l u j x.1 wrap from (omega (arith, len))
          ]);
      low = λ a l u j is wrap to.
          elim (cases_eq j i) [
            | inl e ↦ λ z. new (sym (written xs i j (holds k v) lt e) ∙ z)
            | inr ne ↦ still_used xs i j (holds k v) lt new (elim (entry_cases xs i a (holds k v) (holds l u) lt is) [
              | inl x ↦ let h = ap home (same_key k l v u x.1) in (first.low (omega (arith, h, x.0)) j (omega arith) (omega (arith, x.0, ne))).0
              | inr x ↦ p.low a l u j x.1 wrap to
            ])
          ];
    }

gone_slot : {K : Type 0} (s : Slot K) → s ≡ gone → s ≢ free
gone_slot s e f = absurd (cc)

pub probed_remove : {K : Type 0} (home : K → ℕ) (xs : List (Slot K)) (i : ℕ) → IsProbed home xs → i < length xs → IsProbed home (set xs i gone)
probed_remove {K} home xs i p lt =
    let old = λ (a : ℕ) (l : K) (u : ℕ) (is : at (set xs i gone) a ≡ holds l u).
    (elim (entry_cases xs i a gone (holds l u) lt is) as (λ z. at xs a ≡ holds l u) [
      | inl x ↦ absurd (let bad = x.1 in cc)
      | inr x ↦ x.1
    ]) in
    record {
      apart = λ a b l u w at_a at_b. p.apart a b l u w (old a l u at_a) (old b l w at_b);
      up = λ a l u j is from to. still_used xs i j gone lt (gone_slot gone refl) (p.up a l u j (old a l u is) from to);
      high = λ a l u j is wrap from to. let len = length-set xs i gone in still_used xs i j gone lt (gone_slot gone refl) (p.high a l u j (old a l u is) wrap from (omega (arith, len)));
      low = λ a l u j is wrap to. still_used xs i j gone lt (gone_slot gone refl) (p.low a l u j (old a l u is) wrap to);
    }

-- the place i, from which a key was taken, becomes free where the place after it is free
pub probed_vacate : {K : Type 0} (home : K → ℕ) (xs : List (Slot K)) (i next : ℕ) → i < length xs → (i + 1 < length xs → next ≡ i + 1) → (length xs ≤ i + 1 → next ≡ 0) → at xs i ≡ gone → at xs next ≡ free → IsProbed home xs → IsProbed home (set xs i free)
probed_vacate {K} home xs i next lt more last here vacant p =
    let len = length-set xs i free in
    let old = λ (a : ℕ) (l : K) (u : ℕ) (is : at (set xs i free) a ≡ holds l u).
    (elim (entry_cases xs i a free (holds l u) lt is) as (λ z. (a ≢ i) × (at xs a ≡ holds l u)) [
      | inl x ↦ absurd (let bad = x.1 in cc)
      | inr x ↦ x
    ]) in
    let kept = λ (j : ℕ) (ne : j ≢ i) (n : at xs j ≢ free) (is : at (set xs i free) j ≡ free). n (sym (get_or-set_other xs i j free free ne) ∙ is) in
    let after = λ (gt : i + 1 < length xs). ap (λ n. at xs n) (sym (more gt)) ∙ vacant in
    record {
      apart = λ a b l u w at_a at_b. p.apart a b l u w (old a l u at_a).1 (old b l w at_b).1;
      up = λ a l u j is from to.
          let o = old a l u is in
          elim (cases_eq j i) [
            | inl e ↦ λ z. p.up a l u (i + 1) o.1 (omega (arith, e, from)) (let ne = o.0 in omega (arith, e, to, ne)) (after (let ne = o.0 in let w = held_within xs a l u o.1 in omega (arith, e, to, ne, w)))
            | inr ne ↦ kept j ne (p.up a l u j o.1 from to)
          ];
      high = λ a l u j is wrap from to.
          let o = old a l u is in
          elim (cases_eq j i) [
            | inl e ↦ λ z. elim (cases_lt (i + 1) (length xs)) [
              | inl gt ↦ p.high a l u (i + 1) o.1 wrap (omega (arith, e, from)) gt (after gt)
              | inr le ↦ p.low a l u 0 o.1 wrap (omega arith) (ap (λ n. at xs n) (sym (last le)) ∙ vacant)
            ]
            | inr ne ↦ kept j ne (p.high a l u j o.1 wrap from (omega (arith, len, to)))
          ];
      low = λ a l u j is wrap to.
          let o = old a l u is in
          elim (cases_eq j i) [
            | inl e ↦ λ z. p.low a l u (i + 1) o.1 wrap (let ne = o.0 in omega (arith, e, to, ne)) (after (let ne = o.0 in let w = held_within xs a l u o.1 in omega (arith, e, to, ne, w)))
            | inr ne ↦ kept j ne (p.low a l u j o.1 wrap to)
          ];
    }

-- a place without a key that becomes free changes no entry
pub entries_vacate : {K : Type 0} (xs : List (Slot K)) (i : ℕ) → at xs i ≡ gone → entries_of (set xs i free) ≡ entries_of xs
unfolding entries_of
entries_vacate [] i here = refl
entries_vacate (s ∷ xs) zero here = ap (λ t. entry_of t (entries_of xs)) (sym here)
entries_vacate (s ∷ xs) (suc i) here = ap (λ es. entry_of s es) (entries_vacate xs i here)

pub held_used : {K : Type 0} (xs : List (Slot K)) → length (entries_of xs) ≤ used_of xs
unfolding entries_of used_of
held_used [] = omega arith
held_used (s ∷ xs) = let p = length_entry s (entries_of xs) in let q = held_one s in let h = held_used xs in omega arith

-- where the search for a key ends at a free place, the key is nowhere
pub absent_vacant : {K : Type 0} (home : K → ℕ) (xs : List (Slot K)) (k : K) (i : ℕ) → IsProbed home xs → IsFirstFree xs k (home k) i → IsAbsent xs k
absent_vacant home xs k i p first m v is =
    elim (cases_lt m (home k)) [
      | inl under ↦ elim (cases_lt i (home k)) [
        | inl wrap ↦ elim (cases_lt m i) [
          | inl lt ↦ (first.low wrap m (omega arith) lt).1 v is
          | inr ge ↦ p.low m k v i is under ge first.is
        ]
        | inr flat ↦ p.high m k v i is under flat first.within first.is
      ]
      | inr over ↦ elim (cases_lt i (home k)) [
        | inl wrap ↦ (first.high wrap m over (held_within xs m k v is)).1 v is
        | inr flat ↦ elim (cases_lt m i) [
          | inl lt ↦ (first.up m over lt).1 v is
          | inr ge ↦ p.up m k v i is flat ge first.is
        ]
      ]
    ]

pub probed_free : {K : Type 0} (home : K → ℕ) (xs : List (Slot K)) → ((i : ℕ) → at xs i ≡ free) → IsProbed home xs
probed_free home xs all = record {
  apart = λ a b l u w at_a at_b. let h = all a in absurd (cc);
  up = λ a l u j is from to. let h = all a in absurd (cc);
  high = λ a l u j is wrap from to. let h = all a in absurd (cc);
  low = λ a l u j is wrap to. let h = all a in absurd (cc);
}

pub used_free : {K : Type 0} (xs : List (Slot K)) → ((i : ℕ) → at xs i ≡ free) → used_of xs ≡ 0
unfolding used_of
used_free [] all = refl
used_free (s ∷ xs) all = let h = used_free xs (λ i. all (suc i)) in let e : used s ≡ 0 = ap (λ t. used t) (all 0) in omega arith

pub entries_free : {K : Type 0} (xs : List (Slot K)) → ((i : ℕ) → at xs i ≡ free) → entries_of xs ≡ []
unfolding entries_of
entries_free [] all = refl
entries_free (s ∷ xs) all = ap (λ t. entry_of t (entries_of xs)) (all 0) ∙ entries_free xs (λ i. all (suc i))
