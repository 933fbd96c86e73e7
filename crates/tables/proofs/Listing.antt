-- The values of a list of places, as a list.
use Rattle.std.proofs.Common.{◌≡◌, ℕ, zero, suc, ◌+◌, ◌<◌, Bool, List, [], ◌∷◌, ◌++◌, map, length, take, get_or, Some, inl, inr, refl, sym, ◌∙◌, ap, arith}
use Rattle.std.proofs.lemmas.Bool.{cases_Bool, cond-true, cond-false}
use Rattle.std.specs.Map.{lookup}
use Rattle.tables.specs.Probing.{Slot, free, gone, holds, entry_of, entries_of, at}
use Rattle.tables.proofs.Copying.{slots_more, entries_push}

-- the value of an entry
abbrev pub value_of : {K : Type 0} → K × ℕ → ℕ
value_of e = e.1

-- a place that holds the value of an entry
pub record HasPlace {K : Type 0} (xs : List (Slot K)) (i : ℕ) : Type 0 where
  pub place : ℕ
  pub key : K
  pub is : at xs place ≡ holds key (get_or (map value_of (entries_of xs)) i 0)

further : {K : Type 0} (s : Slot K) (xs : List (Slot K)) (i j : ℕ) → get_or (map value_of (entries_of (s ∷ xs))) j 0 ≡ get_or (map value_of (entries_of xs)) i 0 → HasPlace xs i → HasPlace (s ∷ xs) j
further s xs i j same h = record { place = suc h.place; key = h.key; is = h.is ∙ ap (λ v. holds h.key v) (sym same) }

-- each entry stands at a place
pub entry_place : {K : Type 0} (xs : List (Slot K)) (i : ℕ) → i < length (entries_of xs) → HasPlace xs i
unfolding entries_of
entry_place [] i lt = absurd (omega arith)
entry_place (free ∷ xs) i lt = further free xs i i refl (entry_place xs i lt)
entry_place (gone ∷ xs) i lt = further gone xs i i refl (entry_place xs i lt)
entry_place (holds k v ∷ xs) zero lt = record { place = 0; key = k; is = refl }
entry_place (holds k v ∷ xs) (suc i) lt = further (holds k v) xs i (suc i) refl (entry_place xs i (omega arith))

-- what is found stands in the list
pub record IsListed (ns : List ℕ) (n : ℕ) : Type 0 where
  pub index : ℕ
  pub within : index < length ns
  pub is : get_or ns index 0 ≡ n

listed_later : (ns : List ℕ) (m n : ℕ) → IsListed ns n → IsListed (m ∷ ns) n
listed_later ns m n h = record { index = suc h.index; within = let lt = h.within in omega (arith, lt); is = h.is }

some_same : (m n : ℕ) → Some m ≡ Some n → m ≡ n
some_same m n e = cc

pub found_listed : {K : Type 0} (e : K → Bool) (es : List (K × ℕ)) (n : ℕ) → lookup e es ≡ Some n → IsListed (map value_of es) n
found_listed e [] n is = absurd (cc)
found_listed e (x ∷ es) n is =
    elim (cases_Bool (e x.0)) [
      | inl y ↦ record { index = 0; within = omega arith; is = some_same x.1 n (sym (cond-true (e x.0) (Some x.1) (lookup e es) y) ∙ is) }
      | inr other ↦ listed_later (map value_of es) x.1 n (found_listed e es n (sym (cond-false (e x.0) (Some x.1) (lookup e es) other) ∙ is))
    ]

values_append : {K : Type 0} (es fs : List (K × ℕ)) → map value_of (es ++ fs) ≡ map value_of es ++ map value_of fs
values_append [] fs = refl
values_append (x ∷ es) fs = ap (λ ns. x.1 ∷ ns) (values_append es fs)

-- the values of one more place
pub values_more : {P K : Type 0} (slot : P → Slot K) (d : P) (blank : slot d ≡ free) (ps : List P) (i : ℕ) → i < length ps → map value_of (entries_of (map slot (take (i + 1) ps))) ≡ map value_of (entries_of (map slot (take i ps))) ++ map value_of (entry_of (slot (get_or ps i d)) [])
values_more slot d blank ps i lt =
    ap (λ xs. map value_of (entries_of xs)) (slots_more slot d blank ps i lt)
    ∙ ap (λ es. map value_of es) (entries_push (map slot (take i ps)) (slot (get_or ps i d)))
    ∙ values_append (entries_of (map slot (take i ps))) (entry_of (slot (get_or ps i d)) [])
