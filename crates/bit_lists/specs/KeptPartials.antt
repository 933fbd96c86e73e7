-- How a partial list is kept: which values are fixed, and to what. (A type cites lemmas of specs alone, so its own stands here.)
use Rattle.std.proofs.Common.{◌≡◌, Bool, true, false, cond, List, [], ◌∷◌, map, Option, None, Some, is_some, refl, sym, ◌∙◌, ap}

-- the bit of a fixed value, and false for a free one
abbrev pub value_of : Option Bool → Bool
value_of None = false
value_of (Some b) = b

-- which values are fixed
abbrev pub are_fixed : List (Option Bool) → List Bool
are_fixed p = map is_some p

-- the fixed values, and false for the free ones
abbrev pub values_of : List (Option Bool) → List Bool
values_of p = map value_of p

-- the values, from which of them are fixed and to what
abbrev pub partial_of : List Bool → List Bool → List (Option Bool)
partial_of (k ∷ ks) (b ∷ bs) = cond k (Some b) None ∷ partial_of ks bs
partial_of _ _ = []

-- how a partial list is kept: a free value is kept as false
abbrev pub IsKept : List Bool → List Bool → Type 0
IsKept [] [] = Unit {0}
IsKept (k ∷ ks) (b ∷ bs) = (k ≡ false → b ≡ false) × IsKept ks bs
IsKept ks bs = ⊥

-- what a partial list is kept as, from the list that it is seen as
pub kept_inverse : (ks bs : List Bool) → IsKept ks bs → (are_fixed (partial_of ks bs) ≡ ks) × (values_of (partial_of ks bs) ≡ bs)
kept_inverse [] [] h = (refl, refl)
kept_inverse [] (b ∷ bs) h = absurd h
kept_inverse (k ∷ ks) [] h = absurd h
kept_inverse (true ∷ ks) (b ∷ bs) h = let r = kept_inverse ks bs h.1 in (ap (λ l. true ∷ l) r.0, ap (λ l. b ∷ l) r.1)
kept_inverse (false ∷ ks) (b ∷ bs) h =
    let r = kept_inverse ks bs h.1 in
    (ap (λ l. false ∷ l) r.0, ap (λ l. false ∷ l) r.1 ∙ ap (λ a. a ∷ bs) (sym (h.0 refl)))
