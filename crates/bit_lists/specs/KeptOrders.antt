-- How an order is kept: the variable at each place, and the place of each variable. (A type cites lemmas of specs alone, so its own stands here with what it rests on.)
use Rattle.std.proofs.Common.{◌≡◌, ◌≢◌, inl, inr, ℕ, zero, suc, ◌+◌, ◌-◌, ◌<◌, ◌≤◌, eqb, List, [], ◌∷◌, ◌++◌, map, length, sym, ◌∙◌, ap, arith, get_or, take, replicate, eq-eqb, length-append}
use Rattle.std.specs.List.{range_with_len}
use Rattle.std.proofs.lemmas.Bool.{cases_lt, cond-true, cond-false, ne_eqb}
use Rattle.std.proofs.lemmas.List.{ext_get_or, get_or-take, length-take-le, get_or-replicate, length-replicate, get_or_append_left, get_or-append-add}
use Rattle.std.proofs.lemmas.List.FromFn.{length-map-range_with_len, get_or-map-range_with_len}
use Rattle.bit_lists.specs.Orders.{place_in}

-- the list with zeros up to 128 numbers
abbrev pub padded : List ℕ → List ℕ
padded xs = xs ++ replicate (128 - length xs) 0

-- the place of each variable
abbrev pub places_of : List ℕ → List ℕ
places_of order = map (place_in order) (range_with_len 0 (length order))

-- how an order of n variables is kept: the variable at each place, the place of each variable, and
-- zeros past them
pub record IsKeptOrder (n : ℕ) (vs ps : List ℕ) : Type 0 where
  pub few : n ≤ 128
  pub variables_len : length vs ≡ 128
  pub places_len : length ps ≡ 128
  pub variable_below : (i : ℕ) → i < n → get_or vs i 0 < n
  pub place_below : (v : ℕ) → v < n → get_or ps v 0 < n
  pub place_at : (i : ℕ) → i < n → get_or ps (get_or vs i 0) 0 ≡ i
  pub at_place : (v : ℕ) → v < n → get_or vs (get_or ps v 0) 0 ≡ v
  pub variable_rest : (i : ℕ) → n ≤ i → get_or vs i 0 ≡ 0
  pub place_rest : (v : ℕ) → n ≤ v → get_or ps v 0 ≡ 0

-- the first place of a variable
pub place_in-first : (vs : List ℕ) (v i : ℕ) → i < length vs → get_or vs i 0 ≡ v → ((j : ℕ) → j < i → get_or vs j 0 ≢ v) → place_in vs v ≡ i
unfolding place_in
place_in-first [] v i lt at none = absurd (omega arith)
place_in-first (u ∷ us) v zero lt at none = cond-true (eqb u v) 0 (suc (place_in us v)) (eq-eqb u v at)
place_in-first (u ∷ us) v (suc i) lt at none =
    cond-false (eqb u v) 0 (suc (place_in us v)) (ne_eqb u v (none 0 (omega arith)))
    ∙ ap suc (place_in-first us v i (omega arith) at (λ j less. none (suc j) (omega arith)))

module _ (n : ℕ) (vs ps : List ℕ) (kept : IsKeptOrder n vs ps) where
  -- as many variables as were kept
  pub length-kept_order : length (take n vs) ≡ n
  length-kept_order = length-take-le n vs (omega (arith, kept.few, kept.variables_len))

  -- the variable at a place
  pub kept_at : (i : ℕ) → i < n → get_or (take n vs) i 0 ≡ get_or vs i 0
  kept_at i lt = get_or-take n vs i 0 lt

  -- the kept place is the place in the order
  pub kept_place : (v : ℕ) → v < n → place_in (take n vs) v ≡ get_or ps v 0
  kept_place v lt =
      let i = get_or ps v 0 in
      let below : i < n = kept.place_below v lt in
      place_in-first (take n vs) v i (omega (arith, below, length-kept_order)) (kept_at i below ∙ kept.at_place v lt)
      (λ j less e.
      let here : get_or vs j 0 ≡ v = sym (kept_at j (omega arith)) ∙ e in
      let same : i ≡ j = ap (λ w. get_or ps w 0) (sym here) ∙ kept.place_at j (omega arith) in
      omega arith)

-- a list of n numbers with zeros past them
padded_is : (n : ℕ) (xs ys : List ℕ) → n ≤ 128 → length xs ≡ n → length ys ≡ 128 → ((i : ℕ) → i < n → get_or xs i 0 ≡ get_or ys i 0) → ((i : ℕ) → n ≤ i → get_or ys i 0 ≡ 0) → padded xs ≡ ys
padded_is n xs ys few len size same rest =
    let long : length (padded xs) ≡ 128 = omega (arith, length-append xs (replicate (128 - length xs) 0), length-replicate {A = ℕ} (128 - length xs) 0) in
    ext_get_or 0 (padded xs) ys (long ∙ sym size) (λ i lt.
    elim (cases_lt i n) [
      | inl below ↦ get_or_append_left xs (replicate (128 - length xs) 0) 0 i (omega arith) ∙ same i below
      | inr past ↦
          let j = i - length xs in
          let at : length xs + j ≡ i = omega arith in
          ap (λ k. get_or (padded xs) k 0) (sym at) ∙ get_or-append-add xs (replicate (128 - length xs) 0) j 0
          ∙ get_or-replicate (128 - length xs) j 0 0 (omega arith) ∙ sym (rest i past)
    ])

-- what an order is kept as, from the list that it is seen as
pub kept_order_inverse : (n : ℕ) (vs ps : List ℕ) → IsKeptOrder n vs ps → (length (take n vs) ≡ n) × (padded (take n vs) ≡ vs) × (padded (places_of (take n vs)) ≡ ps)
kept_order_inverse n vs ps kept =
    let len = length-kept_order n vs ps kept in
    let places = places_of (take n vs) in
    let places_len : length places ≡ n = length-map-range_with_len (place_in (take n vs)) 0 (length (take n vs)) ∙ len in (
      len,
      padded_is n (take n vs) vs kept.few len kept.variables_len (kept_at n vs ps kept) kept.variable_rest,
      padded_is n places ps kept.few places_len kept.places_len
          (λ i lt. get_or-map-range_with_len (place_in (take n vs)) 0 (length (take n vs)) i i 0 (omega arith) (omega arith) ∙ kept_place n vs ps kept i lt)
          kept.place_rest,
    )
