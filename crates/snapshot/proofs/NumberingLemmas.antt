-- The number of each node.
use Rattle.std.proofs.Common.{◌≡◌, ◌≢◌, ◌⊎◌, ℕ, zero, suc, ◌+◌, ◌<◌, ◌≤◌, true, false, cond, eqb, List, [], ◌∷◌, ◌++◌, length, get_or, set, slice_index_or, replicate, inl, inr, refl, sym, ◌∙◌, ap, subst, drop, arith, eq-eqb, get_or-set_same, get_or-set_other}
use Rattle.std.proofs.lemmas.Bool.{cases_eq, cases_Bool, cond-true, cond-false, ne_eqb, false≢true, false_from_ne_true}
use Rattle.bit_lists.specs.Orders.{has, place_in}
use Rattle.bit_lists.proofs.Variables.{has-head, has-tail, has-here, has_at}
use Rattle.snapshot.specs.Private.{number_or_none, AreNumbers}

-- the constants
pub has_small : (ns : List ℕ) (n : ℕ) → n < 2 → has (0 ∷ 1 ∷ ns) n ≡ true
unfolding has
has_small ns zero lt = refl
has_small ns (suc zero) lt = refl
has_small ns (suc (suc n)) lt = absurd (omega arith)

pub place_small : (ns : List ℕ) (n : ℕ) → n < 2 → place_in (0 ∷ 1 ∷ ns) n ≡ n
unfolding place_in
place_small ns zero lt = refl
place_small ns (suc zero) lt = refl
place_small ns (suc (suc n)) lt = absurd (omega arith)

-- the place of another node is at least 2
pub place_big : (ns : List ℕ) (n : ℕ) → 2 ≤ n → 2 ≤ place_in (0 ∷ 1 ∷ ns) n
unfolding place_in
place_big ns n le =
    let first : cond (eqb 0 n) 0 (suc (cond (eqb 1 n) 0 (suc (place_in ns n)))) ≡ suc (cond (eqb 1 n) 0 (suc (place_in ns n))) = cond-false (eqb 0 n) 0 (suc (cond (eqb 1 n) 0 (suc (place_in ns n)))) (ne_eqb 0 n (λ e. omega (arith, e, le))) in
    let second : cond (eqb 1 n) 0 (suc (place_in ns n)) ≡ suc (place_in ns n) = cond-false (eqb 1 n) 0 (suc (place_in ns n)) (ne_eqb 1 n (λ e. omega (arith, e, le))) in
    omega (arith, first, second)

pub number_none : (ns : List ℕ) (n : ℕ) → has ns n ≡ false → number_or_none ns n ≡ 0
number_none ns n h = cond-false (has ns n) (place_in ns n) 0 h

pub number_some : (ns : List ℕ) (n : ℕ) → has ns n ≡ true → number_or_none ns n ≡ place_in ns n
number_some ns n h = cond-true (has ns n) (place_in ns n) 0 h

-- what is kept tells whether a node has a number
pub kept_some : (ns : List ℕ) (n k : ℕ) → 2 ≤ n → k ≡ number_or_none (0 ∷ 1 ∷ ns) n → k ≢ 0 → has (0 ∷ 1 ∷ ns) n ≡ true
kept_some ns n k le e ne =
    elim (cases_Bool (has (0 ∷ 1 ∷ ns) n)) [
      | inl there ↦ there
      | inr lacks ↦ absurd (ne (e ∙ number_none (0 ∷ 1 ∷ ns) n lacks))
    ]

pub kept_none : (ns : List ℕ) (n k : ℕ) → 2 ≤ n → k ≡ number_or_none (0 ∷ 1 ∷ ns) n → k ≡ 0 → has (0 ∷ 1 ∷ ns) n ≡ false
kept_none ns n k le e at =
    false_from_ne_true (has (0 ∷ 1 ∷ ns) n) (λ there.
    let place = place_big ns n le in
    let same : k ≡ place_in (0 ∷ 1 ∷ ns) n = e ∙ number_some (0 ∷ 1 ∷ ns) n there in
    omega (arith, place, same, at))

-- ---- a list with one more
has_nothing : (m : ℕ) → has [] m ≡ true → ⊥
unfolding has
has_nothing m e = false≢true e

pub has_left : (xs ys : List ℕ) (m : ℕ) → has xs m ≡ true → has (xs ++ ys) m ≡ true
has_left [] ys m h = absurd (has_nothing m h)
has_left (x ∷ xs) ys m h =
    elim (cases_eq x m) [
      | inl e ↦ has-here x (xs ++ ys) m (sym e)
      | inr ne ↦ has-head x m (xs ++ ys) (has_left xs ys m (has-tail x m xs h ne))
    ]

pub has_last : (xs : List ℕ) (n : ℕ) → has (xs ++ n ∷ []) n ≡ true
has_last [] n = has-here n [] n refl
has_last (x ∷ xs) n = has-head x n (xs ++ n ∷ []) (has_last xs n)

pub has_cases : (xs : List ℕ) (n m : ℕ) → has (xs ++ n ∷ []) m ≡ true → (has xs m ≡ true) ⊎ (n ≡ m)
has_cases [] n m h =
    elim (cases_eq n m) [
      | inl e ↦ inr e
      | inr ne ↦ inl (has-tail n m [] h ne)
    ]
has_cases (x ∷ xs) n m h =
    elim (cases_eq x m) [
      | inl e ↦ inl (has-here x xs m (sym e))
      | inr ne ↦ elim (has_cases xs n m (has-tail x m (xs ++ n ∷ []) h ne)) [
        | inl there ↦ inl (has-head x m xs there)
        | inr at ↦ inr at
      ]
    ]

place_left : (xs ys : List ℕ) (m : ℕ) → has xs m ≡ true → place_in (xs ++ ys) m ≡ place_in xs m
unfolding has place_in
place_left [] ys m h = absurd (false≢true h)
place_left (x ∷ xs) ys m h =
    elim (cases_eq x m) [
      | inl e ↦ cond-true (eqb x m) 0 (suc (place_in (xs ++ ys) m)) (eq-eqb x m e) ∙ sym (cond-true (eqb x m) 0 (suc (place_in xs m)) (eq-eqb x m e))
      | inr ne ↦
          cond-false (eqb x m) 0 (suc (place_in (xs ++ ys) m)) (ne_eqb x m ne)
          ∙ ap suc (place_left xs ys m (sym (cond-false (eqb x m) true (has xs m) (ne_eqb x m ne)) ∙ h))
          ∙ sym (cond-false (eqb x m) 0 (suc (place_in xs m)) (ne_eqb x m ne))
    ]

pub lacks_head : (x n : ℕ) (xs : List ℕ) → has (x ∷ xs) n ≡ false → x ≢ n
lacks_head x n xs h e = false≢true (sym h ∙ has-here x xs n (sym e))

pub lacks_tail : (x n : ℕ) (xs : List ℕ) → has (x ∷ xs) n ≡ false → has xs n ≡ false
lacks_tail x n xs h = false_from_ne_true (has xs n) (λ there. false≢true (sym h ∙ has-head x n xs there))

place_last : (xs : List ℕ) (n : ℕ) → has xs n ≡ false → place_in (xs ++ n ∷ []) n ≡ length xs
unfolding place_in
place_last [] n h = cond-true (eqb n n) 0 1 (eq-eqb n n refl)
place_last (x ∷ xs) n h =
    cond-false (eqb x n) 0 (suc (place_in (xs ++ n ∷ []) n)) (ne_eqb x n (lacks_head x n xs h)) ∙ ap suc (place_last xs n (lacks_tail x n xs h))

number_other : (xs : List ℕ) (n m : ℕ) → m ≢ n → number_or_none (xs ++ n ∷ []) m ≡ number_or_none xs m
number_other xs n m ne =
    elim (cases_Bool (has xs m)) [
      | inl there ↦ number_some (xs ++ n ∷ []) m (has_left xs (n ∷ []) m there) ∙ place_left xs (n ∷ []) m there ∙ sym (number_some xs m there)
      | inr lacks ↦
          number_none (xs ++ n ∷ []) m (false_from_ne_true (has (xs ++ n ∷ []) m) (λ there. elim (has_cases xs n m there) [ inl old ↦ false≢true (sym lacks ∙ old) | inr at ↦ ne (sym at) ]))
          ∙ sym (number_none xs m lacks)
    ]

number_last : (xs : List ℕ) (n : ℕ) → has xs n ≡ false → number_or_none (xs ++ n ∷ []) n ≡ length xs
number_last xs n lacks = number_some (xs ++ n ∷ []) n (has_last xs n) ∙ place_last xs n lacks

pub pushed_numbers : (ns ks : List ℕ) (n v : ℕ) → AreNumbers ns ks → has (0 ∷ 1 ∷ ns) n ≡ false → n < length ks → v ≡ length ns + 2 → AreNumbers (ns ++ n ∷ []) (set ks n v)
pushed_numbers ns ks n v h new lt e m le =
    elim (cases_eq m n) [
      | inl at ↦
          ap (λ i. slice_index_or (set ks n v) i 0) at ∙ get_or-set_same ks n v 0 lt
          ∙ (let two : v ≡ length (0 ∷ 1 ∷ ns) = omega (arith, e) in two)
          ∙ sym (ap (number_or_none ((0 ∷ 1 ∷ ns) ++ n ∷ [])) at ∙ number_last (0 ∷ 1 ∷ ns) n new)
      | inr ne ↦ get_or-set_other ks n m v 0 ne ∙ h m le ∙ sym (number_other (0 ∷ 1 ∷ ns) n m ne)
    ]

pub two_lack : (n : ℕ) → 2 ≤ n → has (0 ∷ 1 ∷ []) n ≡ false
unfolding has
two_lack n le = cond-false (eqb 0 n) true (cond (eqb 1 n) true false) (ne_eqb 0 n (λ e. omega (arith, e, le))) ∙ cond-false (eqb 1 n) true false (ne_eqb 1 n (λ e. omega (arith, e, le)))

-- no numbers yet
pub no_numbers : (ks : List ℕ) → ((n : ℕ) → slice_index_or ks n 0 ≡ 0) → AreNumbers [] ks
no_numbers ks none n le = none n ∙ sym (number_none (0 ∷ 1 ∷ []) n (two_lack n le))

pub zeros_none : (k n : ℕ) → slice_index_or (replicate {A = ℕ} k 0) n 0 ≡ 0
zeros_none zero n = refl
zeros_none (suc k) zero = refl
zeros_none (suc k) (suc n) = zeros_none k n

pub has_end : (xs : List ℕ) (k i m : ℕ) → i < length (drop k xs) → get_or (drop k xs) i 0 ≡ m → has xs m ≡ true
has_end xs zero i m lt at = has_at xs m i lt at
has_end [] (suc k) i m lt at = absurd (omega arith)
has_end (x ∷ xs) (suc k) i m lt at = has-head x m xs (has_end xs k i m lt at)

-- what stands behind the constants is in the list
pub has_dropped : (xs ys : List ℕ) (i m : ℕ) → ys ≡ drop 2 xs → i < length ys → get_or ys i 0 ≡ m → has xs m ≡ true
has_dropped xs ys i m e lt at = has_end xs 2 i m (subst (λ l. i < length l) e lt) (ap (λ l. get_or l i 0) (sym e) ∙ at)
