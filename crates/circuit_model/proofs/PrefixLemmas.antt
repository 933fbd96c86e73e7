-- A fact holds at each element of a list behind those before it, or there is one first element at which it doesn't.
use Rattle.std.proofs.Common.{◌≡◌, ◌⊎◌, inl, inr, ℕ, ◌+◌, refl, sym, ◌∙◌, ap, subst, List, [], ◌∷◌, ◌++◌, length, arith}
use Rattle.std.proofs.lemmas.List.{append_assoc, append-nil, length-append}
use Rattle.circuit_model.specs.Prefixes.{AtEach, IsFirstFailing}

-- ---- two splits of one list
-- they are the same, or one front goes past the other's element
abbrev pub SplitOrder : {X : Type 0} → List X → List X → X → X → Type 0
SplitOrder {X} f g x y = ((f ≡ g) × (x ≡ y)) ⊎ (((m : List X) × (g ≡ f ++ x ∷ m)) ⊎ ((m : List X) × (f ≡ g ++ y ∷ m)))

pub split_order : {X : Type 0} (f g : List X) (x y : X) (r s : List X) → f ++ x ∷ r ≡ g ++ y ∷ s → SplitOrder f g x y
split_order [] [] x y r s e = let same : x ≡ y = cc in inl (refl, same)
split_order [] (z ∷ g) x y r s e = let same : z ≡ x = cc in inr (inl (g, ap (λ w. w ∷ g) same))
split_order (z ∷ f) [] x y r s e = let same : z ≡ y = cc in inr (inr (f, ap (λ w. w ∷ f) same))
split_order {X} (z ∷ f) (w ∷ g) x y r s e =
    let first : z ≡ w = cc in
    let rest : f ++ x ∷ r ≡ g ++ y ∷ s = cc in
    by first (split_order f g x y r s rest)
  where
    by : z ≡ w → SplitOrder f g x y → SplitOrder (z ∷ f) (w ∷ g) x y
    by first (inl same) = let fronts = same.0 in let l : z ∷ f ≡ w ∷ g = cc in inl (l, same.1)
    by first (inr (inl more)) = let fronts = more.1 in let l : w ∷ g ≡ z ∷ (f ++ x ∷ more.0) = cc in inr (inl (more.0, l))
    by first (inr (inr more)) = let fronts = more.1 in let l : z ∷ f ≡ w ∷ (g ++ y ∷ more.0) = cc in inr (inr (more.0, l))

module _ {X : Type 0} (P : List X → X → Type 0) where
  pub AtEach-nil : AtEach P []
  AtEach-nil [] rest g e = cc
  AtEach-nil (h ∷ front) rest g e = cc

  -- one element more
  pub AtEach-more : (xs : List X) (x : X) → AtEach P xs → P xs x → AtEach P (xs ++ x ∷ [])
  AtEach-more xs x before here f r y e = by (split_order xs f x y [] r e)
    where
      too_long : (m : List X) → f ≡ xs ++ x ∷ m → ⊥
      too_long m longer =
          let whole = ap length e in
          let part = ap length longer in
          absurd (omega (arith, length-append xs (x ∷ []), length-append f (y ∷ r), length-append xs (x ∷ m)))

      by : SplitOrder xs f x y → P f y
      by (inl same) =
          let A : List X → Type 0 = λ l. P l x in
          let B : X → Type 0 = λ k. P f k in
          subst B same.1 (subst A same.0 here)
      by (inr (inl more)) = absurd (too_long more.0 more.1)
      by (inr (inr more)) = before f more.0 y more.1

  on_from : ((front : List X) (x : X) → P front x ⊎ (¬ P front x)) → (front rest : List X) → AtEach P front → AtEach P (front ++ rest) ⊎ ((number : ℕ) × IsFirstFailing P (front ++ rest) number)
  on_from decide front [] before = let A : List X → Type 0 = λ l. AtEach P l in inl (subst A (sym (append-nil front)) before)
  on_from decide front (x ∷ rest) before = by (decide front x) (λ holds. on_from decide (front ++ x ∷ []) rest (AtEach-more front x before holds))
    where
      First : List X → Type 0
      First xs = (number : ℕ) × IsFirstFailing P xs number

      by : P front x ⊎ (¬ P front x) → (P front x → AtEach P ((front ++ x ∷ []) ++ rest) ⊎ First ((front ++ x ∷ []) ++ rest)) → AtEach P (front ++ x ∷ rest) ⊎ First (front ++ x ∷ rest)
      by (inl holds) more =
          let A : List X → Type 0 = λ l. AtEach P l ⊎ First l in
          subst A (append_assoc front (x ∷ []) rest) (more holds)
      by (inr fails) more = inr (length front + 1, record { front = front; element = x; rest = rest; split = refl; count = refl; before = before; fails = fails })

  pub each_or_first : ((front : List X) (x : X) → P front x ⊎ (¬ P front x)) → (xs : List X) → AtEach P xs ⊎ ((number : ℕ) × IsFirstFailing P xs number)
  each_or_first decide xs = on_from decide [] xs AtEach-nil

  pub first_failing-apart : (xs : List X) (number : ℕ) → IsFirstFailing P xs number → AtEach P xs → ⊥
  first_failing-apart xs number first all = first.fails (all first.front first.rest first.element first.split)

  pub one_first_failing : (xs : List X) (i j : ℕ) → IsFirstFailing P xs i → IsFirstFailing P xs j → i ≡ j
  one_first_failing xs i j s t = by (split_order s.front t.front s.element t.element s.rest t.rest (sym s.split ∙ t.split))
    where
      by : SplitOrder s.front t.front s.element t.element → i ≡ j
      by (inl same) = s.count ∙ ap (λ (l : List X). length l + 1) same.0 ∙ sym t.count
      by (inr (inl more)) = absurd (s.fails (t.before s.front more.0 s.element more.1))
      by (inr (inr more)) = absurd (t.fails (s.before t.front more.0 t.element more.1))
