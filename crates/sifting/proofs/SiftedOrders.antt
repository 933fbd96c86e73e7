-- The order that sifting variables in turn leads to.
use Rattle.std.proofs.Common.{◌≡◌, ◌⊎◌, ℕ, zero, suc, ◌+◌, ◌*◌, ◌<◌, ◌≤◌, List, [], ◌∷◌, length, inl, inr, refl, sym, ◌∙◌, ap, subst, arith}
use Rattle.std.proofs.lemmas.Bool.{cases_lt}
use Rattle.bit_lists.specs.Orders.{IsOrder}
use Rattle.diagram_model.specs.Functions.{Function}
use Rattle.sifting.specs.declared.sift.Sifted.{Sifted}
use Rattle.sifting.specs.Places.{Sift, first, order_at, size_at, level_at, HasRoom, IsReached, IsSiftedPlace}
use Rattle.sifting.specs.Places.IsReached.{here, down, up}
use Rattle.sifting.specs.Answers.{AreInTurn, SiftsTo, sift_in, last_order}
use Rattle.sifting.proofs.PlaceLemmas.{only_place}
use Rattle.sifting.proofs.Reached.{down_to, up_from, reached_within, length_order_at}
use Rattle.sifting.proofs.Moved.{moved_order, place_within}

-- ---- there is one
pub only_order : (fs : List Function) (limit k v : ℕ) (order a b : List ℕ) → SiftsTo fs limit k v order a → SiftsTo fs limit k v order b → a ≡ b
only_order fs limit zero v order a b x y = x ∙ sym y
only_order fs limit (suc k) v order a b x y =
    let s = sift_in fs limit order v in
    let same : y.0 ≡ x.0 = only_place s y.0 x.0 y.1 x.1 in
    only_order fs limit k (suc v) (order_at s x.0) a b x.2 (subst (λ p. SiftsTo fs limit k (suc v) (order_at s p) b) same y.2)

-- ---- some place is the sifted one
-- the least number below n of a kind, where the numbers are compared by f and then by themselves
abbrev NoWorse : (ℕ → ℕ) → ℕ → ℕ → Type 0
NoWorse f p j = (f p < f j) ⊎ ((f p ≡ f j) × (p ≤ j))

module _ (P : ℕ → Type 0) (decide : (j : ℕ) → P j ⊎ (P j → ⊥)) (f : ℕ → ℕ) where
  abbrev IsLeastBelow : ℕ → ℕ → Type 0
  IsLeastBelow n p = (p < n) × P p × ((j : ℕ) → j < n → P j → NoWorse f p j)

  abbrev IsNoneBelow : ℕ → Type 0
  IsNoneBelow n = (j : ℕ) → j < n → P j → ⊥

  first_one : (n : ℕ) → IsNoneBelow n → P n → IsLeastBelow (suc n) n
  first_one n none is = (
    omega arith,
    is,
    λ j lt at. elim (cases_lt j n) [
      | inl less ↦ absurd (none j less at)
      | inr le ↦ (let e : n ≡ j = omega (arith, lt, le) in inr (ap f e, omega (arith, e)))
    ],
  )

  not_it : (n : ℕ) → IsNoneBelow n → (P n → ⊥) → IsNoneBelow (suc n)
  not_it n none no_one j lt at = elim (cases_lt j n) [
    | inl less ↦ none j less at
    | inr le ↦ (let e : j ≡ n = omega (arith, lt, le) in no_one (subst P e at))
  ]

  still : (n p : ℕ) → IsLeastBelow n p → (P n → NoWorse f p n) → IsLeastBelow (suc n) p
  still n p best last = (
    let lt = best.0 in omega (arith, lt),
    best.1,
    λ j lt at. elim (cases_lt j n) [
      | inl less ↦ best.2 j less at
      | inr le ↦ (let e : j ≡ n = omega (arith, lt, le) in subst (NoWorse f p) (sym e) (last (subst P e at)))
    ],
  )

  better : (a b c : ℕ) (p j : ℕ) → a < b → (b < c) ⊎ ((b ≡ c) × (p ≤ j)) → a < c
  better a b c p j lt (inl x) = omega (arith, lt, x)
  better a b c p j lt (inr x) = let e = x.0 in omega (arith, lt, e)

  improved : (n p : ℕ) → IsLeastBelow n p → P n → f n < f p → IsLeastBelow (suc n) n
  improved n p best is lt = (
    omega arith,
    is,
    λ j less at. elim (cases_lt j n) [
      | inl below ↦ inl (better (f n) (f p) (f j) p j lt (best.2 j below at))
      | inr le ↦ (let e : n ≡ j = omega (arith, less, le) in inr (ap f e, omega (arith, e)))
    ],
  )

  compared : (n p : ℕ) → IsLeastBelow n p → P n → (q : ℕ) × IsLeastBelow (suc n) q
  compared n p best is = elim (cases_lt (f n) (f p)) [
    | inl lt ↦ (n, improved n p best is lt)
    | inr le ↦ (p, still n p best (λ at. (let lt = best.0 in no_worse (f p) (f n) p n le (omega (arith, lt)))))
  ]
    where
      no_worse : (a b q j : ℕ) → a ≤ b → q ≤ j → (a < b) ⊎ ((a ≡ b) × (q ≤ j))
      no_worse a b q j le qj = elim (cases_lt a b) [ inl lt ↦ inl lt | inr ge ↦ inr (omega (arith, le, ge), qj) ]

  pub least_below : (n : ℕ) → ((p : ℕ) × IsLeastBelow n p) ⊎ IsNoneBelow n
  least_below zero = inr (λ j lt at. omega (arith, lt))
  least_below (suc n) =
      elim (least_below n) [
        | inl best ↦ elim (decide n) [
          | inl is ↦ inl (compared n best.0 best.1 is)
          | inr lacks ↦ inl (best.0, still n best.0 best.1 (λ at. absurd (lacks at)))
        ]
        | inr none ↦ elim (decide n) [
          | inl is ↦ inl (n, first_one n none is)
          | inr lacks ↦ inr (not_it n none lacks)
        ]
      ]

-- whether a place is reached
module _ (s : Sift) (within : first s < length s.order) where
  room_or_not : (j i : ℕ) → HasRoom s j i ⊎ (HasRoom s j i → ⊥)
  room_or_not j i = elim (cases_lt s.limit (size_at s j + 4 * level_at s j i)) [
    | inl lt ↦ inr (λ le. omega (arith, lt, le))
    | inr le ↦ inl le
  ]

  lower : (d j : ℕ) → j ≡ first s + d → IsReached s j ⊎ (IsReached s j → ⊥)
  lower zero j at = inl (let e : first s ≡ j = omega (arith, at) in subst (IsReached s) e (let h : IsReached s (first s) = here in h))
  lower (suc d) j at =
      let i = first s + d in
      let next : i + 1 ≡ j = omega (arith, at) in
      elim (lower d i refl) [
        | inl there ↦ elim (cases_lt (i + 1) (length s.order)) [
          | inl lt ↦ elim (room_or_not i i) [
            | inl room ↦ inl (subst (IsReached s) next (down i (omega arith) there lt room))
            | inr short ↦ inr (λ r. short (down_to s j i r (omega arith) (omega (arith, next))).1)
          ]
          | inr le ↦ inr (λ r. let w = reached_within s j within r in omega (arith, w, le, next))
        ]
        | inr missed ↦ inr (λ r. missed (down_to s j i r (omega arith) (omega (arith, next))).0)
      ]

  upper : (d j : ℕ) → j + d ≡ first s → IsReached s j ⊎ (IsReached s j → ⊥)
  upper zero j at = inl (let e : first s ≡ j = omega (arith, at) in subst (IsReached s) e (let h : IsReached s (first s) = here in h))
  upper (suc d) j at =
      elim (upper d (j + 1) (omega (arith, at))) [
        | inl there ↦ elim (room_or_not (j + 1) j) [
          | inl room ↦ inl (up j (omega (arith, at)) there room)
          | inr short ↦ inr (λ r. short (up_from s j j r (omega arith) (omega (arith, at))).1)
        ]
        | inr missed ↦ inr (λ r. missed (up_from s j j r (omega arith) (omega (arith, at))).0)
      ]

  reached_or_not : (j : ℕ) → IsReached s j ⊎ (IsReached s j → ⊥)
  reached_or_not j = elim (cases_lt j (first s)) [
    | inl lt ↦ upper (gap j (first s) lt).0 j (gap j (first s) lt).1
    | inr le ↦ lower (over j (first s) le).0 j (over j (first s) le).1
  ]
    where
      gap : (a b : ℕ) → a < b → (d : ℕ) × (a + d ≡ b)
      gap zero b lt = (b, omega arith)
      gap (suc a) zero lt = absurd (omega (arith, lt))
      gap (suc a) (suc b) lt = let r = gap a b (omega (arith, lt)) in (r.0, let e = r.1 in omega (arith, e))

      over : (a b : ℕ) → b ≤ a → (d : ℕ) × (a ≡ b + d)
      over a zero le = (a, omega arith)
      over zero (suc b) le = absurd (omega (arith, le))
      over (suc a) (suc b) le = let r = over a b (omega (arith, le)) in (r.0, let e = r.1 in omega (arith, e))

  pub some_place : (p : ℕ) × IsSiftedPlace s p
  some_place = elim (least_below (IsReached s) reached_or_not (size_at s) (length s.order)) [
    | inl best ↦ (best.0, record { reached = best.1.1; least = λ j r. best.1.2 j (reached_within s j within r) r })
    | inr none ↦ absurd (none (first s) within (let h : IsReached s (first s) = here in h))
  ]

-- ---- it is an order
step_order : (fs : List Function) (limit : ℕ) (order : List ℕ) (v j : ℕ) → IsOrder order → v < length order → IsOrder (order_at (sift_in fs limit order v) j)
step_order fs limit order v j is lt = moved_order order v j is lt

step_length : (fs : List Function) (limit : ℕ) (order : List ℕ) (v j : ℕ) → IsOrder order → v < length order → length (order_at (sift_in fs limit order v) j) ≡ length order
step_length fs limit order v j is lt = length_order_at (sift_in fs limit order v) j (is.all v lt)

pub sifts_order : (fs : List Function) (limit k v : ℕ) (order new : List ℕ) → IsOrder order → v + k ≤ length order → SiftsTo fs limit k v order new → IsOrder new × (length new ≡ length order)
sifts_order fs limit zero v order new is le to = (subst IsOrder (sym to) is, ap length to)
sifts_order fs limit (suc k) v order new is le to =
    let next = order_at (sift_in fs limit order v) to.0 in
    let long : length next ≡ length order = step_length fs limit order v to.0 is (omega (arith, le)) in
    let rest = sifts_order fs limit k (suc v) next new (step_order fs limit order v to.0 is (omega (arith, le))) (omega (arith, le, long)) to.2 in
    (rest.0, rest.1 ∙ long)

pub some_order : (fs : List Function) (limit k v : ℕ) (order : List ℕ) → IsOrder order → v + k ≤ length order → (new : List ℕ) × SiftsTo fs limit k v order new
some_order fs limit zero v order is le = (order, refl)
some_order fs limit (suc k) v order is le =
    let s = sift_in fs limit order v in
    let at = some_place s (place_within order v (is.all v (omega (arith, le)))) in
    let next = order_at s at.0 in
    let long : length next ≡ length order = step_length fs limit order v at.0 is (omega (arith, le)) in
    let rest = some_order fs limit k (suc v) next (step_order fs limit order v at.0 is (omega (arith, le))) (omega (arith, le, long)) in
    (rest.0, (at.0, at.1, rest.1))

-- ---- the answers in turn lead to it
pub turns_to : (fs : List Function) (limit : ℕ) (order : List ℕ) (v : ℕ) (rs : List Sifted) → AreInTurn fs limit order v rs → SiftsTo fs limit (length rs) v order (last_order order rs)
unfolding last_order
turns_to fs limit order v [] turns = refl
turns_to fs limit order v (r ∷ rs) turns =
    (r.place, turns.0.at, subst (λ o. SiftsTo fs limit (length rs) (suc v) o (last_order r.order rs)) turns.0.order_is (turns_to fs limit r.order (suc v) rs turns.1))
