-- Variables of an order: where each stands, and what an exchange leaves.
use Rattle.std.proofs.Common.{◌≡◌, ◌≢◌, ◌⊎◌, inl, inr, ℕ, zero, suc, ◌+◌, ◌<◌, ◌≤◌, true, false, eqb, List, [], ◌∷◌, length, refl, sym, ◌∙◌, ap, arith, set, get_or, take, eq-eqb}
use Rattle.std.specs.List.{range_with_len}
use Rattle.std.proofs.lemmas.Bool.{cases_eq, cases_Bool, cond-true, cond-false, ne_eqb, false≢true}
use Rattle.std.proofs.lemmas.List.{ext_get_or, get_or-take, length-take-le, get_or-set_same, get_or-set_other, length-set}
use Rattle.std.proofs.lemmas.List.FromFn.{length-range_with_len, get_or-range_with_len}
use Rattle.bit_lists.specs.Orders.{has, AreVars, IsOrder, exchanged}
use Rattle.bit_lists.specs.KeptOrders.{IsKeptOrder, kept_at}
pub use Rattle.bit_lists.specs.KeptOrders.{length-kept_order, kept_place}

-- what is in a list and not its head is in its tail
pub has-tail : (w v : ℕ) (ws : List ℕ) → has (w ∷ ws) v ≡ true → w ≢ v → has ws v ≡ true
unfolding has
has-tail w v ws h ne = sym (cond-false (eqb w v) true (has ws v) (ne_eqb w v ne)) ∙ h

-- what is in the tail is in the list
pub has-head : (w v : ℕ) (ws : List ℕ) → has ws v ≡ true → has (w ∷ ws) v ≡ true
unfolding has
has-head w v ws h = elim (cases_Bool (eqb w v)) [ inl e ↦ cond-true (eqb w v) true (has ws v) e | inr e ↦ cond-false (eqb w v) true (has ws v) e ∙ h ]

-- the head is in the list
pub has-here : (v : ℕ) (vs : List ℕ) (w : ℕ) → w ≡ v → has (v ∷ vs) w ≡ true
unfolding has
has-here v vs w e = cond-true (eqb v w) true (has vs w) (eq-eqb v w (sym e))

-- a variable of the list stands at some place
pub some_at : (vs : List ℕ) (v : ℕ) → has vs v ≡ true → (k : ℕ) × (k < length vs) × (get_or vs k 0 ≡ v)
unfolding has
some_at [] v h = absurd (false≢true h)
some_at (u ∷ us) v h =
    elim (cases_eq u v) [
      | inl e ↦ (0, omega arith, e)
      | inr ne ↦ let r = some_at us v (has-tail u v us h ne) in (suc r.0, omega (arith, r.1), r.2)
    ]

-- what stands at a place is in the list
pub has_at : (vs : List ℕ) (v k : ℕ) → k < length vs → get_or vs k 0 ≡ v → has vs v ≡ true
has_at [] v k lt at = absurd (omega arith)
has_at (u ∷ us) v zero lt at = has-here u us v (sym at)
has_at (u ∷ us) v (suc k) lt at = has-head u v us (has_at us v k (omega arith) at)

-- different numbers below k are variables
are_vars : (k : ℕ) (vs : List ℕ) → ((i : ℕ) → i < length vs → get_or vs i 0 < k) → ((i j : ℕ) → i < length vs → j < length vs → get_or vs i 0 ≡ get_or vs j 0 → i ≡ j) → AreVars k vs
are_vars k [] below apart = tt
are_vars k (v ∷ vs) below apart =
    let once : has vs v ≡ false =
    elim (cases_Bool (has vs v)) [
      | inl h ↦ let r = some_at vs v h in absurd (let e : 0 ≡ suc r.0 = apart 0 (suc r.0) (omega arith) (omega (arith, r.1)) (sym r.2) in omega arith)
      | inr h ↦ h
    ] in
    (below 0 (omega arith), once, are_vars k vs (λ i lt. below (suc i) (omega arith)) (λ i j hi hj e. let f : suc i ≡ suc j = apart (suc i) (suc j) (omega arith) (omega arith) e in omega arith))

-- what is kept is an order
module _ (n : ℕ) (vs ps : List ℕ) (kept : IsKeptOrder n vs ps) where
  pub kept_is_order : IsOrder (take n vs)
  kept_is_order =
      let len = length-kept_order n vs ps kept in
      record {
        once = are_vars (length (take n vs)) (take n vs)
            (λ i lt. let h : i < n = omega arith in let below = kept.variable_below i h in omega (arith, kept_at n vs ps kept i h))
            (λ i j hi hj e.
            let hi' : i < n = omega arith in
            let hj' : j < n = omega arith in
            sym (kept.place_at i hi') ∙ ap (λ w. get_or ps w 0) (sym (kept_at n vs ps kept i hi') ∙ e ∙ kept_at n vs ps kept j hj') ∙ kept.place_at j hj');
        all = λ v lt.
            let h : v < n = omega arith in
            let below = kept.place_below v h in
            has_at (take n vs) v (get_or ps v 0) (omega arith) (kept_at n vs ps kept (get_or ps v 0) below ∙ kept.at_place v h);
      }

-- the natural order
pub kept_natural : (n : ℕ) (vs : List ℕ) → n ≤ 128 → length vs ≡ 128 → ((k : ℕ) → k < n → get_or vs k 0 ≡ k) → ((k : ℕ) → n ≤ k → get_or vs k 0 ≡ 0) → IsKeptOrder n vs vs
kept_natural n vs few len same rest = record {
  few = few;
  variables_len = len;
  places_len = len;
  variable_below = λ i lt. omega (arith, same i lt);
  place_below = λ v lt. omega (arith, same v lt);
  place_at = λ i lt. ap (λ w. get_or vs w 0) (same i lt) ∙ same i lt;
  at_place = λ v lt. ap (λ w. get_or vs w 0) (same v lt) ∙ same v lt;
  variable_rest = rest;
  place_rest = rest;
}

-- it is seen as the numbers in their order
pub view-natural : (n : ℕ) (vs : List ℕ) → n ≤ 128 → length vs ≡ 128 → ((k : ℕ) → k < n → get_or vs k 0 ≡ k) → take n vs ≡ range_with_len 0 n
view-natural n vs few len same =
    let size : length (take n vs) ≡ n = length-take-le n vs (omega arith) in
    ext_get_or 0 (take n vs) (range_with_len 0 n) (size ∙ sym (length-range_with_len 0 n)) (λ i lt.
    let h : i < n = omega arith in
    get_or-take n vs i 0 h ∙ same i h ∙ sym (get_or-range_with_len 0 n i 0 h ∙ omega arith))

-- two places of a list are written
pub record TwoSet (xs ys : List ℕ) (i j a b : ℕ) : Type 0 where
  pub first : get_or ys i 0 ≡ a
  pub second : get_or ys j 0 ≡ b
  pub others : (k : ℕ) → k ≢ i → k ≢ j → get_or ys k 0 ≡ get_or xs k 0
  pub same_len : length ys ≡ length xs

-- two writes do so
two_set : (xs : List ℕ) (i j a b : ℕ) → i < length xs → j < length xs → i ≢ j → TwoSet xs (set (set xs i a) j b) i j a b
two_set xs i j a b hi hj ne = record {
  first = get_or-set_other (set xs i a) j i b 0 ne ∙ get_or-set_same xs i a 0 hi;
  second = get_or-set_same (set xs i a) j b 0 (omega (arith, length-set xs i a));
  others = λ k ni nj. get_or-set_other (set xs i a) j k b 0 nj ∙ get_or-set_other xs i k a 0 ni;
  same_len = length-set (set xs i a) j b ∙ length-set xs i a;
}

-- the variables u and l at the places p and q are exchanged
module _ (n : ℕ) (vs ps ws rs : List ℕ) (p q u l : ℕ) (kept : IsKeptOrder n vs ps) (hp : p < n) (hq : q < n) (ne : p ≢ q) (at_p : get_or vs p 0 ≡ u) (at_q : get_or vs q 0 ≡ l) (wrote : TwoSet vs ws p q l u) (placed : TwoSet ps rs l u p q) where
  u_at : get_or ps u 0 ≡ p
  u_at = ap (λ w. get_or ps w 0) (sym at_p) ∙ kept.place_at p hp

  l_at : get_or ps l 0 ≡ q
  l_at = ap (λ w. get_or ps w 0) (sym at_q) ∙ kept.place_at q hq

  u_below : u < n
  u_below = let h = kept.variable_below p hp in omega arith

  l_below : l < n
  l_below = let h = kept.variable_below q hq in omega arith

  -- each place has p's or q's new variable, or its old one
  at_place_cases : (i : ℕ) → ((i ≡ p) × (get_or ws i 0 ≡ l)) ⊎ (((i ≡ q) × (get_or ws i 0 ≡ u)) ⊎ ((i ≢ p) × (i ≢ q) × (get_or ws i 0 ≡ get_or vs i 0)))
  at_place_cases i =
      elim (cases_eq i p) [
        | inl e ↦ inl (e, ap (λ k. get_or ws k 0) e ∙ wrote.first)
        | inr np ↦ elim (cases_eq i q) [
          | inl e ↦ inr (inl (e, ap (λ k. get_or ws k 0) e ∙ wrote.second))
          | inr nq ↦ inr (inr (np, nq, wrote.others i np nq))
        ]
      ]

  of_var_cases : (v : ℕ) → ((v ≡ l) × (get_or rs v 0 ≡ p)) ⊎ (((v ≡ u) × (get_or rs v 0 ≡ q)) ⊎ ((v ≢ l) × (v ≢ u) × (get_or rs v 0 ≡ get_or ps v 0)))
  of_var_cases v =
      elim (cases_eq v l) [
        | inl e ↦ inl (e, ap (λ k. get_or rs k 0) e ∙ placed.first)
        | inr nl ↦ elim (cases_eq v u) [
          | inl e ↦ inr (inl (e, ap (λ k. get_or rs k 0) e ∙ placed.second))
          | inr nu ↦ inr (inr (nl, nu, placed.others v nl nu))
        ]
      ]

  pub kept_exchange : IsKeptOrder n ws rs
  kept_exchange = record {
    few = kept.few;
    variables_len = wrote.same_len ∙ kept.variables_len;
    places_len = placed.same_len ∙ kept.places_len;
    variable_below = λ i lt. elim (at_place_cases i) [
      | inl a ↦ omega (arith, a.1, l_below)
      | inr r ↦ elim r [ inl b ↦ omega (arith, b.1, u_below) | inr c ↦ omega (arith, c.2, kept.variable_below i lt) ]
    ];
    place_below = λ v lt. elim (of_var_cases v) [
      | inl a ↦ omega (arith, a.1)
      | inr r ↦ elim r [ inl b ↦ omega (arith, b.1) | inr c ↦ omega (arith, c.2, kept.place_below v lt) ]
    ];
    place_at = λ i lt. elim (at_place_cases i) [
      | inl a ↦ ap (λ w. get_or rs w 0) a.1 ∙ placed.first ∙ sym a.0
      | inr r ↦ elim r [
        | inl b ↦ ap (λ w. get_or rs w 0) b.1 ∙ placed.second ∙ sym b.0
        | inr c ↦
            let back : get_or ps (get_or vs i 0) 0 ≡ i = kept.place_at i lt in
            let nl : get_or vs i 0 ≢ l = λ e. c.1 (sym back ∙ ap (λ w. get_or ps w 0) e ∙ l_at) in
            let nu : get_or vs i 0 ≢ u = λ e. c.0 (sym back ∙ ap (λ w. get_or ps w 0) e ∙ u_at) in
            ap (λ w. get_or rs w 0) c.2 ∙ placed.others (get_or vs i 0) nl nu ∙ back
      ]
    ];
    at_place = λ v lt. elim (of_var_cases v) [
      | inl a ↦ ap (λ k. get_or ws k 0) a.1 ∙ wrote.first ∙ sym a.0
      | inr r ↦ elim r [
        | inl b ↦ ap (λ k. get_or ws k 0) b.1 ∙ wrote.second ∙ sym b.0
        | inr c ↦
            let back : get_or vs (get_or ps v 0) 0 ≡ v = kept.at_place v lt in
            let np : get_or ps v 0 ≢ p = λ e. c.1 (sym back ∙ ap (λ k. get_or vs k 0) e ∙ at_p) in
            let nq : get_or ps v 0 ≢ q = λ e. c.0 (sym back ∙ ap (λ k. get_or vs k 0) e ∙ at_q) in
            ap (λ k. get_or ws k 0) c.2 ∙ wrote.others (get_or ps v 0) np nq ∙ back
      ]
    ];
    variable_rest = λ i past. wrote.others i (λ e. absurd (omega arith)) (λ e. absurd (omega arith)) ∙ kept.variable_rest i past;
    place_rest = λ v past. placed.others v (λ e. absurd (omega (arith, l_below))) (λ e. absurd (omega (arith, u_below))) ∙ kept.place_rest v past;
  }

-- an exchange as it is seen
view_exchange : (vs : List ℕ) (n p : ℕ) → suc p < n → n ≤ length vs → take n (set (set vs p (get_or vs (suc p) 0)) (suc p) (get_or vs p 0)) ≡ exchanged (take n vs) p
view_exchange [] n p h le = absurd (omega arith)
view_exchange (u ∷ vs) zero p h le = absurd (omega arith)
view_exchange (u ∷ []) (suc n) p h le = absurd (omega arith)
view_exchange (u ∷ v ∷ vs) (suc zero) p h le = absurd (omega arith)
view_exchange (u ∷ v ∷ vs) (suc (suc n)) zero h le = refl
view_exchange (u ∷ v ∷ vs) (suc (suc n)) (suc p) h le = ap (λ l. u ∷ l) (view_exchange (v ∷ vs) (suc n) p (omega arith) (omega arith))

-- what an exchange leaves
pub exchange_kept : (n : ℕ) (vs ps : List ℕ) (p q u l : ℕ) → IsKeptOrder n vs ps → q ≡ p + 1 → q < n → get_or vs p 0 ≡ u → get_or vs q 0 ≡ l → IsKeptOrder n (set (set vs p l) q u) (set (set ps l p) u q) × (take n (set (set vs p l) q u) ≡ exchanged (take n vs) p)
exchange_kept n vs ps p q u l kept next lt at_p at_q =
    let below_l = kept.variable_below q lt in
    let below_u = kept.variable_below p (omega arith) in
    let apart : l ≢ u = λ e. let same : p ≡ q = sym (kept.place_at p (omega arith)) ∙ ap (λ w. get_or ps w 0) (at_p ∙ sym e ∙ sym at_q) ∙ kept.place_at q lt in absurd (omega arith) in
    let wrote = two_set vs p q l u (omega (arith, kept.few, kept.variables_len)) (omega (arith, kept.few, kept.variables_len)) (λ e. absurd (omega arith)) in
    let placed = two_set ps l u p q (omega (arith, kept.few, kept.places_len)) (omega (arith, kept.few, kept.places_len)) apart in
    let step : q ≡ suc p = omega arith in
    let view = view_exchange vs n p (omega arith) (omega (arith, kept.few, kept.variables_len)) in (
      kept_exchange n vs ps (set (set vs p l) q u) (set (set ps l p) u q) p q u l kept (omega arith) lt (λ e. absurd (omega arith)) at_p at_q wrote placed,
      rw (sym at_p, sym at_q, step) view,
    )

-- the natural order is one
pub natural_is_order : (n : ℕ) → IsOrder (range_with_len 0 n)
natural_is_order n =
    let len : length (range_with_len 0 n) ≡ n = length-range_with_len 0 n in
    let at : (i : ℕ) → i < n → get_or (range_with_len 0 n) i 0 ≡ i = λ i lt. get_or-range_with_len 0 n i 0 lt ∙ omega arith in
    record {
      once = are_vars (length (range_with_len 0 n)) (range_with_len 0 n)
          (λ i lt. let h : i < n = omega arith in omega (arith, at i h))
          (λ i j hi hj e. sym (at i (omega arith)) ∙ e ∙ at j (omega arith));
      all = λ v lt. let h : v < n = omega arith in has_at (range_with_len 0 n) v v lt (at v h);
    }
