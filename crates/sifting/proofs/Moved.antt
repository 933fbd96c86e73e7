-- A variable moved to another place of an order leaves an order.
use Rattle.std.proofs.Common.{◌≡◌, ℕ, zero, suc, ◌<◌, Bool, true, false, cond, eqb, List, [], ◌∷◌, length, inl, inr, refl, sym, ◌∙◌, ap, subst, arith, eq-eqb}
use Rattle.std.proofs.lemmas.Bool.{cases_Bool, cond-true, cond-false, eqb-true, false≢true}
use Rattle.bit_lists.specs.Orders.{has, place_in, AreVars, IsOrder}
use Rattle.sifting.specs.Places.{moved}
use Rattle.sifting.specs.Private.{without, put_at}
use Rattle.sifting.proofs.PlaceLemmas.{moved_is}
use Rattle.sifting.proofs.Reached.{length_moved}

-- ---- what is in the order
either_way : (a b c : Bool) → cond a true (cond b true c) ≡ cond b true (cond a true c)
either_way true true c = refl
either_way true false c = refl
either_way false true c = refl
either_way false false c = refl

has_put : (v j : ℕ) (ws : List ℕ) (w : ℕ) → has (put_at v j ws) w ≡ cond (eqb v w) true (has ws w)
unfolding has put_at
has_put v zero ws w = refl
has_put v (suc j) [] w = refl
has_put v (suc j) (x ∷ ws) w = ap (cond (eqb x w) true) (has_put v j ws w) ∙ either_way (eqb x w) (eqb v w) (has ws w)

-- a variable that is not in the list is none of its own
other : (x v : ℕ) (ws : List ℕ) → has (x ∷ ws) v ≡ false → (eqb x v ≡ false) × (has ws v ≡ false)
unfolding has
other x v ws out =
    elim (cases_Bool (eqb x v)) [
      | inl e ↦ absurd (false≢true (sym out ∙ cond-true (eqb x v) true (has ws v) e))
      | inr e ↦ (e, sym (cond-false (eqb x v) true (has ws v) e) ∙ out)
    ]

turned : (v x : ℕ) → eqb x v ≡ false → eqb v x ≡ false
turned v x e = elim (cases_Bool (eqb v x)) [ inl f ↦ absurd (false≢true (sym e ∙ eq-eqb x v (sym (eqb-true v x f)))) | inr f ↦ f ]

-- what is left without v
has_rest : (k : ℕ) (ws : List ℕ) (v w : ℕ) → AreVars k ws → has (without ws v) w ≡ cond (eqb v w) false (has ws w)
unfolding has without
has_rest k [] v w vars = elim (cases_Bool (eqb v w)) [ inl e ↦ sym (cond-true (eqb v w) false false e) | inr e ↦ sym (cond-false (eqb v w) false false e) ]
has_rest k (x ∷ ws) v w vars =
    elim (cases_Bool (eqb x v)) [
      | inl at ↦
          let same : x ≡ v = eqb-true x v at in
          ap (λ l. has l w) (cond-true (eqb x v) ws (x ∷ without ws v) at)
          ∙ elim (cases_Bool (eqb v w)) [
            | inl e ↦ (let gone : has ws w ≡ false = ap (has ws) (sym (same ∙ eqb-true v w e)) ∙ vars.1 in gone ∙ sym (cond-true (eqb v w) false (cond (eqb x w) true (has ws w)) e))
            | inr e ↦
                let f : eqb x w ≡ false = ap (λ y. eqb y w) same ∙ e in
                sym (cond-false (eqb x w) true (has ws w) f) ∙ sym (cond-false (eqb v w) false (cond (eqb x w) true (has ws w)) e)
          ]
      | inr off ↦
          ap (λ l. has l w) (cond-false (eqb x v) ws (x ∷ without ws v) off)
          ∙ ap (cond (eqb x w) true) (has_rest k ws v w vars.2)
          ∙ elim (cases_Bool (eqb v w)) [
            | inl e ↦
                let f : eqb x w ≡ false = ap (eqb x) (sym (eqb-true v w e)) ∙ off in
                cond-false (eqb x w) true (cond (eqb v w) false (has ws w)) f ∙ cond-true (eqb v w) false (has ws w) e ∙ sym (cond-true (eqb v w) false (cond (eqb x w) true (has ws w)) e)
            | inr e ↦ ap (cond (eqb x w) true) (cond-false (eqb v w) false (has ws w) e) ∙ sym (cond-false (eqb v w) false (cond (eqb x w) true (has ws w)) e)
          ]
    ]

-- ---- each variable stands once
vars_put : (k v j : ℕ) (ws : List ℕ) → v < k → has ws v ≡ false → AreVars k ws → AreVars k (put_at v j ws)
unfolding has put_at
vars_put k v zero ws lt out vars = (lt, out, vars)
vars_put k v (suc j) [] lt out vars = (lt, out, tt)
vars_put k v (suc j) (x ∷ ws) lt out vars =
    let o = other x v ws out in
    (vars.0, has_put v j ws x ∙ cond-false (eqb v x) true (has ws x) (turned v x o.0) ∙ vars.1, vars_put k v j ws lt o.1 vars.2)

vars_rest : (k v : ℕ) (ws : List ℕ) → AreVars k ws → AreVars k (without ws v)
unfolding without
vars_rest k v [] vars = tt
vars_rest k v (x ∷ ws) vars =
    elim (cases_Bool (eqb x v)) [
      | inl e ↦ subst (AreVars k) (sym (cond-true (eqb x v) ws (x ∷ without ws v) e)) vars.2
      | inr e ↦
          let out : has (without ws v) x ≡ false = has_rest k ws v x vars.2 ∙ ap (cond (eqb v x) false) vars.1 ∙ none (eqb v x) in
          subst (AreVars k) (sym (cond-false (eqb x v) ws (x ∷ without ws v) e)) (vars.0, out, vars_rest k v ws vars.2)
    ]
  where
    none : (b : Bool) → cond b false false ≡ false
    none true = refl
    none false = refl

-- ---- the order
pub moved_order : (order : List ℕ) (v j : ℕ) → IsOrder order → v < length order → IsOrder (moved order v j)
moved_order order v j is lt =
    let k = length order in
    let long : length (moved order v j) ≡ k = length_moved order v j (is.all v lt) in
    let out : has (without order v) v ≡ false = has_rest k order v v is.once ∙ cond-true (eqb v v) false (has order v) (eq-eqb v v refl) in
    record {
      once = subst (λ n. AreVars n (moved order v j)) (sym long) (subst (AreVars k) (sym (moved_is order v j)) (vars_put k v j (without order v) lt out (vars_rest k v order is.once)));
      all = λ w less.
          ap (λ vs. has vs w) (moved_is order v j) ∙ has_put v j (without order v) w ∙ ap (cond (eqb v w) true) (has_rest k order v w is.once)
          ∙ back (eqb v w) (has order w) (is.all w (omega (arith, less, long)));
    }
  where
    back : (b c : Bool) → c ≡ true → cond b true (cond b false c) ≡ true
    back true c h = refl
    back false c h = h

pub place_within : (vs : List ℕ) (v : ℕ) → has vs v ≡ true → place_in vs v < length vs
unfolding has place_in
place_within [] v h = absurd (false≢true h)
place_within (w ∷ ws) v h =
    elim (cases_Bool (eqb w v)) [
      | inl e ↦ (let at = cond-true (eqb w v) 0 (suc (place_in ws v)) e in omega (arith, at))
      | inr e ↦
          let at = cond-false (eqb w v) 0 (suc (place_in ws v)) e in
          let rest = place_within ws v (sym (cond-false (eqb w v) true (has ws v) e) ∙ h) in
          omega (arith, at, rest)
    ]
