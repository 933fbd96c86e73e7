-- The two variables of a swap, and the variables above both, by their places.
use Rattle.std.proofs.Common.{◌≡◌, ◌≢◌, ◌⊎◌, ℕ, zero, suc, ◌+◌, ◌<◌, Bool, true, false, eqb, List, [], ◌∷◌, length, Option, Some, None, inl, inr, refl, sym, ◌∙◌, ap, arith, slice_index, eq-eqb}
use Rattle.std.proofs.lemmas.Bool.{cases_Bool, cases_eq, cond-true, cond-false, ne_eqb, false≢true}
use Rattle.bit_lists.specs.Orders.{has, after, place_in, exchanged, AreVars}
use Rattle.bit_lists.proofs.Variables.{has_at}
use Rattle.diagram_model.specs.declared.parts.Parts.{Parts}
use Rattle.diagram_model.specs.Nodes.{parts_of, child, IsLiveIn, IsDiagram}
use Rattle.diagram_model.specs.Stores.{Diagram, IsSound}
use Rattle.diagram_model.proofs.Canonical.{some_same, live-child}
use Rattle.diagram_model.proofs.Heights.{at_place_in}
use Rattle.diagram_model.proofs.Values.{none_some, has-after}
use Rattle.sifting.proofs.PlaceLemmas.{exchanged_suc}

live_var : (s : List (Option Parts)) (ws : List ℕ) (n : ℕ) (q : Parts) → ((m : ℕ) → m < 2 → parts_of s m ≡ None) → parts_of s n ≡ Some q → IsLiveIn s ws n → has ws q.var ≡ true
live_var s ws n q ground is (inl h) = absurd (none_some q (sym (ground n h) ∙ is))
live_var s ws n q ground is (inr h) = ap (λ (r : Parts). has ws r.var) (some_same q h.parts (sym is ∙ h.is)) ∙ h.below

place_after : (vs : List ℕ) (k v w : ℕ) → AreVars k vs → has vs v ≡ true → has (after vs v) w ≡ true → place_in vs v < place_in vs w
unfolding has after place_in
place_after [] k v w vars hv hw = absurd (false≢true hv)
place_after (x ∷ xs) k v w vars hv hw =
    elim (cases_Bool (eqb x v)) [
      | inl e ↦
          let below : has xs w ≡ true = sym (ap (λ l. has l w) (cond-true (eqb x v) xs (after xs v) e)) ∙ hw in
          let ne : eqb x w ≡ false = ne_eqb x w (λ f. false≢true (sym vars.1 ∙ (ap (has xs) f ∙ below))) in
          let a = cond-true (eqb x v) 0 (suc (place_in xs v)) e in
          let b = cond-false (eqb x w) 0 (suc (place_in xs w)) ne in
          omega (arith, a, b)
      | inr e ↦
          let below : has (after xs v) w ≡ true = sym (ap (λ l. has l w) (cond-false (eqb x v) xs (after xs v) e)) ∙ hw in
          let there : has xs v ≡ true = sym (cond-false (eqb x v) true (has xs v) e) ∙ hv in
          let ne : eqb x w ≡ false = ne_eqb x w (λ f. false≢true (sym vars.1 ∙ (ap (has xs) f ∙ has-after xs v w below))) in
          let r = place_after xs k v w vars.2 there below in
          let a = cond-false (eqb x v) 0 (suc (place_in xs v)) e in
          let b = cond-false (eqb x w) 0 (suc (place_in xs w)) ne in
          omega (arith, a, b, r)
    ]

-- a held child stands below its parent
pub child_place : (s : List (Option Parts)) (k : ℕ) (vs : List ℕ) (n : ℕ) (p q : Parts) (b : Bool) → IsDiagram s k vs → parts_of s n ≡ Some p → parts_of s (child b p) ≡ Some q → place_in vs p.var < place_in vs q.var
child_place s k vs n p q b d is at =
    place_after vs k p.var q.var d.order (d.within n p is)
    (live_var s (after vs p.var) (child b p) q d.ground at (live-child s vs p (d.proper n p is (d.within n p is)) b))

pub place_at : (k : ℕ) (vs : List ℕ) (i : ℕ) → AreVars k vs → i < length vs → place_in vs (slice_index vs i) ≡ i
unfolding place_in
place_at k [] i vars lt = absurd (omega arith)
place_at k (v ∷ vs) zero vars lt = cond-true (eqb v v) 0 (suc (place_in vs v)) (eq-eqb v v refl)
place_at k (v ∷ vs) (suc i) vars lt =
    let w = slice_index vs i in
    let ne : v ≢ w = λ e. false≢true (sym vars.1 ∙ (ap (has vs) e ∙ has_at vs w i (omega arith) refl)) in
    cond-false (eqb v w) 0 (suc (place_in vs w)) (ne_eqb v w ne) ∙ ap suc (place_at k vs i vars.2 (omega arith))

-- the swap of u and v, above which stand the variables of Above
pub record IsPair (s : List (Option Parts)) (u v : ℕ) (Above : ℕ → Type 0) : Type 0 where
  pub differ : u ≢ v
  pub not_u : Above u → ⊥
  pub not_v : Above v → ⊥
  pub over_u : (q : ℕ) (p r : Parts) (b : Bool) → parts_of s q ≡ Some p → parts_of s (child b p) ≡ Some r → r.var ≡ u → Above p.var
  pub over_v : (q : ℕ) (p r : Parts) (b : Bool) → parts_of s q ≡ Some p → parts_of s (child b p) ≡ Some r → r.var ≡ v → (p.var ≡ u) ⊎ (Above p.var)

-- the variables at a place and at the next one, below those of the places above
pub pair_at : (d : Diagram) (i : ℕ) → IsSound d → i + 1 < length d.order → IsPair d.slots (slice_index d.order i) (slice_index d.order (i + 1)) (λ x. place_in d.order x < i)
pair_at d i sound lt =
    let vs = d.order in
    let u = slice_index vs i in
    let v = slice_index vs (i + 1) in
    let k = length vs in
    let g = sound.diagram in
    let pu : place_in vs u ≡ i = place_at k vs i g.order (omega arith) in
    let pv : place_in vs v ≡ i + 1 = place_at k vs (i + 1) g.order lt in
    record {
      differ = λ e. let f = ap (place_in vs) e in absurd (omega (arith, pu, pv, f));
      not_u = λ h. absurd (omega (arith, h, pu));
      not_v = λ h. absurd (omega (arith, h, pv));
      over_u = λ q p r b is there at.
          let a = child_place d.slots k vs q p r b g is there in
          let f = ap (place_in vs) at in
          omega (arith, a, f, pu);
      over_v = λ q p r b is there at.
          let a = child_place d.slots k vs q p r b g is there in
          let f = ap (place_in vs) at in
          elim (cases_eq (place_in vs p.var) i) [
            | inl e ↦ inl (sym (at_place_in vs p.var (g.within q p is)) ∙ ap (slice_index vs) e)
            | inr ne ↦ inr (omega (arith, a, f, pv, ne))
          ];
    }

-- an exchange leaves what stands above it
pub above_exchanged : (vs : List ℕ) (i x : ℕ) → place_in (exchanged vs i) x < i → place_in vs x ≡ place_in (exchanged vs i) x
unfolding place_in
above_exchanged vs zero x h = absurd (omega arith)
above_exchanged [] (suc i) x h = refl
above_exchanged (w ∷ vs) (suc i) x h =
    let e : place_in (exchanged (w ∷ vs) (suc i)) x ≡ place_in (w ∷ exchanged vs i) x = ap (λ l. place_in l x) (exchanged_suc w vs i) in
    elim (cases_Bool (eqb w x)) [
      | inl f ↦
          let a = cond-true (eqb w x) 0 (suc (place_in vs x)) f in
          let b = cond-true (eqb w x) 0 (suc (place_in (exchanged vs i) x)) f in
          omega (arith, a, b, e)
      | inr f ↦
          let a = cond-false (eqb w x) 0 (suc (place_in vs x)) f in
          let b = cond-false (eqb w x) 0 (suc (place_in (exchanged vs i) x)) f in
          let r = above_exchanged vs i x (omega (arith, h, e, b)) in
          omega (arith, a, b, e, r)
    ]

pub exchanged_above : (vs : List ℕ) (i x : ℕ) → place_in vs x < i → place_in (exchanged vs i) x ≡ place_in vs x
unfolding place_in
exchanged_above vs zero x h = absurd (omega arith)
exchanged_above [] (suc i) x h = refl
exchanged_above (w ∷ vs) (suc i) x h =
    let e : place_in (exchanged (w ∷ vs) (suc i)) x ≡ place_in (w ∷ exchanged vs i) x = ap (λ l. place_in l x) (exchanged_suc w vs i) in
    elim (cases_Bool (eqb w x)) [
      | inl f ↦
          let a = cond-true (eqb w x) 0 (suc (place_in vs x)) f in
          let b = cond-true (eqb w x) 0 (suc (place_in (exchanged vs i) x)) f in
          omega (arith, a, b, e)
      | inr f ↦
          let a = cond-false (eqb w x) 0 (suc (place_in vs x)) f in
          let b = cond-false (eqb w x) 0 (suc (place_in (exchanged vs i) x)) f in
          let r = exchanged_above vs i x (omega (arith, h, a)) in
          omega (arith, e, a, b, r)
    ]

-- the lower variable stands at the place afterwards
pub second_first : (vs : List ℕ) (i : ℕ) → i + 1 < length vs → slice_index (exchanged vs i) i ≡ slice_index vs (i + 1)
second_first [] i lt = absurd (omega arith)
second_first (u ∷ []) i lt = absurd (omega arith)
second_first (u ∷ v ∷ vs) zero lt = refl
second_first (u ∷ v ∷ vs) (suc i) lt =
    ap (λ l. slice_index l (suc i)) (exchanged_suc u (v ∷ vs) i) ∙ second_first (v ∷ vs) i (omega arith)
    ∙ ap (slice_index (u ∷ v ∷ vs)) (let e : suc (i + 1) ≡ suc i + 1 = omega arith in e)
