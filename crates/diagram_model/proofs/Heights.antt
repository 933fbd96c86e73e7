-- How high a node stands, and what stands below.
use Rattle.std.proofs.Common.{◌≡◌, ◌≢◌, ◌⊎◌, ℕ, suc, ◌+◌, ◌<◌, ◌≤◌, Bool, true, false, eqb, List, [], ◌∷◌, length, Option, Some, None, get_or, ◌-◌, max, inl, inr, refl, sym, ◌∙◌, ap, arith, eq-eqb}
use Rattle.std.proofs.lemmas.Bool.{cases_eq, cond-true, cond-false, ne_eqb, false≢true}
use Rattle.bit_lists.proofs.Variables.{has-here, has-head, has-tail}
use Rattle.bit_lists.specs.Orders.{has, after, place_in}
use Rattle.diagram_model.specs.Nodes.{parts_of, child, follow, IsLiveIn}
use Rattle.diagram_model.specs.Stores.{Diagram, IsLive, IsSound, IsTop, HasVariable, from, depth, depth_of}
use Rattle.diagram_model.specs.declared.parts.Parts.{Parts}
use Rattle.diagram_model.proofs.Canonical.{some_same, follow-at, follow-other, after-head, after-tail}
use Rattle.diagram_model.proofs.Values.{length-after, none_some}

pub follow_some : (s : List (Option Parts)) (v : ℕ) (b : Bool) (n : ℕ) (p : Parts) → parts_of s n ≡ Some p → p.var ≡ v → follow s v b n ≡ child b p
follow_some s v b n p is at = follow-at s v n p is at b

pub follow_else : (s : List (Option Parts)) (v : ℕ) (b : Bool) (n : ℕ) (p : Parts) → parts_of s n ≡ Some p → p.var ≢ v → follow s v b n ≡ n
follow_else s v b n p is ne = follow-other s v n (λ q qs at. ne (ap (λ (r : Parts). r.var) (some_same p q (sym is ∙ qs)) ∙ at)) b

pub follow_none : (s : List (Option Parts)) (v : ℕ) (b : Bool) (n : ℕ) → parts_of s n ≡ None → follow s v b n ≡ n
follow_none s v b n is = follow-other s v n (λ q qs at. none_some q (sym is ∙ qs)) b

-- a variable with no more variables below it stands at v or below
pub has_from : (vs : List ℕ) (u v : ℕ) → has vs u ≡ true → has vs v ≡ true → length (after vs u) ≤ length (after vs v) → has (from vs v) u ≡ true
unfolding has
has_from [] u v hu hv le = absurd (false≢true hu)
has_from (w ∷ ws) u v hu hv le =
    elim (cases_eq w v) [
      | inl e ↦ elim (cases_eq w u) [
        | inl f ↦ has-here v (after (w ∷ ws) v) u (sym f ∙ e)
        | inr nf ↦ has-head v u (after (w ∷ ws) v) (ap (λ l. has l u) (after-head w v ws e) ∙ has-tail w u ws hu nf)
      ]
      | inr ne ↦ elim (cases_eq w u) [
        | inl f ↦ absurd (omega (arith, le, ap length (after-head w u ws f), ap length (after-tail w v ws ne), length-after ws v (has-tail w v ws hv ne)))
        | inr nf ↦
            let rest = has_from ws u v (has-tail w u ws hu nf) (has-tail w v ws hv ne) (omega (arith, le, ap length (after-tail w u ws nf), ap length (after-tail w v ws ne))) in
            ap (λ l. has (v ∷ l) u) (after-tail w v ws ne) ∙ rest
      ]
    ]

pub live_from : (d : Diagram) (n m : ℕ) (p : Parts) → IsSound d → IsLive d n → parts_of d.slots m ≡ Some p → depth d n ≤ depth d m → IsLiveIn d.slots (from d.order p.var) n
live_from d n m p sound (inl h) is le = inl h
live_from d n m p sound (inr h) is le =
    let le_n : 1 + length (after d.order h.parts.var) ≤ depth d m = rw (← ap (depth_of d.order) h.is) le in
    let le_m : depth d m ≡ 1 + length (after d.order p.var) = ap (depth_of d.order) is in
    inr (record {
      parts = h.parts;
      is = h.is;
      below = has_from d.order h.parts.var p.var h.below (sound.diagram.within m p is) (omega (arith, le_n, le_m));
    })

has-none : (v : ℕ) → has [] v ≡ false
unfolding has
has-none v = refl

-- what stands above a variable, the variable, and what stands below it
pub length-place : (vs : List ℕ) (v : ℕ) → has vs v ≡ true → length vs ≡ 1 + length (after vs v) + place_in vs v
unfolding place_in
length-place [] v h = absurd (false≢true (sym (has-none v) ∙ h))
length-place (u ∷ us) v h =
    elim (cases_eq u v) [
      | inl e ↦ omega (arith, ap length (after-head u v us e), cond-true (eqb u v) 0 (suc (place_in us v)) (eq-eqb u v e))
      | inr ne ↦
          let rest = length-place us v (has-tail u v us h ne) in
          omega (arith, rest, ap length (after-tail u v us ne), cond-false (eqb u v) 0 (suc (place_in us v)) (ne_eqb u v ne))
    ]

-- a variable stands at its place
pub at_place_in : (vs : List ℕ) (v : ℕ) → has vs v ≡ true → get_or vs (place_in vs v) 0 ≡ v
unfolding place_in
at_place_in [] v h = absurd (false≢true (sym (has-none v) ∙ h))
at_place_in (u ∷ us) v h =
    elim (cases_eq u v) [
      | inl e ↦ ap (λ i. get_or (u ∷ us) i 0) (cond-true (eqb u v) 0 (suc (place_in us v)) (eq-eqb u v e)) ∙ e
      | inr ne ↦ ap (λ i. get_or (u ∷ us) i 0) (cond-false (eqb u v) 0 (suc (place_in us v)) (ne_eqb u v ne)) ∙ at_place_in us v (has-tail u v us h ne)
    ]

-- a live node of some depth has the variable that stands as high
pub has_depth : (d : Diagram) (m : ℕ) → IsSound d → IsLive d m → 0 < depth d m → (p : Parts) × (parts_of d.slots m ≡ Some p) × (get_or d.order (length d.order - depth d m) 0 ≡ p.var)
has_depth d m sound (inl h) some =
    let zero_depth : depth d m ≡ 0 = ap (depth_of d.order) (sound.diagram.ground m h) in
    absurd (omega arith)
has_depth d m sound (inr h) some =
    let deep : depth d m ≡ 1 + length (after d.order h.parts.var) = ap (depth_of d.order) h.is in
    let len = length-place d.order h.parts.var h.below in
    let place : length d.order - depth d m ≡ place_in d.order h.parts.var = omega arith in
    (h.parts, h.is, ap (λ i. get_or d.order i 0) place ∙ at_place_in d.order h.parts.var h.below)

top_of_one : (d : Diagram) (f g h m v : ℕ) → IsSound d → IsLive d f → IsLive d g → IsLive d h → IsLive d m → 0 < depth d m → depth d f ≤ depth d m → depth d g ≤ depth d m → depth d h ≤ depth d m → get_or d.order (length d.order - depth d m) 0 ≡ v → (HasVariable d v m → HasVariable d v f ⊎ (HasVariable d v g ⊎ HasVariable d v h)) → IsTop d f g h v
top_of_one d f g h m v sound lf lg lh lm some df dg dh at one =
    let r = has_depth d m sound lm some in
    let is : r.0.var ≡ v = sym r.2 ∙ at in
    let wide : (n : ℕ) → IsLiveIn d.slots (from d.order r.0.var) n → IsLiveIn d.slots (from d.order v) n = λ n l. rw (sym is) l in
    record {
      var = ap (has d.order) (sym is) ∙ sound.diagram.within m r.0 r.1;
      from_f = wide f (live_from d f m r.0 sound lf r.1 df);
      from_g = wide g (live_from d g m r.0 sound lg r.1 dg);
      from_h = wide h (live_from d h m r.0 sound lh r.1 dh);
      some = one (r.0, r.1, is);
    }

max_cases : (a b c : ℕ) → ((max (max a b) c ≡ a) × (b ≤ a) × (c ≤ a)) ⊎ (((max (max a b) c ≡ b) × (a ≤ b) × (c ≤ b)) ⊎ ((max (max a b) c ≡ c) × (a ≤ c) × (b ≤ c)))
max_cases a b c = grind arith

-- the variable that stands as high as the highest of three nodes is their top variable
pub top_is : (d : Diagram) (f g h t : ℕ) → IsSound d → IsLive d f → IsLive d g → IsLive d h → t ≡ max (max (depth d f) (depth d g)) (depth d h) → 0 < t → IsTop d f g h (get_or d.order (length d.order - t) 0)
top_is d f g h t sound lf lg lh is some =
    elim (max_cases (depth d f) (depth d g) (depth d h)) [
      | inl a ↦ top_of_one d f g h f _ sound lf lg lh lf (omega (arith, is, a.0)) (omega arith) (omega (arith, a.1)) (omega (arith, a.2)) (ap (λ k. get_or d.order (length d.order - k) 0) (sym (is ∙ a.0))) (λ x. inl x)
      | inr r ↦ elim r [
        | inl b ↦ top_of_one d f g h g _ sound lf lg lh lg (omega (arith, is, b.0)) (omega (arith, b.1)) (omega arith) (omega (arith, b.2)) (ap (λ k. get_or d.order (length d.order - k) 0) (sym (is ∙ b.0))) (λ x. inr (inl x))
        | inr c ↦ top_of_one d f g h h _ sound lf lg lh lh (omega (arith, is, c.0)) (omega (arith, c.1)) (omega (arith, c.2)) (omega arith) (ap (λ k. get_or d.order (length d.order - k) 0) (sym (is ∙ c.0))) (λ x. inr (inr x))
      ]
    ]
