-- What a node denotes, by its children.
use Rattle.std.proofs.Common.{◌≡◌, ◌≢◌, ℕ, ◌<◌, Bool, true, false, eqb, List, [], ◌∷◌, length, Option, Some, None, inl, inr, refl, sym, ◌∙◌, ap, arith}
use Rattle.std.proofs.lemmas.Bool.{cases_eq, eqb-true, cond-true, cond-false, false≢true, cases_Bool}
use Rattle.bit_lists.proofs.Variables.{has-tail, has-head}
use Rattle.bit_lists.specs.Orders.{has, after, AreVars}
use Rattle.diagram_model.specs.Nodes.{parts_of, child, follow, walk, value, IsLiveIn, AreProper, IsDiagram}
use Rattle.diagram_model.specs.Stores.{Diagram, depth_of, depth, IsLive, IsSound}
use Rattle.diagram_model.specs.declared.parts.Parts.{Parts}
use Rattle.diagram_model.proofs.Canonical.{LacksVar, some_same, follow-at, follow-other, after-tail, after-head, proper-tail, live-child}

-- what is below w is in the list
pub has-after : (vs : List ℕ) (w v : ℕ) → has (after vs w) v ≡ true → has vs v ≡ true
unfolding after
has-after [] w v h = h
has-after (u ∷ us) w v h = has-head u v us (elim (cases_Bool (eqb u w)) [
  | inl e ↦ ap (λ l. has l v) (sym (cond-true (eqb u w) us (after us w) e)) ∙ h
  | inr e ↦ has-after us w v (ap (λ l. has l v) (sym (cond-false (eqb u w) us (after us w) e)) ∙ h)
])

pub has_not-after : (vs : List ℕ) (w v : ℕ) → has vs v ≡ false → has (after vs w) v ≡ false
has_not-after vs w v h = elim (cases_Bool (has (after vs w) v)) [ inl e ↦ absurd (false≢true (sym h ∙ has-after vs w v e)) | inr e ↦ e ]

pub not_head : (u v : ℕ) (us : List ℕ) → has us u ≡ false → has us v ≡ true → u ≢ v
not_head u v us once h e = false≢true (sym once ∙ (ap (λ t. has us t) e ∙ h))

-- below a variable that is below w
pub after-after : (k : ℕ) (vs : List ℕ) (w v : ℕ) → AreVars k vs → has (after vs w) v ≡ true → after vs v ≡ after (after vs w) v
unfolding after
after-after k [] w v vars h = refl
after-after k (u ∷ us) w v vars h =
    elim (cases_Bool (eqb u w)) [
      | inl e ↦
          let here : after (u ∷ us) w ≡ us = cond-true (eqb u w) us (after us w) e in
          let below : has us v ≡ true = ap (λ l. has l v) (sym here) ∙ h in
          after-tail u v us (not_head u v us vars.1 below) ∙ ap (λ l. after l v) (sym here)
      | inr e ↦
          let there : after (u ∷ us) w ≡ after us w = cond-false (eqb u w) us (after us w) e in
          let below : has (after us w) v ≡ true = ap (λ l. has l v) (sym there) ∙ h in
          after-tail u v us (not_head u v us vars.1 (has-after us w v below)) ∙ after-after k us w v vars.2 below ∙ ap (λ l. after l v) (sym there)
    ]

pub length-after : (vs : List ℕ) (v : ℕ) → has vs v ≡ true → length (after vs v) < length vs
unfolding after has
length-after [] v h = absurd (false≢true h)
length-after (u ∷ us) v h =
    elim (cases_Bool (eqb u v)) [
      | inl e ↦ omega (arith, ap length (cond-true (eqb u v) us (after us v) e))
      | inr e ↦ omega (arith, ap length (cond-false (eqb u v) us (after us v) e), length-after us v (sym (cond-false (eqb u v) true (has us v) e) ∙ h))
    ]

pub live-wider : (s : List (Option Parts)) (vs ws : List ℕ) (n : ℕ) → ((v : ℕ) → has vs v ≡ true → has ws v ≡ true) → IsLiveIn s vs n → IsLiveIn s ws n
live-wider s vs ws n wider (inl h) = inl h
live-wider s vs ws n wider (inr h) = inr (record { parts = h.parts; is = h.is; below = wider h.parts.var h.below })

-- a live node whose variables are others lacks the variable
pub live-lacks : (s : List (Option Parts)) (vs : List ℕ) (v n : ℕ) → ((m : ℕ) → m < 2 → parts_of s m ≡ None) → has vs v ≡ false → IsLiveIn s vs n → LacksVar s v n
live-lacks s vs v n ground none (inl h) p is at = let e = ground n h in cc
live-lacks s vs v n ground none (inr h) p is at =
    let e = some_same h.parts p (sym h.is ∙ is) in
    false≢true (sym none ∙ (ap (λ t. has vs t) (sym at ∙ ap (λ (r : Parts). r.var) (sym e)) ∙ h.below))

pub live-children : (s : List (Option Parts)) (k : ℕ) (vs : List ℕ) (n : ℕ) (p : Parts) → AreProper s vs → parts_of s n ≡ Some p → has vs p.var ≡ true → (b : Bool) → IsLiveIn s vs (child b p)
live-children s k vs n p proper is below b = live-wider s (after vs p.var) vs (child b p) (λ v. has-after vs p.var v) (live-child s vs p (proper n p is below) b)

pub walk-node : (s : List (Option Parts)) (k : ℕ) (vs : List ℕ) (n : ℕ) (p : Parts) → ((m : ℕ) → m < 2 → parts_of s m ≡ None) → AreVars k vs → AreProper s vs → parts_of s n ≡ Some p → has vs p.var ≡ true → (x : ℕ → Bool) → walk s vs x n ≡ walk s vs x (child (x p.var) p)
unfolding walk has
walk-node s k [] n p ground vars proper is below x = absurd (false≢true below)
walk-node s k (v ∷ vs) n p ground vars proper is below x =
    let c = child (x p.var) p in
    let live : IsLiveIn s (after (v ∷ vs) p.var) c = live-child s (v ∷ vs) p (proper n p is below) (x p.var) in
    elim (cases_eq v p.var) [
      | inl e ↦
          let live_rest : IsLiveIn s vs c = rw (sym (after-head v p.var vs e)) live in
          let stays : follow s v (x v) c ≡ c = follow-other s v c (live-lacks s vs v c ground vars.1 live_rest) (x v) in
          ap (λ m. walk s vs x m) (follow-at s v n p is (sym e) (x v) ∙ ap (λ t. child (x t) p) e ∙ sym stays)
      | inr ne ↦
          let live_rest : IsLiveIn s (after vs p.var) c = rw (sym (after-tail v p.var vs ne)) live in
          let stays : follow s v (x v) c ≡ c = follow-other s v c (live-lacks s (after vs p.var) v c ground (has_not-after vs p.var v vars.1) live_rest) (x v) in
          let kept : follow s v (x v) n ≡ n = follow-other s v n (λ q qs at. ne (sym at ∙ ap (λ (r : Parts). r.var) (some_same q p (sym qs ∙ is)))) (x v) in
          ap (λ m. walk s vs x m) kept ∙ walk-node s k vs n p ground vars.2 (proper-tail s v vs vars.1 proper) is (has-tail v p.var vs below ne) x ∙ ap (λ m. walk s vs x m) (sym stays)
    ]

-- The function of a held node, by its variable and its children.
pub value-node : (s : List (Option Parts)) (k : ℕ) (vs : List ℕ) (n : ℕ) (p : Parts) → IsDiagram s k vs → parts_of s n ≡ Some p → has vs p.var ≡ true → (x : ℕ → Bool) → value s vs x n ≡ value s vs x (child (x p.var) p)
unfolding value
value-node s k vs n p d is below x = ap (λ m. eqb m 1) (walk-node s k vs n p d.ground d.order d.proper is below x)

pub none_some : (p : Parts) → None ≡ Some p → ⊥
none_some p e = cc

walk-small : (s : List (Option Parts)) (vs : List ℕ) (n : ℕ) → ((m : ℕ) → m < 2 → parts_of s m ≡ None) → n < 2 → (x : ℕ → Bool) → walk s vs x n ≡ n
unfolding walk
walk-small s [] n ground h x = refl
walk-small s (v ∷ vs) n ground h x =
    let e = ground n h in
    ap (λ m. walk s vs x m) (follow-other s v n (λ p is at. none_some p (sym e ∙ is)) (x v)) ∙ walk-small s vs n ground h x

-- FALSE and TRUE
pub value-small : (s : List (Option Parts)) (k : ℕ) (vs : List ℕ) (n : ℕ) → IsDiagram s k vs → n < 2 → (x : ℕ → Bool) → value s vs x n ≡ eqb n 1
unfolding value
value-small s k vs n d h x = ap (λ m. eqb m 1) (walk-small s vs n d.ground h x)

-- a child is less deep
pub depth-child : (s : List (Option Parts)) (k : ℕ) (vs : List ℕ) (p : Parts) (c : ℕ) → IsDiagram s k vs → has vs p.var ≡ true → IsLiveIn s (after vs p.var) c → depth_of vs (parts_of s c) < depth_of vs (Some p)
depth-child s k vs p c d below (inl h) = rw (d.ground c h) (omega arith)
depth-child s k vs p c d below (inr h) =
    rw h.is (omega (arith, ap length (after-after k vs p.var h.parts.var d.order h.below), length-after (after vs p.var) h.parts.var h.below))

pub below-order : (k : ℕ) (vs : List ℕ) (v : ℕ) → AreVars k vs → has vs v ≡ true → v < k
unfolding has
below-order k [] v vars h = absurd (false≢true h)
below-order k (u ∷ us) v vars h =
    elim (cases_Bool (eqb u v)) [
      | inl e ↦ let g = eqb-true u v e in omega (arith, vars.0)
      | inr e ↦ below-order k us v vars.2 (sym (cond-false (eqb u v) true (has us v) e) ∙ h)
    ]

-- what a step down from a held node keeps
pub record StepsDown (d : Diagram) (n : ℕ) (p : Parts) (b : Bool) : Type 0 where
  pub below : p.var < length d.order
  pub live : IsLive d (child b p)
  pub less : depth d (child b p) < depth d n
  pub same : (x : ℕ → Bool) → x p.var ≡ b → value d.slots d.order x n ≡ value d.slots d.order x (child b p)

pub steps_down : (d : Diagram) (n : ℕ) (p : Parts) (b : Bool) → IsSound d → Some p ≡ parts_of d.slots n → StepsDown d n p b
steps_down d n p b sound is =
    let g = sound.diagram in
    let has_it = g.within n p (sym is) in
    let live = live-child d.slots d.order p (g.proper n p (sym is) has_it) b in
    record {
      below = below-order (length d.order) d.order p.var g.order has_it;
      live = live-children d.slots (length d.order) d.order n p g.proper (sym is) has_it b;
      less = let h = depth-child d.slots (length d.order) d.order p (child b p) g has_it live in rw (sym is) h;
      same = λ x e. value-node d.slots (length d.order) d.order n p g (sym is) has_it x ∙ ap (λ t. value d.slots d.order x (child t p)) e;
    }

pub at_end : (d : Diagram) (n : ℕ) (x : ℕ → Bool) → IsSound d → IsLive d n → parts_of d.slots n ≡ None → value d.slots d.order x n ≡ eqb n 1
at_end d n x sound (inl h) is = value-small d.slots (length d.order) d.order n sound.diagram h x
at_end d n x sound (inr h) is = absurd (none_some h.parts (sym is ∙ h.is))
