-- Two live nodes that denote one function are one node.
use Rattle.std.proofs.Common.{◌≡◌, ◌≢◌, ◌⊎◌, ℕ, ◌<◌, Bool, true, false, eqb, List, [], ◌∷◌, Option, Some, None, inl, inr, refl, sym, ◌∙◌, ap, arith, eq-eqb}
use Rattle.std.proofs.lemmas.Bool.{cases_eq, eqb-false, cond-true, cond-false, ne_eqb, false≢true, cases_Bool}
use Rattle.bit_lists.proofs.Variables.{has-tail, has-head, has-here}
use Rattle.bit_lists.specs.Orders.{has, after, AreVars}
use Rattle.diagram_model.specs.Functions.{put}
use Rattle.diagram_model.specs.Nodes.{parts_of, child, follow_parts, follow, walk, value, IsLiveIn, IsProper, AreProper, AreUnique, SameFunction}
use Rattle.diagram_model.specs.declared.parts.Parts.{Parts}

-- a node has the variable v, or it has not
abbrev pub HasVar : List (Option Parts) → ℕ → ℕ → Type 0
HasVar s v n = (p : Parts) × (parts_of s n ≡ Some p) × (p.var ≡ v)

abbrev pub LacksVar : List (Option Parts) → ℕ → ℕ → Type 0
LacksVar s v n = (p : Parts) → parts_of s n ≡ Some p → p.var ≢ v

pub some_same : (p q : Parts) → Some p ≡ Some q → p ≡ q
some_same p q e = cc

cases_parts : (o : Option Parts) (v : ℕ) → ((p : Parts) × (o ≡ Some p) × (p.var ≡ v)) ⊎ ((p : Parts) → o ≡ Some p → p.var ≢ v)
cases_parts None v = inr (λ p e. cc)
cases_parts (Some q) v =
    elim (cases_eq q.var v) [
      | inl e ↦ inl (q, refl, e)
      | inr h ↦ inr (λ p e at. h (ap (λ (r : Parts). r.var) (some_same q p e) ∙ at))
    ]

pub cases_var : (s : List (Option Parts)) (v n : ℕ) → HasVar s v n ⊎ LacksVar s v n
cases_var s v n = cases_parts (parts_of s n) v

pub follow-at : (s : List (Option Parts)) (v n : ℕ) (p : Parts) → parts_of s n ≡ Some p → p.var ≡ v → (b : Bool) → follow s v b n ≡ child b p
unfolding follow
follow-at s v n p is at b = rw is (cond-true (eqb p.var v) (child b p) n (eq-eqb p.var v at))

follow_parts-other : (o : Option Parts) (v n : ℕ) → ((p : Parts) → o ≡ Some p → p.var ≢ v) → (b : Bool) → follow_parts v b n o ≡ n
follow_parts-other None v n lacks b = refl
follow_parts-other (Some p) v n lacks b = cond-false (eqb p.var v) (child b p) n (ne_eqb p.var v (lacks p refl))

pub follow-other : (s : List (Option Parts)) (v n : ℕ) → LacksVar s v n → (b : Bool) → follow s v b n ≡ n
unfolding follow
follow-other s v n lacks b = follow_parts-other (parts_of s n) v n lacks b

pub has_not-parts : (w v : ℕ) (ws : List ℕ) → has (w ∷ ws) v ≡ false → (w ≢ v) × (has ws v ≡ false)
unfolding has
has_not-parts w v ws h =
    elim (cases_Bool (eqb w v)) [
      | inl e ↦ absurd (false≢true (sym h ∙ cond-true (eqb w v) true (has ws v) e))
      | inr e ↦ (eqb-false w v e, sym (cond-false (eqb w v) true (has ws v) e) ∙ h)
    ]

pub after-tail : (w v : ℕ) (ws : List ℕ) → w ≢ v → after (w ∷ ws) v ≡ after ws v
unfolding after
after-tail w v ws ne = cond-false (eqb w v) ws (after ws v) (ne_eqb w v ne)

pub after-head : (w v : ℕ) (ws : List ℕ) → w ≡ v → after (w ∷ ws) v ≡ ws
unfolding after
after-head w v ws e = cond-true (eqb w v) ws (after ws v) (eq-eqb w v e)

-- a walk does not read a variable that its list lacks
pub walk-put : (s : List (Option Parts)) (vs : List ℕ) (x : ℕ → Bool) (v : ℕ) (b : Bool) (n : ℕ) → has vs v ≡ false → walk s vs (put x v b) n ≡ walk s vs x n
unfolding walk
walk-put s [] x v b n h = refl
walk-put s (w ∷ ws) x v b n h =
    let parts = has_not-parts w v ws h in
    let same : put x v b w ≡ x w = cond-false (eqb w v) b (x w) (ne_eqb w v parts.0) in
    ap (λ t. walk s ws (put x v b) (follow s w t n)) same ∙ walk-put s ws x v b (follow s w (x w) n) parts.1

-- the rest of the order is proper too
pub proper-tail : (s : List (Option Parts)) (v : ℕ) (vs : List ℕ) → has vs v ≡ false → AreProper s (v ∷ vs) → AreProper s vs
proper-tail s v vs once proper n p is below =
    let ne : v ≢ p.var = λ e. false≢true (sym once ∙ (rw e below)) in
    let h = proper n p is (has-head v p.var vs below) in
    record {
      low = rw (sym (after-tail v p.var vs ne)) h.low;
      high = rw (sym (after-tail v p.var vs ne)) h.high;
      differ = h.differ;
    }

-- a node that is fixed at the first variable stands below it
pub live-child : (s : List (Option Parts)) (vs : List ℕ) (p : Parts) → IsProper s vs p → (b : Bool) → IsLiveIn s (after vs p.var) (child b p)
live-child s vs p h true = h.high
live-child s vs p h false = h.low

pub live-rest : (s : List (Option Parts)) (v : ℕ) (vs : List ℕ) (n : ℕ) → LacksVar s v n → IsLiveIn s (v ∷ vs) n → IsLiveIn s vs n
live-rest s v vs n lacks (inl h) = inl h
live-rest s v vs n lacks (inr h) = inr (record { parts = h.parts; is = h.is; below = has-tail v h.parts.var vs h.below (λ e. lacks h.parts h.is (sym e)) })

pub live-follow : (s : List (Option Parts)) (v : ℕ) (vs : List ℕ) (n : ℕ) → AreProper s (v ∷ vs) → IsLiveIn s (v ∷ vs) n → (b : Bool) → IsLiveIn s vs (follow s v b n)
live-follow s v vs n proper live b =
    elim (cases_var s v n) [
      | inl at ↦
          let h = live-child s (v ∷ vs) at.0 (proper n at.0 at.1 (has-here v vs at.0.var at.2)) b in
          rw (follow-at s v n at.0 at.1 at.2 b, sym (after-head v at.0.var vs (sym at.2))) h
      | inr lacks ↦ rw (follow-other s v n lacks b) (live-rest s v vs n lacks live)
    ]

parts_same : (p q : Parts) → p.var ≡ q.var → p.low ≡ q.low → p.high ≡ q.high → p ≡ q
parts_same p q e f g =
    let build = λ (v : ℕ) (l : ℕ) (h : ℕ). let r : Parts = record { var = v; low = l; high = h } in r in
    ap (λ v. build v p.low p.high) e ∙ ap (λ l. build q.var l p.high) f ∙ ap (λ h. build q.var q.low h) g

pub one_lacks : (s : List (Option Parts)) (v : ℕ) (vs : List ℕ) (n m : ℕ) → AreProper s (v ∷ vs) → ((b : Bool) → follow s v b n ≡ follow s v b m) → HasVar s v n → LacksVar s v m → ⊥
one_lacks s v vs n m proper same a c =
    let low : a.0.low ≡ m = sym (follow-at s v n a.0 a.1 a.2 false) ∙ same false ∙ follow-other s v m c false in
    let high : a.0.high ≡ m = sym (follow-at s v n a.0 a.1 a.2 true) ∙ same true ∙ follow-other s v m c true in
    (proper n a.0 a.1 (has-here v vs a.0.var a.2)).differ (low ∙ sym high)

-- two nodes that are one node whichever way the first variable is fixed are one node
pub same_from_follow : (s : List (Option Parts)) (v : ℕ) (vs : List ℕ) (n m : ℕ) → AreProper s (v ∷ vs) → AreUnique s → ((b : Bool) → follow s v b n ≡ follow s v b m) → n ≡ m
same_from_follow s v vs n m proper unique same =
    elim (cases_var s v n) [
      | inl a ↦ elim (cases_var s v m) [
        | inl c ↦
            let low : a.0.low ≡ c.0.low = sym (follow-at s v n a.0 a.1 a.2 false) ∙ same false ∙ follow-at s v m c.0 c.1 c.2 false in
            let high : a.0.high ≡ c.0.high = sym (follow-at s v n a.0 a.1 a.2 true) ∙ same true ∙ follow-at s v m c.0 c.1 c.2 true in
            let e = parts_same c.0 a.0 (c.2 ∙ sym a.2) (sym low) (sym high) in
            unique n m a.0 a.1 (c.1 ∙ ap (λ p. Some p) e)
        | inr c ↦ absurd (one_lacks s v vs n m proper same a c)
      ]
      | inr a ↦ elim (cases_var s v m) [
        | inl c ↦ absurd (one_lacks s v vs m n proper (λ b. sym (same b)) c a)
        | inr c ↦ sym (follow-other s v n a true) ∙ same true ∙ follow-other s v m c true
      ]
    ]

small_same : (n m : ℕ) → n < 2 → m < 2 → eqb n 1 ≡ eqb m 1 → n ≡ m
small_same n m hn hm e =
    elim (cases_eq n 1) [
      | inl a ↦ elim (cases_eq m 1) [
        | inl c ↦ a ∙ sym c
        | inr c ↦ absurd (false≢true (sym (ne_eqb m 1 c) ∙ sym e ∙ eq-eqb n 1 a))
      ]
      | inr a ↦ elim (cases_eq m 1) [
        | inl c ↦ absurd (false≢true (sym (ne_eqb n 1 a) ∙ e ∙ eq-eqb m 1 c))
        | inr c ↦ omega arith
      ]
    ]

no_vars : (s : List (Option Parts)) (n : ℕ) → IsLiveIn s [] n → n < 2
unfolding has
no_vars s n (inl h) = h
no_vars s n (inr h) = absurd (false≢true h.below)

-- the value where the first variable is fixed
pub value-fixed : (s : List (Option Parts)) (v : ℕ) (vs : List ℕ) (n : ℕ) → has vs v ≡ false → (b : Bool) (x : ℕ → Bool) → value s (v ∷ vs) (put x v b) n ≡ value s vs x (follow s v b n)
unfolding value walk
value-fixed s v vs n once b x =
    let here : put x v b v ≡ b = cond-true (eqb v v) b (x v) (eq-eqb v v refl) in
    ap (λ t. eqb (walk s vs (put x v b) (follow s v t n)) 1) here ∙ ap (λ t. eqb t 1) (walk-put s vs x v b (follow s v b n) once)

-- the two agree once the first variable is fixed
same_fixed : (s : List (Option Parts)) (v : ℕ) (vs : List ℕ) (n m : ℕ) → has vs v ≡ false → SameFunction s (v ∷ vs) n m → (b : Bool) → SameFunction s vs (follow s v b n) (follow s v b m)
same_fixed s v vs n m once same b x =
    sym (value-fixed s v vs n once b x) ∙ same (put x v b) ∙ value-fixed s v vs m once b x

-- Live nodes that denote the same function are the same node.
pub same_node : (s : List (Option Parts)) (k : ℕ) (vs : List ℕ) (n m : ℕ) → AreVars k vs → AreProper s vs → AreUnique s → IsLiveIn s vs n → IsLiveIn s vs m → SameFunction s vs n m → n ≡ m
unfolding value walk
same_node s k [] n m vars proper unique ln lm same =
    small_same n m (no_vars s n ln) (no_vars s m lm) (same (λ v. false))
same_node s k (v ∷ vs) n m vars proper unique ln lm same =
    let rest = proper-tail s v vs vars.1 proper in
    same_from_follow s v vs n m proper unique (λ b.
    same_node s k vs (follow s v b n) (follow s v b m) vars.2 rest unique
    (live-follow s v vs n proper ln b) (live-follow s v vs m proper lm b)
    (same_fixed s v vs n m vars.1 same b))
