-- What is left of a node once a variable is fixed, and which variables it doesn't read.
use Rattle.std.proofs.Common.{◌≡◌, ℕ, ◌<◌, ◌≤◌, Bool, true, false, eqb, List, [], ◌∷◌, length, Option, None, inl, inr, refl, sym, ◌∙◌, ap, arith, eq-eqb}
use Rattle.std.proofs.lemmas.Bool.{cases_eq, cond-true, cond-false, ne_eqb, false≢true}
use mathlib.Core.Path.{fun_ext}
use Rattle.bit_lists.proofs.Variables.{has-tail}
use Rattle.bit_lists.specs.Orders.{has, after, AreVars}
use Rattle.diagram_model.proofs.Canonical.{LacksVar, cases_var, some_same, follow-at, follow-other, after-head, after-tail, proper-tail, live-follow, walk-put}
use Rattle.diagram_model.proofs.Prefixes.{Ignores}
use Rattle.diagram_model.proofs.Values.{none_some, live-wider, value-node, has-after, after-after, steps_down, live-lacks, has_not-after}
use Rattle.diagram_model.specs.Functions.{Function, put, fix}
use Rattle.diagram_model.specs.Nodes.{parts_of, child, follow, walk, value, IsLiveIn, AreProper}
use Rattle.diagram_model.specs.Stores.{Diagram, IsLive, IsAbove, IsSound, depth, from, HasVariable, function_of}
use Rattle.diagram_model.specs.declared.parts.Parts.{Parts}

ap_proper : (s : List (Option Parts)) (vs ws : List ℕ) → vs ≡ ws → AreProper s vs → AreProper s ws
ap_proper s vs ws e h = rw (← e) h

-- the order from a variable on is proper
pub proper_from : (s : List (Option Parts)) (k : ℕ) (vs : List ℕ) (v : ℕ) → AreVars k vs → AreProper s vs → has vs v ≡ true → AreProper s (from vs v)
unfolding has
proper_from s k [] v vars proper h = absurd (false≢true h)
proper_from s k (u ∷ us) v vars proper h =
    elim (cases_eq u v) [
      | inl e ↦ ap_proper s (u ∷ us) (from (u ∷ us) v) (ap (λ w. w ∷ us) e ∙ ap (λ l. v ∷ l) (sym (after-head u v us e))) proper
      | inr ne ↦ ap_proper s (from us v) (from (u ∷ us) v) (ap (λ l. v ∷ l) (sym (after-tail u v us ne))) (proper_from s k us v vars.2 (proper-tail s u us vars.1 proper) (has-tail u v us h ne))
    ]

-- a node is left with what stands below the variable once that is fixed
pub follow_above : (d : Diagram) (v n : ℕ) (b : Bool) → IsSound d → has d.order v ≡ true → IsLiveIn d.slots (from d.order v) n → IsAbove d v (follow d.slots v b n)
follow_above d v n b s h live = live-follow d.slots v (after d.order v) n (proper_from d.slots (length d.order) d.order v s.diagram.order s.diagram.proper h) live b

pub above_live : (d : Diagram) (v n : ℕ) → IsAbove d v n → IsLive d n
above_live d v n live = live-wider d.slots (after d.order v) d.order n (λ w. has-after d.order v w) live

-- the value of a node goes on at the child that the value of the variable gives
pub value_follow : (d : Diagram) (v n : ℕ) → IsSound d → IsLive d n → (x : ℕ → Bool) → value d.slots d.order x n ≡ value d.slots d.order x (follow d.slots v (x v) n)
value_follow d v n s live x =
    elim (cases_var d.slots v n) [
      | inl at ↦
          value-node d.slots (length d.order) d.order n at.0 s.diagram at.1 (s.diagram.within n at.0 at.1) x
          ∙ ap (λ b. value d.slots d.order x (child (x b) at.0)) at.2
          ∙ ap (λ m. value d.slots d.order x m) (sym (follow-at d.slots v n at.0 at.1 at.2 (x v)))
      | inr lacks ↦ ap (λ m. value d.slots d.order x m) (sym (follow-other d.slots v n lacks (x v)))
    ]

pub depth_follow : (d : Diagram) (v n : ℕ) (b : Bool) → IsSound d → depth d (follow d.slots v b n) ≤ depth d n
depth_follow d v n b s =
    elim (cases_var d.slots v n) [
      | inl at ↦ let h = steps_down d n at.0 b s (sym at.1) in rw (follow-at d.slots v n at.0 at.1 at.2 b) (omega (arith, h.less))
      | inr lacks ↦ rw (follow-other d.slots v n lacks b) (omega arith)
    ]

pub depth_falls : (d : Diagram) (v n : ℕ) (b : Bool) → IsSound d → HasVariable d v n → depth d (follow d.slots v b n) < depth d n
depth_falls d v n b s at = let h = steps_down d n at.0 b s (sym at.1) in rw (follow-at d.slots v n at.0 at.1 at.2 b) h.less

-- what stands below v and v itself stand below w where v does
pub from_after : (k : ℕ) (vs : List ℕ) (w v u : ℕ) → AreVars k vs → has (after vs w) v ≡ true → has (from vs v) u ≡ true → has (after vs w) u ≡ true
from_after k vs w v u vars below h =
    elim (cases_eq v u) [
      | inl e ↦ ap (has (after vs w)) (sym e) ∙ below
      | inr ne ↦ has-after (after vs w) v u (ap (λ l. has l u) (sym (after-after k vs w v vars below)) ∙ has-tail v u (after vs v) h ne)
    ]

pub var_above : (d : Diagram) (w v n : ℕ) → IsSound d → HasVariable d v n → IsAbove d w n → has (after d.order w) v ≡ true
var_above d w v n s at (inl h) = absurd (none_some at.0 (sym (s.diagram.ground n h) ∙ at.1))
var_above d w v n s at (inr h) =
    let same = some_same h.parts at.0 (sym h.is ∙ at.1) in
    ap (has (after d.order w)) (sym (ap (λ (r : Parts). r.var) same ∙ at.2)) ∙ h.below

pub from_has : (vs : List ℕ) (v u : ℕ) → has vs v ≡ true → has (from vs v) u ≡ true → has vs u ≡ true
from_has vs v u is h = elim (cases_eq v u) [ inl e ↦ ap (has vs) (sym e) ∙ is | inr ne ↦ has-after vs v u (has-tail v u (after vs v) h ne) ]

pub live_from_order : (d : Diagram) (v n : ℕ) → has d.order v ≡ true → IsLiveIn d.slots (from d.order v) n → IsLive d n
live_from_order d v n is live = live-wider d.slots (from d.order v) d.order n (λ u h. from_has d.order v u is h) live

-- a variable is not below itself
after_self : (k : ℕ) (vs : List ℕ) (v : ℕ) → AreVars k vs → has (after vs v) v ≡ false
unfolding after has
after_self k [] v vars = refl
after_self k (w ∷ ws) v vars =
    elim (cases_eq w v) [
      | inl e ↦ ap (λ l. has l v) (cond-true (eqb w v) ws (after ws v) (eq-eqb w v e)) ∙ ap (has ws) (sym e) ∙ vars.1
      | inr ne ↦ ap (λ l. has l v) (cond-false (eqb w v) ws (after ws v) (ne_eqb w v ne)) ∙ after_self k ws v vars.2
    ]

-- what is left of a node that stands below w reads no variable that isn't below w
walk_ignores : (s : List (Option Parts)) (k : ℕ) (vs : List ℕ) (w u n : ℕ) (b : Bool) (x : ℕ → Bool) → ((m : ℕ) → m < 2 → parts_of s m ≡ None) → AreVars k vs → IsLiveIn s (after vs w) n → has (after vs w) u ≡ false → walk s vs (put x u b) n ≡ walk s vs x n
unfolding walk after
walk_ignores s k [] w u n b x ground vars live out = refl
walk_ignores s k (v ∷ vs) w u n b x ground vars live out =
    elim (cases_eq v w) [
      | inl e ↦
          let same : after (v ∷ vs) w ≡ vs = cond-true (eqb v w) vs (after vs w) (eq-eqb v w e) in
          let live_rest : IsLiveIn s vs n = rw (sym same) live in
          let lacks : LacksVar s v n = live-lacks s vs v n ground vars.1 live_rest in
          let out_rest : has vs u ≡ false = ap (λ l. has l u) (sym same) ∙ out in
          ap (λ m. walk s vs (put x u b) m) (follow-other s v n lacks (put x u b v)) ∙ walk-put s vs x u b n out_rest ∙ ap (λ m. walk s vs x m) (sym (follow-other s v n lacks (x v)))
      | inr ne ↦
          let same : after (v ∷ vs) w ≡ after vs w = cond-false (eqb v w) vs (after vs w) (ne_eqb v w ne) in
          let live_rest : IsLiveIn s (after vs w) n = rw (sym same) live in
          let lacks : LacksVar s v n = live-lacks s (after vs w) v n ground (has_not-after vs w v vars.1) live_rest in
          let out_rest : has (after vs w) u ≡ false = ap (λ l. has l u) (sym same) ∙ out in
          ap (λ m. walk s vs (put x u b) m) (follow-other s v n lacks (put x u b v)) ∙ walk_ignores s k vs w u n b x ground vars.2 live_rest out_rest ∙ ap (λ m. walk s vs x m) (sym (follow-other s v n lacks (x v)))
    ]

-- a node that stands below u doesn't read u
pub ignores_above : (d : Diagram) (u n : ℕ) → IsSound d → IsAbove d u n → Ignores (function_of d n) u
unfolding function_of value
ignores_above d u n s live b =
    fun_ext (λ x. ap (λ m. eqb m 1) (walk_ignores d.slots (length d.order) d.order u u n b x s.diagram.ground s.diagram.order live (after_self (length d.order) d.order u s.diagram.order)))

-- nor does a node whose variable is v or stands below v, where v stands below u
pub ignores_higher : (d : Diagram) (u v n : ℕ) → IsSound d → has (after d.order u) v ≡ true → IsLiveIn d.slots (from d.order v) n → Ignores (function_of d n) u
ignores_higher d u v n s below live =
    ignores_above d u n s (live-wider d.slots (from d.order v) (after d.order u) n (λ w h. from_after (length d.order) d.order u v w s.diagram.order below h) live)

pub put_at : (x : ℕ → Bool) (v : ℕ) (b : Bool) → put x v b v ≡ b
put_at x v b = cond-true (eqb v v) b (x v) (eq-eqb v v refl)

-- fixing the variable of a node leaves its child
pub fix_function : (d : Diagram) (v n : ℕ) (b : Bool) → IsSound d → has d.order v ≡ true → IsLiveIn d.slots (from d.order v) n → fix v b (function_of d n) ≡ function_of d (follow d.slots v b n)
unfolding function_of
fix_function d v n b s is live =
    let m = follow d.slots v b n in
    let drops : Ignores (function_of d m) v = ignores_above d v m s (follow_above d v n b s is live) in
    fun_ext (λ x.
    value_follow d v n s (live_from_order d v n is live) (put x v b)
    ∙ ap (λ c. value d.slots d.order (put x v b) (follow d.slots v c n)) (put_at x v b)
    ∙ ap (λ (g : Function). g x) (drops b))
