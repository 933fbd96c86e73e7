-- Bounds of the steps of one call after another.
use Rattle.std.proofs.Common.{◌≡◌, ℕ, zero, suc, ◌+◌, ◌<◌, ◌≤◌, Bool, true, false, cond, [], ◌∷◌, length, inl, inr, refl, sym, ◌∙◌, ap, arith}
use Rattle.std.proofs.lemmas.Bool.{cases_eq, cond-true, cond-false}
use Rattle.diagram_model.specs.Functions.{Function}
use Rattle.diagram_model.specs.Joint.{Trio, joint_size}
use Rattle.diagram_model.specs.Stores.{Diagram, IsLive, function_of}
use Rattle.diagram_model.proofs.Growing.{function_on}
use Rattle.diagram_model.proofs.Joint.{trio_same}
use Rattle.diagram_ops.specs.Bounds.{joint_size_in, joint_size_of, TakesAtMost}
use Rattle.diagram_ops.specs.Diagrams.{StoreAndCache, IsConsistent, variable_of}
use Rattle.diagram_ops.specs.Flips.{flip}
use Rattle.diagram_ops.specs.Made.{Property}
use Rattle.slice_vec.specs.Bounds.{total, merging}
use Rattle.slice_vec.specs.Growing.{Grows}

-- no step was taken
pub steps_none : (d : Diagram) (n s : ℕ) → TakesAtMost n d d s s
steps_none d n s = record { steps = omega arith; made = omega arith }

pub steps_wider : (n m : ℕ) (d e : Diagram) (s t : ℕ) → n ≤ m → TakesAtMost n d e s t → TakesAtMost m d e s t
steps_wider n m d e s t le h = record { steps = omega (arith, h.steps, le); made = omega (arith, h.made, le) }

pub steps_as : (n m : ℕ) (d e : Diagram) (s t : ℕ) → n ≡ m → TakesAtMost n d e s t → TakesAtMost m d e s t
steps_as n m d e s t same h = rw (sym same) h

-- one call after another
pub steps_then : (n m : ℕ) (d e k : Diagram) (s t u : ℕ) → TakesAtMost n d e s t → TakesAtMost m e k t u → TakesAtMost (n + m) d k s u
steps_then n m d e k s t u g h = record { steps = omega (arith, g.steps, h.steps); made = omega (arith, g.made, h.made) }

-- the joint size of functions by other names, in an order that stayed
pub joint_as : (d e : Diagram) (f g h k l m : Function) → e.order ≡ d.order → f ≡ k → g ≡ l → h ≡ m → joint_size_in e f g h ≡ joint_size_in d k l m
joint_as d e f g h k l m same p q r =
    ap (λ o. joint_size (length o) o (let t : Trio = record { f = f; g = g; h = h } in t ∷ [])) same
    ∙ ap (λ (t : Trio). joint_size (length d.order) d.order (t ∷ [])) (trio_same f g h k l m p q r)

-- the joint size of three nodes stays
pub joint_on : (v w : StoreAndCache) (Is : Property) (a b c : ℕ) → IsConsistent v → Grows v Is w → IsLive v.store a → IsLive v.store b → IsLive v.store c → joint_size_of w.store a b c ≡ joint_size_of v.store a b c
joint_on v w Is a b c s g la lb lc =
    let on = λ (n : ℕ) (l : IsLive v.store n). function_on v.store w.store n s.store g.sound.store g.extends l in
    joint_as v.store w.store (function_of w.store a) (function_of w.store b) (function_of w.store c) (function_of v.store a) (function_of v.store b) (function_of v.store c) g.extends.order (on a la) (on b lb) (on c lc)

-- one place more
pub total_next : (f : ℕ → ℕ) (i : ℕ) → total f (suc i) ≡ total f i + f i
unfolding total
total_next f i = refl

-- the places so far are at most all
pub total_within : (f : ℕ → ℕ) (i n : ℕ) → i < n → total f i + f i ≤ total f n
unfolding total
total_within f i zero lt = absurd (omega (arith, lt))
total_within f i (suc n) lt =
    elim (cases_eq i n) [
      | inl e ↦ omega (arith, ap (λ j. total f j + f j) e)
      | inr ne ↦ omega (arith, total_within f i n (omega (arith, lt, ne)))
    ]

-- a call at place i, after those below it: k is the next place
pub steps_place : (f : ℕ → ℕ) (i k : ℕ) (d e w : Diagram) (s t u : ℕ) → k ≡ suc i → TakesAtMost (total f i) d e s t → TakesAtMost (f i) e w t u → TakesAtMost (total f k) d w s u
steps_place f i k d e w s t u next before here =
    steps_as (total f i + f i) (total f k) d w s u (sym (total_next f i) ∙ ap (total f) (sym next)) (steps_then (total f i) (f i) d e w s t u before here)

-- a call that stopped at place i, of n places and more
pub steps_stop : (f : ℕ → ℕ) (i n more : ℕ) (d e w : Diagram) (s t u : ℕ) → i < n → TakesAtMost (total f i) d e s t → TakesAtMost (f i) e w t u → TakesAtMost (total f n + more) d w s u
steps_stop f i n more d e w s t u less before here =
    steps_wider (total f i + f i) (total f n + more) d w s u (omega (arith, total_within f i n less)) (steps_then (total f i) (f i) d e w s t u before here)

-- the same, of n places
pub steps_short : (f : ℕ → ℕ) (i n : ℕ) (d e w : Diagram) (s t u : ℕ) → i < n → TakesAtMost (total f i) d e s t → TakesAtMost (f i) e w t u → TakesAtMost (total f n) d w s u
steps_short f i n d e w s t u less before here =
    steps_wider (total f i + f i) (total f n) d w s u (total_within f i n less) (steps_then (total f i) (f i) d e w s t u before here)

-- all places
pub steps_all : (f : ℕ → ℕ) (i n : ℕ) (d e : Diagram) (s t : ℕ) → i ≡ n → TakesAtMost (total f i) d e s t → TakesAtMost (total f n) d e s t
steps_all f i n d e s t same h = steps_as (total f i) (total f n) d e s t (ap (total f) same) h

-- no place yet
pub steps_begin : (f : ℕ → ℕ) (d : Diagram) (s : ℕ) → TakesAtMost (total f 0) d d s s
steps_begin f d s = steps_none d (total f 0) s

-- the joint size of a merged bit, where v is read true, and where it is read false
pub merging_high : (d : Diagram) (v : ℕ) (bit : Bool) (n a b : Function) → bit ≡ true → n ≡ variable_of v → joint_size_in d n (flip v b) a ≡ merging d v bit a b
unfolding merging
merging_high d v bit n a b on is =
    ap (λ (f : Function). joint_size_in d f (flip v b) a) is
    ∙ sym (cond-true bit (joint_size_in d (variable_of v) (flip v b) a) (joint_size_in d (variable_of v) (flip v a) b) on)

pub merging_low : (d : Diagram) (v : ℕ) (bit : Bool) (n a b : Function) → bit ≡ false → n ≡ variable_of v → joint_size_in d n (flip v a) b ≡ merging d v bit a b
unfolding merging
merging_low d v bit n a b off is =
    ap (λ (f : Function). joint_size_in d f (flip v a) b) is
    ∙ sym (cond-false bit (joint_size_in d (variable_of v) (flip v b) a) (joint_size_in d (variable_of v) (flip v a) b) off)

pub merging_as : (d e : Diagram) (v : ℕ) (bit : Bool) (f g k l : Function) → e.order ≡ d.order → f ≡ k → g ≡ l → merging e v bit f g ≡ merging d v bit k l
unfolding merging
merging_as d e v bit f g k l same p q =
    ap (λ n. cond bit n (joint_size_in e (variable_of v) (flip v f) g)) (joint_as d e (variable_of v) (flip v g) f (variable_of v) (flip v l) k same refl (ap (flip v) q) p)
    ∙ ap (λ n. cond bit (joint_size_in d (variable_of v) (flip v l) k) n) (joint_as d e (variable_of v) (flip v f) g (variable_of v) (flip v k) l same refl (ap (flip v) p) q)
