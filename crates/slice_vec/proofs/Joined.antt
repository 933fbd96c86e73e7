-- Cofactors of two functions, put together by the same variable.
use Rattle.std.proofs.Common.{◌≡◌, ℕ, ◌-◌, ◌<◌, ◌≤◌, Bool, true, false, not, cond, max, List, length, inl, inr, refl, sym, ◌∙◌, ap, arith}
use Rattle.std.proofs.lemmas.Bool.{cases_Bool, cond-true, cond-false}
use mathlib.Core.Path.{fun_ext}
use Rattle.diagram_model.specs.Functions.{Assignment, Function, put}
use Rattle.diagram_model.specs.Stores.{Extends, function_of}
use Rattle.diagram_ops.specs.Connectives.{connective, connected}
use Rattle.diagram_ops.specs.Diagrams.{StoreAndCache, variable_of}
use Rattle.diagram_ops.specs.Flips.{flip}
use Rattle.diagram_ops.proofs.Results.{put_same}
use Rattle.diagram_ops.specs.Bounds.{TakesAtMost}
use Rattle.slice_vec.specs.Bounds.{merging}
use Rattle.slice_vec.specs.Digits.{IsSteady, choice, chosen, fixed}
use Rattle.slice_vec.specs.Growing.{Denotes}
use Rattle.slice_vec.specs.Places.{merge_at}
use Rattle.slice_vec.specs.Slices.{digits_of, StandsIn, IsMerged}
use Rattle.slice_vec.proofs.Bounds.{steps_as, merging_as}
use Rattle.slice_vec.proofs.Bits.{shows_digits, shows_stands, steady-digits, steady_later}
use Rattle.slice_vec.proofs.DigitLemmas.{steady-chosen, steady-fixed}
use Rattle.slice_vec.proofs.Followed.{Follows}
use Rattle.diagram_ops.proofs.Cases.{of_three}

second_first : (a b c : Bool) → connective 202 a b c ≡ cond a b c
unfolding connective
second_first = of_three (λ a b c. connective 202 a b c ≡ cond a b c) refl refl refl refl refl refl refl refl

third_first : (a b c : Bool) → connective 172 a b c ≡ cond a c b
unfolding connective
third_first = of_three (λ a b c. connective 172 a b c ≡ cond a c b) refl refl refl refl refl refl refl refl

low_point : (v : ℕ) (f g : Function) (x : Assignment) → cond (x v) (f (put x v (not (x v)))) (g x) ≡ cond (x v) (f (put x v false)) (g (put x v false))
low_point v f g x =
    elim (cases_Bool (x v)) [
      | inl y ↦ cond-true (x v) (f (put x v (not (x v)))) (g x) y ∙ ap (λ b. f (put x v (not b))) y ∙ sym (cond-true (x v) (f (put x v false)) (g (put x v false)) y)
      | inr n ↦ cond-false (x v) (f (put x v (not (x v)))) (g x) n ∙ ap g (sym (put_same x v false n)) ∙ sym (cond-false (x v) (f (put x v false)) (g (put x v false)) n)
    ]

high_point : (v : ℕ) (f g : Function) (x : Assignment) → cond (x v) (f x) (g (put x v (not (x v)))) ≡ cond (x v) (f (put x v true)) (g (put x v true))
high_point v f g x =
    elim (cases_Bool (x v)) [
      | inl y ↦ cond-true (x v) (f x) (g (put x v (not (x v)))) y ∙ ap f (sym (put_same x v true y)) ∙ sym (cond-true (x v) (f (put x v true)) (g (put x v true)) y)
      | inr n ↦ cond-false (x v) (f x) (g (put x v (not (x v)))) n ∙ ap (λ b. g (put x v (not b))) n ∙ sym (cond-false (x v) (f (put x v true)) (g (put x v true)) n)
    ]

pub merge_low : (v : ℕ) (bit : Bool) (n f g : Function) → bit ≡ false → n ≡ variable_of v → connected 202 n (flip v f) g ≡ merge_at v bit f g
unfolding connected flip choice variable_of
merge_low v bit n f g off e =
    ap (λ (m : Function). connected 202 m (flip v f) g) e
    ∙ fun_ext (λ x. second_first (x v) (f (put x v (not (x v)))) (g x) ∙ low_point v f g x)
    ∙ ap (λ (b : Bool). merge_at v b f g) (sym off)

pub merge_high : (v : ℕ) (bit : Bool) (n f g : Function) → bit ≡ true → n ≡ variable_of v → connected 172 n (flip v g) f ≡ merge_at v bit f g
unfolding connected flip choice variable_of
merge_high v bit n f g on e =
    ap (λ (m : Function). connected 172 m (flip v g) f) e
    ∙ fun_ext (λ x. third_first (x v) (g (put x v (not (x v)))) (f x) ∙ high_point v f g x)
    ∙ ap (λ (b : Bool). merge_at v b f g) (sym on)

-- the merged bit at place i
pub merge_is : (u v : StoreAndCache) (t : ℕ) (bit : Bool) (xs ys : List ℕ) (i an bn : ℕ) → Denotes v.store an (digits_of u.store xs i) → Denotes v.store bn (digits_of u.store ys i) → merge_at t bit (function_of v.store an) (function_of v.store bn) ≡ chosen (variable_of t) (fixed t bit (digits_of u.store xs)) (fixed t bit (digits_of u.store ys)) i
unfolding chosen fixed
merge_is u v t bit xs ys i an bn a b =
    ap (λ (f : Function). merge_at t bit f (function_of v.store bn)) a.is
    ∙ ap (λ (f : Function). merge_at t bit (digits_of u.store xs i) f) b.is

-- its steps
pub merged_joint : (u v : StoreAndCache) (t : ℕ) (bit : Bool) (xs ys : List ℕ) (i an bn : ℕ) (w : StoreAndCache) (s0 s1 : ℕ) → Extends u.store v.store → Denotes v.store an (digits_of u.store xs i) → Denotes v.store bn (digits_of u.store ys i) → TakesAtMost (merging v.store t bit (function_of v.store an) (function_of v.store bn)) v.store w.store s0 s1 → TakesAtMost (merging u.store t bit (digits_of u.store xs i) (digits_of u.store ys i)) v.store w.store s0 s1
merged_joint u v t bit xs ys i an bn w s0 s1 ext a b h =
    let f = function_of v.store an in let g = function_of v.store bn in
    let x = digits_of u.store xs i in let y = digits_of u.store ys i in
    steps_as (merging v.store t bit f g) (merging u.store t bit x y) v.store w.store s0 s1 (merging_as u.store v.store t bit f g x y ext.order a.is b.is) h

pub merged_done : (u v : StoreAndCache) (t : ℕ) (bit : Bool) (xs ys zs : List ℕ) → StandsIn u.store xs → StandsIn u.store ys → Follows u (max (length xs) (length ys)) (chosen (variable_of t) (fixed t bit (digits_of u.store xs)) (fixed t bit (digits_of u.store ys))) v zs → length zs ≡ max (length xs) (length ys) → IsMerged u.store v.store t bit xs ys zs
merged_done u v t bit xs ys zs hx hy h len =
    let a = digits_of u.store xs in let b = digits_of u.store ys in
    let m = length zs - 1 in
    let s = chosen (variable_of t) (fixed t bit a) (fixed t bit b) in
    let some : 0 < length zs = omega (arith, len, hx.some) in
    let few : length zs ≤ 131 = omega (arith, len, hx.few, hy.few) in
    let ha = steady-fixed m t bit a (steady_later (length xs - 1) m a (steady-digits u.store xs hx.some) (omega (arith, len))) in
    let hb = steady-fixed m t bit b (steady_later (length ys - 1) m b (steady-digits u.store ys hy.some) (omega (arith, len))) in
    let steady : IsSteady m s = steady-chosen m (variable_of t) (fixed t bit a) (fixed t bit b) ha hb in
    record {
      width = len;
      stands = shows_stands v.store zs s h.shows some few;
      digits = shows_digits v.store zs s h.shows some steady;
    }
