-- Fixing the variables of prefixes, one after another.
use Rattle.std.proofs.Common.{◌≡◌, ◌≢◌, ℕ, Bool, true, false, cond, eqb, List, [], ◌∷◌, inl, inr, refl, sym, ◌∙◌, ap, eq-eqb}
use Rattle.std.proofs.lemmas.Bool.{cases_eq, cond-true, cond-false, ne_eqb, false≢true, cases_Bool}
use mathlib.Core.Path.{fun_ext}
use Rattle.bit_lists.proofs.Variables.{has-tail}
use Rattle.bit_lists.specs.Orders.{has, after}
use Rattle.diagram_model.specs.Functions.{Function, put, fix, IsPrefixOf}

-- f doesn't read u
abbrev pub Ignores : Function → ℕ → Type 0
Ignores f u = (b : Bool) → fix u b f ≡ f

put_case : (x : ℕ → Bool) (v : ℕ) (b c : Bool) (w : ℕ) → put (put x v c) v b w ≡ put x v b w
put_case x v b c w =
    elim (cases_Bool (eqb w v)) [
      | inl e ↦ cond-true (eqb w v) b (put x v c w) e ∙ sym (cond-true (eqb w v) b (x w) e)
      | inr e ↦ cond-false (eqb w v) b (put x v c w) e ∙ cond-false (eqb w v) c (x w) e ∙ sym (cond-false (eqb w v) b (x w) e)
    ]

put_twice : (x : ℕ → Bool) (v : ℕ) (b c : Bool) → put (put x v c) v b ≡ put x v b
put_twice x v b c = fun_ext (λ w. put_case x v b c w)

pub fix_twice : (v : ℕ) (b c : Bool) (f : Function) → fix v c (fix v b f) ≡ fix v b f
fix_twice v b c f = fun_ext (λ x. ap f (put_twice x v b c))

put_both : (x : ℕ → Bool) (u v : ℕ) (a b : Bool) → u ≢ v → (w : ℕ) → put (put x u a) v b w ≡ put (put x v b) u a w
put_both x u v a b ne w =
    elim (cases_eq w v) [
      | inl e ↦
          let other : eqb w u ≡ false = ne_eqb w u (λ at. ne (sym at ∙ e)) in
          cond-true (eqb w v) b (put x u a w) (eq-eqb w v e) ∙ sym (cond-false (eqb w u) a (put x v b w) other ∙ cond-true (eqb w v) b (x w) (eq-eqb w v e))
      | inr away ↦
          cond-false (eqb w v) b (put x u a w) (ne_eqb w v away) ∙ ap (λ t. cond (eqb w u) a t) (sym (cond-false (eqb w v) b (x w) (ne_eqb w v away)))
    ]

put_other : (x : ℕ → Bool) (u v : ℕ) (a b : Bool) → u ≢ v → put (put x u a) v b ≡ put (put x v b) u a
put_other x u v a b ne = fun_ext (λ w. put_both x u v a b ne w)

-- fixing another variable keeps what is ignored
pub ignores_fix : (u v : ℕ) (b : Bool) (f : Function) → u ≢ v → Ignores f u → Ignores (fix v b f) u
ignores_fix u v b f ne h a = fun_ext (λ x. ap f (put_other x u v a b ne) ∙ ap (λ g. g (put x v b)) (h a))

pub prefix_self : (vs : List ℕ) (f g : Function) → g ≡ f → IsPrefixOf vs f g
unfolding IsPrefixOf
prefix_self [] f g e = e
prefix_self (v ∷ vs) f g e = inl e

ap_prefix : (vs : List ℕ) (f h g : Function) → f ≡ h → IsPrefixOf vs f g → IsPrefixOf vs h g
ap_prefix vs f h g e p = rw (sym e) p

from_below : (u : ℕ) (us : List ℕ) (v : ℕ) (f : Function) (w : ℕ) → has us v ≡ true → Ignores f u → ((w : ℕ) → has (after (u ∷ us) w) v ≡ true → Ignores f w) → has (after us w) v ≡ true → Ignores f w
unfolding after
from_below u us v f w tail ign above there =
    elim (cases_Bool (eqb u w)) [
      | inl e ↦ above w (ap (λ l. has l v) (cond-true (eqb u w) us (after us w) e) ∙ tail)
      | inr e ↦ above w (ap (λ l. has l v) (cond-false (eqb u w) us (after us w) e) ∙ there)
    ]

-- What arises from f with v fixed arises from f, where f reads no variable above v.
pub prefix_fix : (vs : List ℕ) (v : ℕ) (b : Bool) (f g : Function) → has vs v ≡ true → ((u : ℕ) → has (after vs u) v ≡ true → Ignores f u) → IsPrefixOf vs (fix v b f) g → IsPrefixOf vs f g
unfolding IsPrefixOf has after
prefix_fix [] v b f g is above h = absurd (false≢true is)
prefix_fix (u ∷ us) v b f g is above h =
    elim (cases_eq u v) [
      | inl e ↦ elim h [
        | inl here ↦ inr (b, prefix_self us (fix u b f) g (here ∙ ap (λ w. fix w b f) (sym e)))
        | inr more ↦ inr (b, ap_prefix us (fix u more.0 (fix v b f)) (fix u b f) g (ap (λ w. fix u more.0 (fix w b f)) (sym e) ∙ fix_twice u b more.0 f) more.1)
      ]
      | inr ne ↦
          let tail : has us v ≡ true = has-tail u v us is ne in
          let ign : Ignores f u = above u (ap (λ l. has l v) (cond-true (eqb u u) us (after us u) (eq-eqb u u refl)) ∙ tail) in
          let below : (w : ℕ) → has (after us w) v ≡ true → Ignores f w = λ w there. from_below u us v f w tail ign above there in
          elim h [
            | inl here ↦ inr (false, ap_prefix us f (fix u false f) g (sym (ign false)) (prefix_fix us v b f g tail below (prefix_self us (fix v b f) g here)))
            | inr more ↦
                let dropped : fix u more.0 (fix v b f) ≡ fix v b f = ignores_fix u v b f ne ign more.0 in
                inr (false, ap_prefix us f (fix u false f) g (sym (ign false)) (prefix_fix us v b f g tail below (ap_prefix us (fix u more.0 (fix v b f)) (fix v b f) g dropped more.1)))
          ]
    ]
