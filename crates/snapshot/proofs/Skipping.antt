-- Variables that a function doesn't depend on are skipped.
use Rattle.std.proofs.Common.{◌≡◌, ◌≢◌, ℕ, true, false, cond, eqb, List, [], ◌∷◌, ◌++◌, inl, inr, refl, sym, ◌∙◌, ap, eq-eqb}
use Rattle.std.proofs.lemmas.Bool.{cases_eq, cond-true, cond-false, ne_eqb, false≢true, cases_Bool}
use Rattle.bit_lists.specs.Orders.{has, after}
use Rattle.bit_lists.proofs.Variables.{has-tail}
use Rattle.diagram_model.specs.Functions.{Function, fix}
use Rattle.diagram_model.specs.Size.{depends}
use Rattle.snapshot.specs.Numbers.{knows, number_in, visited, line_of}

-- f doesn't depend on the variables above v
abbrev pub IsBelow : ℕ → List ℕ → ℕ → Function → Type 0
IsBelow k vs v f = (u : ℕ) → has (after vs u) v ≡ true → depends k u f ≡ false

pub after_here : (u : ℕ) (us : List ℕ) → after (u ∷ us) u ≡ us
unfolding after
after_here u us = cond-true (eqb u u) us (after us u) (eq-eqb u u refl)

after_there : (u : ℕ) (us : List ℕ) (w : ℕ) → u ≢ w → after (u ∷ us) w ≡ after us w
unfolding after
after_there u us w ne = cond-false (eqb u w) us (after us w) (ne_eqb u w ne)

below_tail : (k u : ℕ) (us : List ℕ) (v : ℕ) (f : Function) → has us v ≡ true → IsBelow k (u ∷ us) v f → IsBelow k us v f
below_tail k u us v f tail h w there =
    elim (cases_eq u w) [
      | inl e ↦ h w (ap (λ l. has l v) (rw (sym e) (after_here u us)) ∙ tail)
      | inr ne ↦ h w (ap (λ l. has l v) (after_there u us w ne) ∙ there)
    ]

first_free : (k u : ℕ) (us : List ℕ) (v : ℕ) (f : Function) → has us v ≡ true → IsBelow k (u ∷ us) v f → depends k u f ≡ false
first_free k u us v f tail h = h u (ap (λ l. has l v) (after_here u us) ∙ tail)

-- a function that is there adds nothing
pub visited_known : (k : ℕ) (vs : List ℕ) (f : Function) (fs : List Function) → knows k fs f ≡ true → visited k vs f fs ≡ fs
unfolding visited
visited_known k [] f fs known = refl
visited_known k (v ∷ vs) f fs known =
    cond-true (knows k fs f) fs (cond (depends k v f) (visited k vs (fix v true f) (visited k vs (fix v false f) fs) ++ f ∷ []) (visited k vs f fs)) known

visited_passed : (k v : ℕ) (vs : List ℕ) (f : Function) (fs : List Function) → depends k v f ≡ false → knows k fs f ≡ false → visited k (v ∷ vs) f fs ≡ visited k vs f fs
unfolding visited
visited_passed k v vs f fs free new =
    cond-false (knows k fs f) fs (cond (depends k v f) (visited k vs (fix v true f) (visited k vs (fix v false f) fs) ++ f ∷ []) (visited k vs f fs)) new
    ∙ cond-false (depends k v f) (visited k vs (fix v true f) (visited k vs (fix v false f) fs) ++ f ∷ []) (visited k vs f fs) free

pub visited_free : (k v : ℕ) (vs : List ℕ) (f : Function) (fs : List Function) → depends k v f ≡ false → visited k (v ∷ vs) f fs ≡ visited k vs f fs
visited_free k v vs f fs free =
    elim (cases_Bool (knows k fs f)) [
      | inl known ↦ visited_known k (v ∷ vs) f fs known ∙ sym (visited_known k vs f fs known)
      | inr new ↦ visited_passed k v vs f fs free new
    ]

-- a new function that depends on the next variable
pub visited_here : (k v : ℕ) (vs : List ℕ) (f : Function) (fs : List Function) → knows k fs f ≡ false → depends k v f ≡ true → visited k (v ∷ vs) f fs ≡ visited k vs (fix v true f) (visited k vs (fix v false f) fs) ++ f ∷ []
unfolding visited
visited_here k v vs f fs new reads =
    cond-false (knows k fs f) fs (cond (depends k v f) (visited k vs (fix v true f) (visited k vs (fix v false f) fs) ++ f ∷ []) (visited k vs f fs)) new
    ∙ cond-true (depends k v f) (visited k vs (fix v true f) (visited k vs (fix v false f) fs) ++ f ∷ []) (visited k vs f fs) reads

pub visited_skip : (k : ℕ) (vs : List ℕ) (v : ℕ) (f : Function) (fs : List Function) → has vs v ≡ true → IsBelow k vs v f → visited k vs f fs ≡ visited k (v ∷ after vs v) f fs
unfolding has
visited_skip k [] v f fs is below = absurd (false≢true is)
visited_skip k (u ∷ us) v f fs is below =
    elim (cases_eq u v) [
      | inl e ↦ rw (sym e) (ap (λ l. visited k (u ∷ l) f fs) (sym (after_here u us)))
      | inr ne ↦
          let tail : has us v ≡ true = has-tail u v us is ne in
          visited_free k u us f fs (first_free k u us v f tail below) ∙ visited_skip k us v f fs tail (below_tail k u us v f tail below)
          ∙ ap (λ l. visited k (v ∷ l) f fs) (sym (after_there u us v ne))
    ]

pub line_free : (k v : ℕ) (vs : List ℕ) (fs : List Function) (f : Function) → depends k v f ≡ false → line_of k (v ∷ vs) fs f ≡ line_of k vs fs f
unfolding line_of
line_free k v vs fs f free =
    cond-false (depends k v f) (record { var = v; low = number_in k fs (fix v false f); high = number_in k fs (fix v true f) }) (line_of k vs fs f) free

pub line_here : (k v : ℕ) (vs : List ℕ) (fs : List Function) (f : Function) → depends k v f ≡ true → line_of k (v ∷ vs) fs f ≡ record { var = v; low = number_in k fs (fix v false f); high = number_in k fs (fix v true f) }
unfolding line_of
line_here k v vs fs f reads =
    cond-true (depends k v f) (record { var = v; low = number_in k fs (fix v false f); high = number_in k fs (fix v true f) }) (line_of k vs fs f) reads

pub line_skip : (k : ℕ) (vs : List ℕ) (v : ℕ) (fs : List Function) (f : Function) → has vs v ≡ true → IsBelow k vs v f → line_of k vs fs f ≡ line_of k (v ∷ after vs v) fs f
unfolding has
line_skip k [] v fs f is below = absurd (false≢true is)
line_skip k (u ∷ us) v fs f is below =
    elim (cases_eq u v) [
      | inl e ↦ rw (sym e) (ap (λ l. line_of k (u ∷ l) fs f) (sym (after_here u us)))
      | inr ne ↦
          let tail : has us v ≡ true = has-tail u v us is ne in
          line_free k u us fs f (first_free k u us v f tail below) ∙ line_skip k us v fs f tail (below_tail k u us v f tail below)
          ∙ ap (λ l. line_of k (v ∷ l) fs f) (sym (after_there u us v ne))
    ]

-- a function that depends on no variable of the order
pub line_none : (k : ℕ) (vs : List ℕ) (fs : List Function) (f : Function) → ((u : ℕ) → depends k u f ≡ false) → line_of k vs fs f ≡ record { var = 0; low = 0; high = 0 }
unfolding line_of
line_none k [] fs f none = refl
line_none k (v ∷ vs) fs f none = line_free k v vs fs f (none v) ∙ line_none k vs fs f none

-- what stands below u in the order
pub after_in : (vs : List ℕ) (u w : ℕ) → has (after vs u) w ≡ true → has vs u ≡ true
unfolding has after
after_in [] u w h = h
after_in (v ∷ vs) u w h =
    elim (cases_eq v u) [
      | inl e ↦ cond-true (eqb v u) true (has vs u) (eq-eqb v u e)
      | inr ne ↦ cond-false (eqb v u) true (has vs u) (ne_eqb v u ne) ∙ after_in vs u w (ap (λ l. has l w) (sym (after_there v vs u ne)) ∙ h)
    ]
