-- Lists of the same functions are sifted alike.
use Rattle.std.proofs.Common.{◌≡◌, ℕ, zero, suc, ◌+◌, ◌≤◌, Bool, true, false, List, [], ◌∷◌, length, inl, inr, refl, sym, ◌∙◌, ap, subst, arith}
use Rattle.std.specs.Prelude.{slice_index}
use Rattle.bit_lists.specs.Orders.{has}
use Rattle.diagram_model.specs.Bryant.{IsOneOf}
use Rattle.diagram_model.specs.Functions.{Function, fix}
use Rattle.diagram_model.specs.Size.{size, level_size, fix_both}
use Rattle.node_reclaim.proofs.Bound.{size-le, one_some}
use Rattle.sifting.specs.Places.{Sift, order_at, size_at, HasRoom, IsReached, IsNoWorse, IsSiftedPlace, fixed, level}
use Rattle.sifting.specs.Places.IsReached.{here, down, up}
use Rattle.sifting.specs.Answers.{SiftsTo, SameFunctions, sift_in}

-- ---- sizes
-- each function of gs is one of fs
abbrev Within : List Function → List Function → Type 0
Within gs fs = (g : Function) → IsOneOf gs g → IsOneOf fs g

none_has : (v : ℕ) → has [] v ≡ false
unfolding has
none_has v = refl

-- of the variable v alone
level_le : (k v : ℕ) (fs gs : List Function) → Within gs fs → level_size k v gs ≤ level_size k v fs
unfolding size
level_le k v fs gs all =
    let le : size k (v ∷ []) gs ≤ size k (v ∷ []) fs = size-le k (suc v) (v ∷ []) fs gs (omega arith, none_has v, tt) (λ g is. one_some (v ∷ []) fs g (all g is)) in
    omega (arith, le)

fix_one : (v : ℕ) (b : Bool) (fs : List Function) (f : Function) → IsOneOf fs f → IsOneOf (fix_both v fs) (fix v b f)
unfolding fix_both
fix_one v b [] f is = is
fix_one v false (g ∷ fs) f (inl e) = inl (ap (fix v false) e)
fix_one v true (g ∷ fs) f (inl e) = inr (inl (ap (fix v true) e))
fix_one v b (g ∷ fs) f (inr is) = inr (inr (fix_one v b fs f is))

fix_within : (v : ℕ) (fs gs : List Function) → Within gs fs → Within (fix_both v gs) (fix_both v fs)
unfolding fix_both
fix_within v fs [] all h is = absurd is
fix_within v fs (g ∷ gs) all h (inl e) = subst (IsOneOf (fix_both v fs)) (sym e) (fix_one v false fs g (all g (inl refl)))
fix_within v fs (g ∷ gs) all h (inr (inl e)) = subst (IsOneOf (fix_both v fs)) (sym e) (fix_one v true fs g (all g (inl refl)))
fix_within v fs (g ∷ gs) all h (inr (inr is)) = fix_within v fs gs (λ f i. all f (inr i)) h is

size_within : (k : ℕ) (vs : List ℕ) (fs gs : List Function) → Within gs fs → size k vs gs ≤ size k vs fs
unfolding size
size_within k [] fs gs all = omega arith
size_within k (v ∷ vs) fs gs all =
    let here = level_le k v fs gs all in
    let below = size_within k vs (fix_both v fs) (fix_both v gs) (fix_within v fs gs all) in
    omega (arith, here, below)

fixed_within : (i : ℕ) (vs : List ℕ) (fs gs : List Function) → Within gs fs → Within (fixed i vs gs) (fixed i vs fs)
unfolding fixed
fixed_within zero vs fs gs all = all
fixed_within (suc i) [] fs gs all = all
fixed_within (suc i) (v ∷ vs) fs gs all = fixed_within i vs (fix_both v fs) (fix_both v gs) (fix_within v fs gs all)

level_within : (k : ℕ) (vs : List ℕ) (fs gs : List Function) (i : ℕ) → Within gs fs → level k vs gs i ≤ level k vs fs i
level_within k vs fs gs i all = level_le k (slice_index vs i) (fixed i vs fs) (fixed i vs gs) (fixed_within i vs fs gs all)

pub same_size : (k : ℕ) (vs : List ℕ) (fs gs : List Function) → SameFunctions fs gs → size k vs fs ≡ size k vs gs
same_size k vs fs gs same =
    let le = size_within k vs fs gs same.1 in
    let ge = size_within k vs gs fs same.0 in
    omega (arith, le, ge)

pub same_level : (k : ℕ) (vs : List ℕ) (fs gs : List Function) (i : ℕ) → SameFunctions fs gs → level k vs fs i ≡ level k vs gs i
same_level k vs fs gs i same =
    let le = level_within k vs fs gs i same.1 in
    let ge = level_within k vs gs fs i same.0 in
    omega (arith, le, ge)

-- ---- places
module _ (fs gs : List Function) (limit : ℕ) (order : List ℕ) (v : ℕ) (same : SameFunctions fs gs) where
  abbrev s : Sift
  s = sift_in fs limit order v

  abbrev t : Sift
  t = sift_in gs limit order v

  sizes : (j : ℕ) → size_at s j ≡ size_at t j
  sizes j = same_size (length order) (order_at s j) fs gs same

  room : (j i : ℕ) → HasRoom s j i → HasRoom t j i
  room j i h =
      let size = sizes j in
      let level = same_level (length order) (order_at s j) fs gs i same in
      omega (arith, h, size, level)

  reached : (j : ℕ) → IsReached s j → IsReached t j
  reached j here = here
  reached j (down i from r within has_room) = down i from (reached i r) within (room i i has_room)
  reached j (up i at r has_room) = up i at (reached (i + 1) r) (room (i + 1) i has_room)

  no_worse : (p j : ℕ) → IsNoWorse s p j → IsNoWorse t p j
  no_worse p j (inl x) = inl (let a = sizes p in let b = sizes j in omega (arith, x, a, b))
  no_worse p j (inr x) = inr (sym (sizes p) ∙ x.0 ∙ sizes j, x.1)

turned : (fs gs : List Function) → SameFunctions fs gs → SameFunctions gs fs
turned fs gs same = (same.1, same.0)

place_same : (fs gs : List Function) (limit : ℕ) (order : List ℕ) (v p : ℕ) → SameFunctions fs gs → IsSiftedPlace (sift_in fs limit order v) p → IsSiftedPlace (sift_in gs limit order v) p
place_same fs gs limit order v p same at = record {
  reached = reached fs gs limit order v same p at.reached;
  least = λ j r. no_worse fs gs limit order v same p j (at.least j (reached gs fs limit order v (turned fs gs same) j r));
}

-- ---- orders
pub same_order : (fs gs : List Function) (limit k v : ℕ) (order new : List ℕ) → SameFunctions fs gs → SiftsTo fs limit k v order new → SiftsTo gs limit k v order new
same_order fs gs limit zero v order new same to = to
same_order fs gs limit (suc k) v order new same to =
    (to.0, place_same fs gs limit order v to.0 same to.1, same_order fs gs limit k (suc v) (order_at (sift_in fs limit order v) to.0) new same to.2)
