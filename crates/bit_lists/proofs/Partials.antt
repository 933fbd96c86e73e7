-- Partial lists: what is kept of them, and which lists agree.
use Rattle.std.proofs.Common.{◌≡◌, inl, inr, ℕ, zero, suc, ◌<◌, Bool, true, false, cond, ◌&&◌, List, [], ◌∷◌, length, Option, None, Some, is_some, refl, sym, ◌∙◌, ap, arith, set, get_or, replicate}
use Rattle.std.proofs.lemmas.Bool.{cases_Bool, and_parts}
use mathlib.Core.Bool.{beq}
use Rattle.bit_lists.specs.Partials.{fits, agrees}
use Rattle.bit_lists.specs.KeptPartials.{partial_of, IsKept}
pub use Rattle.bit_lists.specs.KeptPartials.{value_of}

-- all three lists are of one length
pub length-kept : (ks bs : List Bool) → IsKept ks bs → (length bs ≡ length ks) × (length (partial_of ks bs) ≡ length ks)
length-kept [] [] h = (refl, refl)
length-kept [] (b ∷ bs) h = absurd h
length-kept (k ∷ ks) [] h = absurd h
length-kept (k ∷ ks) (b ∷ bs) h = let r = length-kept ks bs h.1 in (omega (arith, r.0), omega (arith, r.1))

-- the value at a place
pub get_or-partial_of : (ks bs : List Bool) (i : ℕ) → IsKept ks bs → i < length ks → get_or (partial_of ks bs) i None ≡ cond (get_or ks i false) (Some (get_or bs i false)) None
get_or-partial_of [] bs i h lt = absurd (omega arith)
get_or-partial_of (k ∷ ks) [] i h lt = absurd h
get_or-partial_of (k ∷ ks) (b ∷ bs) zero h lt = refl
get_or-partial_of (k ∷ ks) (b ∷ bs) (suc i) h lt = get_or-partial_of ks bs i h.1 (omega arith)

-- all values free
pub kept-free : (n : ℕ) → IsKept (replicate n false) (replicate n false) × (partial_of (replicate n false) (replicate n false) ≡ replicate n None)
kept-free zero = (tt, refl)
kept-free (suc n) = let r = kept-free n in ((λ e. refl, r.0), ap (λ l. None ∷ l) r.1)

-- a free value is kept as false
fixed_false : (v : Option Bool) → is_some v ≡ false → value_of v ≡ false
fixed_false None e = refl
fixed_false (Some b) e = cc

-- a value is what its two parts say
same_value : (v : Option Bool) → cond (is_some v) (Some (value_of v)) None ≡ v
same_value None = refl
same_value (Some b) = refl

-- one value fixed or freed
pub kept-fix : (ks bs : List Bool) (i : ℕ) (v : Option Bool) → IsKept ks bs → i < length ks → IsKept (set ks i (is_some v)) (set bs i (value_of v)) × (partial_of (set ks i (is_some v)) (set bs i (value_of v)) ≡ set (partial_of ks bs) i v)
kept-fix [] bs i v h lt = absurd (omega arith)
kept-fix (k ∷ ks) [] i v h lt = absurd h
kept-fix (k ∷ ks) (b ∷ bs) zero v h lt = ((fixed_false v, h.1), ap (λ w. w ∷ partial_of ks bs) (same_value v))
kept-fix (k ∷ ks) (b ∷ bs) (suc i) v h lt =
    let r = kept-fix ks bs i v h.1 (omega arith) in
    ((h.0, r.0), ap (λ l. cond k (Some b) None ∷ l) r.1)

-- a list that agrees at each place agrees
pub agrees_all : (p : List (Option Bool)) (x : List Bool) → length x ≡ length p → ((i : ℕ) → i < length p → fits (get_or p i None) (get_or x i false) ≡ true) → agrees p x ≡ true
agrees_all [] x len all = refl
agrees_all (v ∷ p) [] len all = refl
agrees_all (v ∷ p) (b ∷ x) len all =
    ap (λ c. c && agrees p x) (all 0 (omega arith)) ∙ agrees_all p x (omega arith) (λ i lt. all (suc i) (omega arith))

-- a list that differs from a fixed value doesn't agree
pub agrees_not : (p : List (Option Bool)) (x : List Bool) (i : ℕ) → length x ≡ length p → i < length p → fits (get_or p i None) (get_or x i false) ≡ false → agrees p x ≡ false
agrees_not [] x i len lt e = absurd (omega arith)
agrees_not (v ∷ p) [] i len lt e = absurd (omega arith)
agrees_not (v ∷ p) (b ∷ x) zero len lt e = ap (λ c. c && agrees p x) e
agrees_not (v ∷ p) (b ∷ x) (suc i) len lt e =
    elim (cases_Bool (fits v b)) [
      | inl t ↦ ap (λ c. c && agrees p x) t ∙ agrees_not p x i (omega arith) (omega arith) e
      | inr f ↦ ap (λ c. c && agrees p x) f
    ]

-- equal bits are the same
fits_fixed : (a b : Bool) → beq a b ≡ true → a ≡ b
fits_fixed true true e = refl
fits_fixed false false e = refl
fits_fixed true false e = cc
fits_fixed false true e = cc

-- a fixed value that fits b is b
pub fits_some : (v : Option Bool) (a b : Bool) → fits v b ≡ true → v ≡ Some a → b ≡ a
fits_some None a b f e = cc
fits_some (Some c) a b f e = let same : c ≡ a = cc in sym (fits_fixed c b f) ∙ same

-- a list that agrees has each fixed value
pub agrees_at : (p : List (Option Bool)) (x : List Bool) (i : ℕ) (a : Bool) → length x ≡ length p → agrees p x ≡ true → get_or p i None ≡ Some a → get_or x i false ≡ a
agrees_at [] x i a len all is = cc
agrees_at (v ∷ p) [] i a len all is = absurd (omega arith)
agrees_at (v ∷ p) (b ∷ x) zero a len all is = fits_some v a b (and_parts (fits v b) (agrees p x) all).0 is
agrees_at (v ∷ p) (b ∷ x) (suc i) a len all is = agrees_at p x i a (omega arith) (and_parts (fits v b) (agrees p x) all).1 is
