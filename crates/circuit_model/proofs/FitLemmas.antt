-- The gates of a list all fit a width, or don't.
use Rattle.std.proofs.Common.{◌≡◌, ◌⊎◌, inl, inr, ℕ, zero, suc, ◌-◌, ◌^◌, refl, ap, Bool, true, false, List, [], ◌∷◌, ◌++◌, length, arith, ℤ, pos, neg_ℤ}
use Rattle.std.specs.Int.Signed.{clash_ℤ}
use Rattle.std.proofs.lemmas.Int.{by_lt_z}
use Rattle.ring_omega.specs.declared.quad.Quad.{Quad}
use Rattle.gate_set.specs.declared.gate.Gate.{Gate}
use Rattle.circuit_model.specs.Working.{IntFits, QuadFits, FitsWidth, RawFits, AllFit, raw, work}
use Rattle.circuit_model.proofs.PrefixLemmas.{AtEach-more}

-- ---- one gate more
pub AllFit-more : (w : ℕ) (input : List Bool) (front : List Gate) (g : Gate) → AllFit w input front
    → FitsWidth (length input) w (raw g (work front input)).entries → AllFit w input (front ++ g ∷ [])
AllFit-more w input front g before here = AtEach-more (λ done h. RawFits w done input h) front g before here

-- ---- a width is fit or not
int_fits_or_not : (w : ℕ) (z : ℤ) → IntFits w z ⊎ (¬ IntFits w z)
int_fits_or_not w z =
    let least = neg_ℤ (pos (2 ^ (w - 1))) in
    let end = pos (2 ^ (w - 1)) in
    by_lt_z z least
    (λ below. inr (λ (fits : IntFits w z). clash_ℤ below fits.0))
    (λ above. by_lt_z z end (λ inside. inl (above, inside)) (λ past. inr (λ (fits : IntFits w z). clash_ℤ fits.1 past)))

quad_fits_or_not : (w : ℕ) (q : Quad) → QuadFits w q ⊎ (¬ QuadFits w q)
quad_fits_or_not w q = by (int_fits_or_not w q.a) (int_fits_or_not w q.b) (int_fits_or_not w q.c) (int_fits_or_not w q.d)
  where
    by : IntFits w q.a ⊎ (¬ IntFits w q.a) → IntFits w q.b ⊎ (¬ IntFits w q.b) → IntFits w q.c ⊎ (¬ IntFits w q.c) → IntFits w q.d ⊎ (¬ IntFits w q.d) → QuadFits w q ⊎ (¬ QuadFits w q)
    by (inl a) (inl b) (inl c) (inl d) = inl (record { a_fits = a; b_fits = b; c_fits = c; d_fits = d })
    by (inl a) (inl b) (inl c) (inr d) = inr (λ f. d f.d_fits)
    by (inl a) (inl b) (inr c) d = inr (λ f. c f.c_fits)
    by (inl a) (inr b) c d = inr (λ f. b f.b_fits)
    by (inr a) b c d = inr (λ f. a f.a_fits)

-- what holds of all lists of n bits
abbrev AllOf : ℕ → (List Bool → Type 0) → Type 0
AllOf n P = (x : List Bool) → length x ≡ n → P x

all_or_not : (n : ℕ) (P : List Bool → Type 0) → ((x : List Bool) → P x ⊎ (¬ P x)) → AllOf n P ⊎ (¬ AllOf n P)
all_or_not zero P decide = by (decide [])
  where
    only : P [] → (x : List Bool) → length x ≡ zero → P x
    only p [] len = p
    only p (b ∷ x) len = absurd (omega arith)

    by : P [] ⊎ (¬ P []) → ((x : List Bool) → length x ≡ zero → P x) ⊎ (¬ ((x : List Bool) → length x ≡ zero → P x))
    by (inl p) = inl (only p)
    by (inr fails) = inr (λ h. fails (h [] refl))
all_or_not (suc n) P decide =
    by (all_or_not n (λ x. P (false ∷ x)) (λ x. decide (false ∷ x))) (all_or_not n (λ x. P (true ∷ x)) (λ x. decide (true ∷ x)))
  where
    both : ((x : List Bool) → length x ≡ n → P (false ∷ x)) → ((x : List Bool) → length x ≡ n → P (true ∷ x)) → (x : List Bool) → length x ≡ suc n → P x
    both low high [] len = absurd (omega arith)
    both low high (false ∷ x) len = low x (omega arith)
    both low high (true ∷ x) len = high x (omega arith)

    by : ((x : List Bool) → length x ≡ n → P (false ∷ x)) ⊎ (¬ ((x : List Bool) → length x ≡ n → P (false ∷ x)))
        → ((x : List Bool) → length x ≡ n → P (true ∷ x)) ⊎ (¬ ((x : List Bool) → length x ≡ n → P (true ∷ x)))
        → ((x : List Bool) → length x ≡ suc n → P x) ⊎ (¬ ((x : List Bool) → length x ≡ suc n → P x))
    by (inl low) (inl high) = inl (both low high)
    by (inl low) (inr fails) = inr (λ h. fails (λ x len. h (true ∷ x) (ap suc len)))
    by (inr fails) high = inr (λ h. fails (λ x len. h (false ∷ x) (ap suc len)))

pub fits_or_not : (n w : ℕ) (v : List Bool → Quad) → FitsWidth n w v ⊎ (¬ FitsWidth n w v)
fits_or_not n w v = all_or_not n (λ x. QuadFits w (v x)) (λ x. quad_fits_or_not w (v x))
