-- Of each matrix one thing is said, and a scalar exactly where the circuits are the same up to one.
use Rattle.std.proofs.Common.{◌≡◌, ◌↔◌, ◌⊎◌, inl, inr, ℕ, ◌≤◌, refl, sym, ◌∙◌, ap, subst, List, Bool, false, All, length, replicate}
use Rattle.std.proofs.Math.Path.{ap₂}
use Rattle.std.proofs.lemmas.List.{length-replicate}
use Rattle.ring_omega.specs.declared.quad.Quad.{Quad}
use Rattle.ring_omega.specs.Lowest.{lowest_form}
use Rattle.gate_set.specs.declared.gate.Gate.{Gate}
use Rattle.gate_set.specs.Shape.{IsOn}
use Rattle.circuit_model.specs.Product.{exponent}
use Rattle.amp_printer.specs.Verdicts.{IsShort}
use Rattle.comparison.specs.Scalars.{Matrix, AreSame, comparison, compared, corner, IsScalar, IsFirstDiffering}
use Rattle.comparison.proofs.Positions.{scalar_or_first, first_apart, one_first}
use Rattle.comparison.proofs.ScalarTest.{same-from_scalar, scalar-from_same}
use Rattle.comparison.proofs.Values.{SameValues, IsScalar-same, IsFirstDiffering-same, lowest_form-same}
use Rattle.amp_printer.specs.declared.verdict.Verdict.{Verdict}
use Rattle.amp_printer.specs.declared.verdict.Verdict.TheVariants.{Scalar, Differs}
use Rattle.comparison.specs.Verdicts.{IsVerdict}

pub some_verdict : (n : ℕ) (m : Matrix) (k : ℕ) → (v : Verdict) × IsVerdict n m k v
some_verdict n m k = by (scalar_or_first n m)
  where
    own : Quad × ℕ
    own = lowest_form (corner n m) k

    by : IsScalar n m ⊎ ((r c : List Bool) × IsFirstDiffering n m r c) → (v : Verdict) × IsVerdict n m k v
    by (inl scalar) = (Scalar own.0 own.1, (scalar, refl))
    by (inr f) = (Differs f.0 f.1 (lowest_form (m f.0 f.1) k) own, (f.2, refl, refl))

pub one_verdict : (n : ℕ) (m : Matrix) (k : ℕ) (v w : Verdict) → IsVerdict n m k v → IsVerdict n m k w → v ≡ w
one_verdict n m k (Scalar q j) (Scalar p i) h g = let e = h.1 ∙ sym g.1 in ap (λ (x : Quad × ℕ). Scalar x.0 x.1) e
one_verdict n m k (Scalar q j) (Differs r c x y) h g = absurd (first_apart n m r c h.0 g.0)
one_verdict n m k (Differs r c x y) (Scalar q j) h g = absurd (first_apart n m r c g.0 h.0)
one_verdict n m k (Differs r c x y) (Differs s d u w) h g =
    let place = one_first n m r c s d h.0 g.0 in
    let value : x ≡ u = h.1 ∙ ap₂ (λ a b. lowest_form (m a b) k) place.0 place.1 ∙ sym g.1 in
    ap₂ (λ a b. Differs a b x y) place.0 place.1 ∙ ap₂ (λ a b. Differs s d a b) value (h.2 ∙ sym g.2)

-- what is said of a matrix is said of each that has the same values
pub verdict-same : (n : ℕ) (m : Matrix) (j : ℕ) (a : Matrix) (k : ℕ) (v : Verdict) → SameValues n m j a k → IsVerdict n a k v → IsVerdict n m j v
verdict-same n m j a k v same = by v
  where
    zeros : length (replicate n false) ≡ n
    zeros = length-replicate n false

    own : lowest_form (corner n a) k ≡ lowest_form (corner n m) j
    own = sym (lowest_form-same (corner n m) j (corner n a) k (same _ _ zeros zeros))

    by : (v : Verdict) → IsVerdict n a k v → IsVerdict n m j v
    by (Scalar q i) h = (IsScalar-same n m j a k same h.0, h.1 ∙ own)
    by (Differs r c x y) h =
        let f = h.0 in
        (IsFirstDiffering-same n m j a k r c same f, h.1 ∙ sym (lowest_form-same (m r c) j (a r c) k (same r c f.row_long f.column_long)), h.2 ∙ own)

-- the circuits are the same up to a scalar, or not
pub are_same_or_not : (n : ℕ) (us vs : List Gate) → All (IsOn n) us → All (IsOn n) vs → AreSame n us vs ⊎ (¬ AreSame n us vs)
are_same_or_not n us vs on_us on_vs = by (scalar_or_first n m)
  where
    m : Matrix
    m = compared us vs

    by : IsScalar n m ⊎ ((r c : List Bool) × IsFirstDiffering n m r c) → AreSame n us vs ⊎ (¬ AreSame n us vs)
    by (inl scalar) = inl (corner n m, exponent (comparison us vs), same-from_scalar n us vs on_us on_vs scalar)
    by (inr f) = inr (λ s. first_apart n m f.0 f.1 (scalar-from_same n us vs s.0 s.1 s.2 on_vs).0 f.2)

-- a scalar is told exactly where they are
pub scalar_told : (n : ℕ) (us vs : List Gate) (v : Verdict) → All (IsOn n) us → All (IsOn n) vs → IsVerdict n (compared us vs) (exponent (comparison us vs)) v
    → AreSame n us vs ↔ ((q : Quad) × (k : ℕ) × (v ≡ Scalar q k))
scalar_told n us vs (Scalar q j) on_us on_vs h =
    ((λ s. (q, j, refl)), (λ e. (corner n (compared us vs), exponent (comparison us vs), same-from_scalar n us vs on_us on_vs h.0)))
scalar_told n us vs (Differs r c x y) on_us on_vs h =
    ((λ s. absurd (first_apart n (compared us vs) r c (scalar-from_same n us vs s.0 s.1 s.2 on_vs).0 h.0)), (λ e. (let clash = e.2 in cc)))

-- a position is as long as the matrix has qubits
pub verdict-short : (n : ℕ) (m : Matrix) (k : ℕ) (v : Verdict) → n ≤ 64 → IsVerdict n m k v → IsShort v
verdict-short n m k (Scalar q j) few h = tt
verdict-short n m k (Differs r c x y) few h = (subst (λ l. l ≤ 64) (sym h.0.row_long) few, subst (λ l. l ≤ 64) (sym h.0.column_long) few)
