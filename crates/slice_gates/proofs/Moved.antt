-- A vector at other lists: a matrix by rows and columns in turns is halved as it is by rows and then columns.
use Rattle.std.proofs.Common.{◌≡◌, ℕ, zero, suc, ◌+◌, ◌*◌, Bool, List, [], ◌∷◌, ◌++◌, take, drop, length, refl, ◌∙◌, ap, arith}
use Rattle.std.proofs.Math.Path.{ap₂}
use Rattle.std.proofs.lemmas.List.{length-append}
use Rattle.ring_omega.specs.declared.quad.Quad.{Quad}
use Rattle.circuit_model.specs.Working.{Scaled, scaled, IsHalved}
use Rattle.slice_gates.specs.Sides.{woven}

-- each list of m bits is that of some list of n
abbrev pub Covers : ℕ → ℕ → (List Bool → List Bool) → Type 0
Covers n m seen = (l : List Bool) → length l ≡ m → (x : List Bool) × (length x ≡ n) × (seen x ≡ l)

pub halved-moved : (n m : ℕ) (seen : List Bool → List Bool) (v : List Bool → Quad) (k : ℕ) (w : Scaled) → ((x : List Bool) → length x ≡ n → length (seen x) ≡ m) → Covers n m seen
    → IsHalved m v k w → IsHalved n (λ x. v (seen x)) k (scaled (λ x. w.entries (seen x)) w.exponent)
halved-moved n m seen v k w long covers h = record {
  times = h.times;
  exponent_left = h.exponent_left;
  taken_out = λ x len. h.taken_out (seen x) (long x len);
  ended = λ two_left all. h.ended two_left (λ l len.
      let c = covers l len in
      let half = all c.0 c.1 in
      (half.0, half.1 ∙ ap w.entries c.2));
}

pub length-woven : (r c : List Bool) → length r ≡ length c → length (woven r c) ≡ 2 * length r
length-woven [] [] e = omega arith
length-woven [] (b ∷ c) e = absurd (omega arith)
length-woven (a ∷ r) [] e = absurd (omega arith)
length-woven (a ∷ r) (b ∷ c) e = omega (arith, length-woven r c (omega arith))

-- each list of twice as many bits is woven
pub unwoven : (n : ℕ) (l : List Bool) → length l ≡ 2 * n → (r : List Bool) × (c : List Bool) × (length r ≡ n) × (length c ≡ n) × (woven r c ≡ l)
unwoven zero [] e = ([], [], refl, refl, refl)
unwoven zero (a ∷ l) e = absurd (omega arith)
unwoven (suc n) [] e = absurd (omega arith)
unwoven (suc n) (a ∷ []) e = absurd (omega arith)
unwoven (suc n) (a ∷ b ∷ l) e =
    let h = unwoven n l (omega arith) in
    (a ∷ h.0, b ∷ h.1, ap suc h.2, ap suc h.3, ap (λ k. a ∷ b ∷ k) h.4)

pub take_front : (r c : List Bool) (n : ℕ) → length r ≡ n → take n (r ++ c) ≡ r
take_front [] c zero e = refl
take_front [] c (suc n) e = absurd (omega arith)
take_front (a ∷ r) c zero e = absurd (omega arith)
take_front (a ∷ r) c (suc n) e = ap (λ l. a ∷ l) (take_front r c n (omega arith))

pub drop_front : (r c : List Bool) (n : ℕ) → length r ≡ n → drop n (r ++ c) ≡ c
drop_front [] c zero e = refl
drop_front [] c (suc n) e = absurd (omega arith)
drop_front (a ∷ r) c zero e = absurd (omega arith)
drop_front (a ∷ r) c (suc n) e = drop_front r c n (omega arith)

-- rows and then columns, woven
abbrev pub rewoven : ℕ → List Bool → List Bool
rewoven n x = woven (take n x) (drop n x)

pub rewoven-covers : (n : ℕ) → Covers (n + n) (2 * n) (rewoven n)
rewoven-covers n l e =
    let h = unwoven n l e in
    (h.0 ++ h.1, omega (arith, length-append h.0 h.1, h.2, h.3), ap₂ woven (take_front h.0 h.1 n h.2) (drop_front h.0 h.1 n h.2) ∙ h.4)
