-- The bits of a row and a column, set in turns.
use Rattle.std.proofs.Common.{◌≡◌, ◌≢◌, ℕ, suc, ◌+◌, ◌*◌, ◌<◌, Bool, false, List, [], ◌∷◌, length, get_or, set, inl, inr, refl, sym, ◌∙◌, ap, arith}
use Rattle.std.proofs.Math.Path.{ap₂}
use Rattle.std.proofs.lemmas.Bool.{cases_eq}
use Rattle.std.proofs.lemmas.List.{get_or-set_same, get_or-set_other, length-set}
use Rattle.slice_gates.specs.Sides.{woven}

-- the bits of the first i qubits stand in their places
pub record AreWoven (i : ℕ) (r c x : List Bool) : Type 0 where
  pub long : length x ≡ 2 * length r
  pub row : (q : ℕ) → q < i → get_or x (2 * q) false ≡ get_or r q false
  pub column : (q : ℕ) → q < i → get_or x (2 * q + 1) false ≡ get_or c q false

pub woven_none : (r c x : List Bool) → length x ≡ 2 * length r → AreWoven 0 r c x
woven_none r c x long = record { long = long; row = λ q lt. absurd (omega (arith, lt)); column = λ q lt. absurd (omega (arith, lt)) }

pub woven_next : (i : ℕ) (r c x y z : List Bool) (a b : Bool) → i < length r → a ≡ get_or r i false → b ≡ get_or c i false → y ≡ set x (2 * i) a → z ≡ set y (2 * i + 1) b → AreWoven i r c x → AreWoven (i + 1) r c z
woven_next i r c x y z a b less is_a is_b is_y is_z h = record {
  long = long_z;
  row = λ q lt. elim (cases_eq q i) [
    | inl e ↦ ap (λ k. get_or z (2 * k) false) e ∙ other (2 * i) (λ same. let clash : 2 * i < 2 * i = omega (arith, same) in absurd (omega (arith, clash))) ∙ first ∙ is_a ∙ ap (λ k. get_or r k false) (sym e)
    | inr ne ↦
        let before : q < i = omega (arith, lt, ne) in
        other (2 * q) (λ same. let clash : q < q = omega (arith, same, before) in absurd (omega (arith, clash)))
        ∙ earlier (2 * q) (λ same. let clash : q < q = omega (arith, same, before) in absurd (omega (arith, clash))) ∙ h.row q before
  ];
  column = λ q lt. elim (cases_eq q i) [
    | inl e ↦ ap (λ k. get_or z (2 * k + 1) false) e ∙ second ∙ is_b ∙ ap (λ k. get_or c k false) (sym e)
    | inr ne ↦
        let before : q < i = omega (arith, lt, ne) in
        other (2 * q + 1) (λ same. let clash : q < q = omega (arith, same, before) in absurd (omega (arith, clash)))
        ∙ earlier (2 * q + 1) (λ same. let clash : q < q = omega (arith, same, before) in absurd (omega (arith, clash))) ∙ h.column q before
  ];
}
  where
    long_y : length y ≡ 2 * length r
    long_y = ap (λ (l : List Bool). length l) is_y ∙ length-set x (2 * i) a ∙ h.long

    long_z : length z ≡ 2 * length r
    long_z = ap (λ (l : List Bool). length l) is_z ∙ length-set y (2 * i + 1) b ∙ long_y

    first : get_or y (2 * i) false ≡ a
    first = ap (λ (l : List Bool). get_or l (2 * i) false) is_y ∙ get_or-set_same x (2 * i) a false (let long = h.long in omega (arith, less, long))

    second : get_or z (2 * i + 1) false ≡ b
    second = ap (λ (l : List Bool). get_or l (2 * i + 1) false) is_z ∙ get_or-set_same y (2 * i + 1) b false (omega (arith, less, long_y))

    other : (j : ℕ) → j ≢ 2 * i + 1 → get_or z j false ≡ get_or y j false
    other j ne = ap (λ (l : List Bool). get_or l j false) is_z ∙ get_or-set_other y (2 * i + 1) j b false ne

    earlier : (j : ℕ) → j ≢ 2 * i → get_or y j false ≡ get_or x j false
    earlier j ne = ap (λ (l : List Bool). get_or l j false) is_y ∙ get_or-set_other x (2 * i) j a false ne

-- all are set
pub woven_all : (r c x : List Bool) → length c ≡ length r → AreWoven (length r) r c x → x ≡ woven r c
woven_all [] [] [] e h = refl
woven_all [] [] (u ∷ x) e h = let long = h.long in absurd (omega (arith, long))
woven_all [] (b ∷ c) x e h = absurd (omega arith)
woven_all (a ∷ r) [] x e h = absurd (omega arith)
woven_all (a ∷ r) (b ∷ c) [] e h = let long = h.long in absurd (omega (arith, long))
woven_all (a ∷ r) (b ∷ c) (u ∷ []) e h = let long = h.long in absurd (omega (arith, long))
woven_all (a ∷ r) (b ∷ c) (u ∷ v ∷ x) e h =
    let rest : AreWoven (length r) r c x = record {
      long = let long = h.long in omega (arith, long);
      row = λ q lt. let at : 2 * suc q ≡ suc (suc (2 * q)) = omega arith in sym (ap (λ i. get_or (u ∷ v ∷ x) i false) at) ∙ h.row (suc q) (omega (arith, lt));
      column = λ q lt. let at : 2 * suc q + 1 ≡ suc (suc (2 * q + 1)) = omega arith in sym (ap (λ i. get_or (u ∷ v ∷ x) i false) at) ∙ h.column (suc q) (omega (arith, lt));
    } in
    ap₂ (λ s t. s ∷ t ∷ x) (h.row 0 (omega arith)) (h.column 0 (omega arith)) ∙ ap (λ l. a ∷ b ∷ l) (woven_all r c x (omega (arith, e)) rest)
