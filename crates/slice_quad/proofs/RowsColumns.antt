-- When the row is the column.
use Rattle.std.proofs.Common.{◌≡◌, ◌≢◌, ℕ, zero, suc, ◌+◌, ◌*◌, ◌<◌, Bool, true, false, ◌&&◌, inl, inr, refl, sym, ◌∙◌, ap, arith}
use Rattle.std.proofs.lemmas.Bool.{and_parts, cases_Bool}
use Rattle.diagram_model.specs.Functions.{Assignment}
use Rattle.diagram_model.specs.Size.{same_bool}
use Rattle.diagram_model.proofs.Sizes.{same_bool-true}
use Rattle.slice_quad.specs.RowsColumns.{row_equals_column}

both_true : (a b : Bool) → a ≡ true → b ≡ true → a && b ≡ true
both_true true true e f = refl
both_true true false e f = cc
both_true false b e f = cc

same_itself : (a b : Bool) → a ≡ b → same_bool a b ≡ true
same_itself true true e = refl
same_itself false false e = refl
same_itself true false e = cc
same_itself false true e = cc

-- the qubit at a place further
next_row : (x : Assignment) (q : ℕ) → x (2 * suc q) ≡ x (suc (suc (2 * q)))
next_row x q = let at : 2 * suc q ≡ suc (suc (2 * q)) = omega arith in ap x at

next_column : (x : Assignment) (q : ℕ) → x (2 * suc q + 1) ≡ x (suc (suc (2 * q + 1)))
next_column x q = let at : 2 * suc q + 1 ≡ suc (suc (2 * q + 1)) = omega arith in ap x at

-- it holds where each qubit's bits are the same
pub row_equals : (n : ℕ) (x : Assignment) → ((q : ℕ) → q < n → x (2 * q) ≡ x (2 * q + 1)) → row_equals_column n x ≡ true
unfolding row_equals_column
row_equals zero x same = refl
row_equals (suc n) x same =
    both_true (same_bool (x 0) (x 1)) (row_equals_column n (λ v. x (suc (suc v)))) (same_itself (x 0) (x 1) (same 0 (omega arith)))
    (row_equals n (λ v. x (suc (suc v))) (λ q lt. sym (next_row x q) ∙ same (suc q) (omega (arith, lt)) ∙ next_column x q))

-- and only there
pub row_equals_at : (n : ℕ) (x : Assignment) → row_equals_column n x ≡ true → (q : ℕ) → q < n → x (2 * q) ≡ x (2 * q + 1)
unfolding row_equals_column
row_equals_at zero x is q lt = absurd (omega (arith, lt))
row_equals_at (suc n) x is zero lt = let both = and_parts (same_bool (x 0) (x 1)) (row_equals_column n (λ v. x (suc (suc v)))) is in same_bool-true (x 0) (x 1) both.0
row_equals_at (suc n) x is (suc q) lt =
    let both = and_parts (same_bool (x 0) (x 1)) (row_equals_column n (λ v. x (suc (suc v)))) is in
    next_row x q ∙ row_equals_at n (λ v. x (suc (suc v))) both.1 q (omega (arith, lt)) ∙ sym (next_column x q)

-- it doesn't where some qubit's bits differ
pub row_differs : (n : ℕ) (x : Assignment) (q : ℕ) → q < n → x (2 * q) ≢ x (2 * q + 1) → row_equals_column n x ≡ false
row_differs n x q lt ne = elim (cases_Bool (row_equals_column n x)) [
  | inl t ↦ absurd (ne (row_equals_at n x t q lt))
  | inr f ↦ f
]
