-- The bits of a table that are met, and what they say.
use Rattle.std.proofs.Common.{◌≡◌, ℕ, ◌+◌, ◌*◌, ◌<◌, Bool, true, false, cond, eqb, inl, inr, refl, sym, ◌∙◌, ap, arith}
use Rattle.std.specs.Prelude.{bit_and}
use Rattle.std.specs.Int.{bit_at}
use Rattle.std.proofs.lemmas.Bool.{cases_eq, cond-true, cond-false, eq-eqb, ne_eqb}
use Rattle.std.proofs.lemmas.Nat.Bits.{bit_at_and, bit_at-zero}
use Rattle.diagram_ops.specs.Connectives.{table_bit, number, connective}
use Rattle.diagram_ops.specs.Short.{IsValuation, kept_by, kept_same, mask_of, IsShort}
use Rattle.diagram_ops.proofs.Cases.{of_three, of_two}

abbrev pub place : Bool → Bool → Bool → ℕ
place a b c = 4 * number a + 2 * number b + number c

-- bits 0 to 7 are set
all_set : (a b c : Bool) → bit_at 255 (place a b c) ≡ 1
all_set = of_three (λ a b c. bit_at 255 (place a b c) ≡ 1) refl refl refl refl refl refl refl refl

f_bit : (a b c : Bool) → bit_at (cond a 240 15) (place a b c) ≡ 1
f_bit = of_three (λ a b c. bit_at (cond a 240 15) (place a b c) ≡ 1) refl refl refl refl refl refl refl refl

g_bit : (a b c : Bool) → bit_at (cond b 204 51) (place a b c) ≡ 1
g_bit = of_three (λ a b c. bit_at (cond b 204 51) (place a b c) ≡ 1) refl refl refl refl refl refl refl refl

h_bit : (a b c : Bool) → bit_at (cond c 170 85) (place a b c) ≡ 1
h_bit = of_three (λ a b c. bit_at (cond c 170 85) (place a b c) ≡ 1) refl refl refl refl refl refl refl refl

fg_bit : (a c : Bool) → bit_at 195 (place a a c) ≡ 1
fg_bit = of_two (λ a c. bit_at 195 (place a a c) ≡ 1) refl refl refl refl

fh_bit : (a b : Bool) → bit_at 165 (place a b a) ≡ 1
fh_bit = of_two (λ a b. bit_at 165 (place a b a) ≡ 1) refl refl refl refl

gh_bit : (a b : Bool) → bit_at 153 (place a b b) ≡ 1
gh_bit = of_two (λ a b. bit_at 153 (place a b b) ≡ 1) refl refl refl refl

kept_at : (e : ℕ → Bool) (n high low k : ℕ) → IsValuation e → bit_at (cond (e n) high low) k ≡ 1 → bit_at 255 k ≡ 1 → bit_at (kept_by n high low) k ≡ 1
kept_at e n high low k v own all =
    elim (cases_eq n 0) [
      | inl z ↦
          let is : e n ≡ false = ap e z ∙ v.at_false in
          ap (λ m. bit_at m k) (cond-true (eqb n 0) low (cond (eqb n 1) high 255) (eq-eqb n 0 z) ∙ sym (cond-false (e n) high low is)) ∙ own
      | inr nz ↦ elim (cases_eq n 1) [
        | inl o ↦
            let is : e n ≡ true = ap e o ∙ v.at_true in
            ap (λ m. bit_at m k) (cond-false (eqb n 0) low (cond (eqb n 1) high 255) (ne_eqb n 0 nz) ∙ cond-true (eqb n 1) high 255 (eq-eqb n 1 o) ∙ sym (cond-true (e n) high low is)) ∙ own
        | inr ne ↦ ap (λ m. bit_at m k) (cond-false (eqb n 0) low (cond (eqb n 1) high 255) (ne_eqb n 0 nz) ∙ cond-false (eqb n 1) high 255 (ne_eqb n 1 ne)) ∙ all
      ]
    ]

same_at : (n m both k : ℕ) → (n ≡ m → bit_at both k ≡ 1) → bit_at 255 k ≡ 1 → bit_at (kept_same n m both) k ≡ 1
same_at n m both k own all =
    elim (cases_eq n m) [
      | inl e ↦ ap (λ x. bit_at x k) (cond-true (eqb n m) both 255 (eq-eqb n m e)) ∙ own e
      | inr ne ↦ ap (λ x. bit_at x k) (cond-false (eqb n m) both 255 (ne_eqb n m ne)) ∙ all
    ]

both_at : (x y k : ℕ) → bit_at x k ≡ 1 → bit_at y k ≡ 1 → bit_at (bit_and x y) k ≡ 1
both_at x y k p q = let h = bit_at_and x y k in omega (arith, h, p, q)

pub mask_at : (e : ℕ → Bool) (f g h : ℕ) → IsValuation e → bit_at (mask_of f g h) (place (e f) (e g) (e h)) ≡ 1
mask_at e f g h v =
    let k = place (e f) (e g) (e h) in
    let all = all_set (e f) (e g) (e h) in
    let pf = kept_at e f 240 15 k v (f_bit (e f) (e g) (e h)) all in
    let pg = kept_at e g 204 51 k v (g_bit (e f) (e g) (e h)) all in
    let ph = kept_at e h 170 85 k v (h_bit (e f) (e g) (e h)) all in
    let fg = same_at f g 195 k (λ s. ap (λ b. bit_at 195 (place (e f) b (e h))) (ap e (sym s)) ∙ fg_bit (e f) (e h)) all in
    let fh = same_at f h 165 k (λ s. ap (λ c. bit_at 165 (place (e f) (e g) c)) (ap e (sym s)) ∙ fh_bit (e f) (e g)) all in
    let gh = same_at g h 153 k (λ s. ap (λ c. bit_at 153 (place (e f) (e g) c)) (ap e (sym s)) ∙ gh_bit (e f) (e g)) all in
    both_at (bit_and (bit_and (kept_by f 240 15) (kept_by g 204 51)) (kept_by h 170 85)) (bit_and (bit_and (kept_same f g 195) (kept_same f h 165)) (kept_same g h 153)) k
    (both_at (bit_and (kept_by f 240 15) (kept_by g 204 51)) (kept_by h 170 85) k (both_at (kept_by f 240 15) (kept_by g 204 51) k pf pg) ph)
    (both_at (bit_and (kept_same f g 195) (kept_same f h 165)) (kept_same g h 153) k (both_at (kept_same f g 195) (kept_same f h 165) k fg fh) gh)

-- two tables with the same bits under a mask agree at each bit of the mask
pub under_mask : (t s m k : ℕ) → bit_and t m ≡ bit_and s m → bit_at m k ≡ 1 → bit_at t k ≡ bit_at s k
under_mask t s m k same one =
    let a = bit_at_and t m k in
    let b = bit_at_and s m k in
    let c : bit_at (bit_and t m) k ≡ bit_at (bit_and s m) k = ap (λ x. bit_at x k) same in
    omega (arith, a, b, c, one)

same_connective : (t s : ℕ) (a b c : Bool) → bit_at t (place a b c) ≡ bit_at s (place a b c) → connective t a b c ≡ connective s a b c
unfolding connective
same_connective t s a b c e = ap (λ x. eqb x 1) e

is_f : (a b c : Bool) → connective 240 a b c ≡ a
unfolding connective
is_f = of_three (λ a b c. connective 240 a b c ≡ a) refl refl refl refl refl refl refl refl

is_g : (a b c : Bool) → connective 204 a b c ≡ b
unfolding connective
is_g = of_three (λ a b c. connective 204 a b c ≡ b) refl refl refl refl refl refl refl refl

is_h : (a b c : Bool) → connective 170 a b c ≡ c
unfolding connective
is_h = of_three (λ a b c. connective 170 a b c ≡ c) refl refl refl refl refl refl refl refl

module _ (t f g h : ℕ) where
  agrees : (s : ℕ) → bit_and t (mask_of f g h) ≡ bit_and s (mask_of f g h) → (e : ℕ → Bool) → IsValuation e → connective t (e f) (e g) (e h) ≡ connective s (e f) (e g) (e h)
  agrees s same e v = same_connective t s (e f) (e g) (e h) (under_mask t s (mask_of f g h) (place (e f) (e g) (e h)) same (mask_at e f g h v))

  pub short_false : bit_and t (mask_of f g h) ≡ 0 → IsShort t f g h 0
  unfolding connective
  short_false none = record {
    one = inl (omega arith);
    right = λ e v.
        let k = place (e f) (e g) (e h) in
        let a = bit_at_and t (mask_of f g h) k in
        let b : bit_at (bit_and t (mask_of f g h)) k ≡ 0 = ap (λ x. bit_at x k) none ∙ bit_at-zero k in
        let m = mask_at e f g h v in
        let z : bit_at t k ≡ 0 = omega (arith, a, b, m) in
        v.at_false ∙ sym (ap (λ x. eqb x 1) z);
  }

  pub short_true : bit_and t (mask_of f g h) ≡ mask_of f g h → IsShort t f g h 1
  unfolding connective
  short_true all = record {
    one = inl (omega arith);
    right = λ e v.
        let k = place (e f) (e g) (e h) in
        let a = bit_at_and t (mask_of f g h) k in
        let b : bit_at (bit_and t (mask_of f g h)) k ≡ bit_at (mask_of f g h) k = ap (λ x. bit_at x k) all in
        let m = mask_at e f g h v in
        let small : bit_at t k < 2 = omega arith in
        let z : bit_at t k ≡ 1 = omega (arith, a, b, m, small) in
        v.at_true ∙ sym (ap (λ x. eqb x 1) z);
  }

  pub short_f : bit_and t (mask_of f g h) ≡ bit_and 240 (mask_of f g h) → IsShort t f g h f
  short_f same = record { one = inr (inl refl); right = λ e v. sym (agrees 240 same e v ∙ is_f (e f) (e g) (e h)) }

  pub short_g : bit_and t (mask_of f g h) ≡ bit_and 204 (mask_of f g h) → IsShort t f g h g
  short_g same = record { one = inr (inr (inl refl)); right = λ e v. sym (agrees 204 same e v ∙ is_g (e f) (e g) (e h)) }

  pub short_h : bit_and t (mask_of f g h) ≡ bit_and 170 (mask_of f g h) → IsShort t f g h h
  short_h same = record { one = inr (inr (inr refl)); right = λ e v. sym (agrees 170 same e v ∙ is_h (e f) (e g) (e h)) }

number_small : (e : ℕ → Bool) (n : ℕ) → IsValuation e → n < 2 → number (e n) ≡ n
number_small e n v small =
    elim (cases_eq n 0) [
      | inl z ↦ ap number (ap e z ∙ v.at_false) ∙ sym z
      | inr nz ↦ let o : n ≡ 1 = omega arith in ap number (ap e o ∙ v.at_true) ∙ sym o
    ]

bit_value : (e : ℕ → Bool) (n : ℕ) → IsValuation e → n < 2 → e n ≡ eqb n 1
bit_value e n v small =
    elim (cases_eq n 0) [
      | inl z ↦ ap e z ∙ v.at_false ∙ ap (λ m. eqb m 1) (sym z)
      | inr nz ↦ let o : n ≡ 1 = omega arith in ap e o ∙ v.at_true ∙ ap (λ m. eqb m 1) (sym o)
    ]

-- the bit of the table is the connective of three constants
pub short_bit : (t f g h : ℕ) → f < 2 → g < 2 → h < 2 → IsShort t f g h (table_bit t f g h)
unfolding connective
short_bit t f g h lf lg lh =
    let small : table_bit t f g h < 2 = omega arith in
    record {
      one = inl small;
      right = λ e v.
          bit_value e (table_bit t f g h) v small
          ∙ ap (λ a. eqb (table_bit t a g h) 1) (sym (number_small e f v lf))
          ∙ ap (λ a. eqb (table_bit t (number (e f)) a h) 1) (sym (number_small e g v lg))
          ∙ ap (λ a. eqb (table_bit t (number (e f)) (number (e g)) a) 1) (sym (number_small e h v lh));
    }
