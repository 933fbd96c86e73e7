-- The computed lowest form is the lowest form.
use Rattle.std.proofs.Common.{◌≡◌, ℕ, zero, suc, ◌%◌, refl, sym, ◌∙◌, ap, ℤ, pos, negsuc, ◌+ℤ◌, ◌-ℤ◌, arith, Bool, true, false, cond, eq-eqb}
use Rattle.std.proofs.lemmas.Int.{ints}
use Rattle.std.proofs.lemmas.Bool.{eqb-true, and_parts}
use Rattle.ring_omega.specs.declared.quad.Quad.{Quad}
use Rattle.ring_omega.specs.Ring.{product_of, times_power, root_of_two}
use Rattle.ring_omega.specs.Value.{IsLowestForm}
use Rattle.ring_omega.specs.Private.{IsDivisible}
use Rattle.ring_omega.specs.Lowest.{is_even, is_divisible, half, quotient, lowest_form}
use Rattle.ring_omega.proofs.LowestLemmas.{product_of-root_cancel, times_power-product_of, least_where_stuck, lowest_form-unique, divides, divisible_parities}

pub half-of_even : (z : ℤ) → is_even z ≡ true → half z +ℤ half z ≡ z
half-of_even (pos n) t = let e = eqb-true (n % 2) 0 t in omega (arith, ints)
half-of_even (negsuc n) t = let e = eqb-true (suc n % 2) 0 t in omega (arith, ints)

pub is_even-of_double : (z h : ℤ) → z ≡ h +ℤ h → is_even z ≡ true
is_even-of_double (pos n) h e = eq-eqb (n % 2) 0 (omega (arith, ints))
is_even-of_double (negsuc n) h e = eq-eqb (suc n % 2) 0 (omega (arith, ints))

is_even-of_parity : (x y m : ℤ) → x ≡ y +ℤ (m +ℤ m) → is_even (x -ℤ y) ≡ true
is_even-of_parity x y m e = is_even-of_double (x -ℤ y) m (omega (arith, ints))

quotient-is : (q : Quad) → is_divisible q ≡ true → product_of (quotient q) root_of_two ≡ q
unfolding is_divisible quotient
quotient-is q t =
    let (s, u) = and_parts (is_even (q.a -ℤ q.c)) (is_even (q.b -ℤ q.d)) t in
    let m = half-of_even (q.a -ℤ q.c) s in
    let n = half-of_even (q.b -ℤ q.d) u in
    let ac = is_even-of_double (q.a +ℤ q.c) (q.c +ℤ half (q.a -ℤ q.c)) (omega (arith, ints)) in
    let bd = is_even-of_double (q.b +ℤ q.d) (q.d +ℤ half (q.b -ℤ q.d)) (omega (arith, ints)) in
    let ca = is_even-of_double (q.c -ℤ q.a) (pos 0 -ℤ half (q.a -ℤ q.c)) (omega (arith, ints)) in
    divides q (quotient q) n (half-of_even (q.a +ℤ q.c) ac) (half-of_even (q.b +ℤ q.d) bd) (half-of_even (q.c -ℤ q.a) ca)

divisible_test : (q : Quad) → IsDivisible q → is_divisible q ≡ true
unfolding is_divisible
divisible_test q d =
    let p = divisible_parities q d in
    let ac = is_even-of_parity q.a q.c p.1.0 p.1.1 in
    let bd = is_even-of_parity q.b q.d p.0.0 p.0.1 in
    cc

-- the lowest form of q over the root of two is that of q
lowest-of_divided : (q h : Quad) (k : ℕ) (p : Quad) (j : ℕ) → product_of h root_of_two ≡ q → IsLowestForm h k p j → IsLowestForm q (suc k) p j
lowest-of_divided q h k p j e l = record {
  same = ap (times_power root_of_two j) (sym e) ∙ times_power-product_of root_of_two j h ∙ ap (λ r. product_of r root_of_two) l.same;
  least = λ r i s. l.least r i (product_of-root_cancel _ _ (sym (times_power-product_of root_of_two i h) ∙ ap (times_power root_of_two i) e ∙ s));
}

IsLowestPair : Quad → ℕ → Quad × ℕ → Type 0
IsLowestPair q k r = IsLowestForm q k r.0 r.1

pub lowest_form-is : (q : Quad) (k : ℕ) → IsLowestForm q k (lowest_form q k).0 (lowest_form q k).1
unfolding IsLowestPair lowest_form
lowest_form-is q zero = least_where_stuck q zero q zero refl (λ h. absurd (omega arith))
lowest_form-is q (suc k) = by_test (is_divisible q) refl (lowest_form-is (quotient q) k)
  where
    by_test : (b : Bool) → is_divisible q ≡ b → IsLowestPair (quotient q) k (lowest_form (quotient q) k) → IsLowestPair q (suc k) (cond b (lowest_form (quotient q) k) (q, suc k))
    by_test true t l = lowest-of_divided q (quotient q) k _ _ (quotient-is q t) l
    by_test false t l = least_where_stuck q (suc k) q (suc k) refl (λ h d. let e = divisible_test q d in cc)

pub lowest_form-from_lowest : (q : Quad) (k : ℕ) (p : Quad) (j : ℕ) → IsLowestForm q k p j → (p ≡ (lowest_form q k).0) × (j ≡ (lowest_form q k).1)
lowest_form-from_lowest q k p j l = lowest_form-unique q k p j _ _ l (lowest_form-is q k)

-- a lowest form is the computed one
pub with_lowest_form : (q : Quad) (k : ℕ) (p : Quad) (j : ℕ) → IsLowestForm q k p j → IsLowestForm q k p j × ((p, j) ≡ lowest_form q k)
with_lowest_form q k p j l =
    let (same, exponent) = lowest_form-from_lowest q k p j l in
    (l, λ i. (same i, exponent i))
