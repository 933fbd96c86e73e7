-- The lowest form of a pair: division by the root of two, and why it stops at the least exponent.
use Rattle.std.proofs.Common.{◌≡◌, ℕ, zero, suc, ◌+◌, ◌-◌, ◌<◌, ◌≤◌, refl, sym, ◌∙◌, ap, ℤ, pos, ◌+ℤ◌, ◌-ℤ◌, arith, FitsSigned, to_z, of_z}
use Rattle.std.specs.Int.{w128}
use Rattle.std.proofs.lemmas.Int.{ints}
use Rattle.ring_omega.specs.declared.quad.Quad.{Quad}
use Rattle.ring_omega.specs.Ring.{quad, zero_quad, product_of, times_power, root_of_two}
use Rattle.ring_omega.specs.Value.{SameValue, IsLowestForm}
use Rattle.ring_omega.specs.Private.{IsDivisible, SameParity}
use Rattle.ring_omega.proofs.RingLemmas.{quad_eq, times_root-is}

-- the same factor on both sides can be left out
pub product_of-root_cancel : (p q : Quad) → product_of p root_of_two ≡ product_of q root_of_two → p ≡ q
product_of-root_cancel p q e =
    let f : quad (p.b -ℤ p.d) (p.a +ℤ p.c) (p.b +ℤ p.d) (p.c -ℤ p.a) ≡ quad (q.b -ℤ q.d) (q.a +ℤ q.c) (q.b +ℤ q.d) (q.c -ℤ q.a)
    = sym (times_root-is p) ∙ e ∙ times_root-is q in
    let fa : p.b -ℤ p.d ≡ q.b -ℤ q.d = ap (λ (r : Quad). r.a) f in
    let fb : p.a +ℤ p.c ≡ q.a +ℤ q.c = ap (λ (r : Quad). r.b) f in
    let fc : p.b +ℤ p.d ≡ q.b +ℤ q.d = ap (λ (r : Quad). r.c) f in
    let fd : p.c -ℤ p.a ≡ q.c -ℤ q.a = ap (λ (r : Quad). r.d) f in
    quad_eq p q (omega (arith, ints)) (omega (arith, ints)) (omega (arith, ints)) (omega (arith, ints))

pub times_power-root_cancel : (n : ℕ) (p q : Quad) → times_power root_of_two n p ≡ times_power root_of_two n q → p ≡ q
times_power-root_cancel zero p q e = e
times_power-root_cancel (suc n) p q e = times_power-root_cancel n p q (product_of-root_cancel _ _ e)

-- the first factor may come first
pub times_power-product_of : (r : Quad) (n : ℕ) (q : Quad) → times_power r n (product_of q r) ≡ product_of (times_power r n q) r
times_power-product_of r zero q = refl
times_power-product_of r (suc n) q = ap (λ x. product_of x r) (times_power-product_of r n q)

pub times_power-times_power : (r : Quad) (m n : ℕ) (q : Quad) → times_power r m (times_power r n q) ≡ times_power r n (times_power r m q)
times_power-times_power r zero n q = refl
times_power-times_power r (suc m) n q = ap (λ x. product_of x r) (times_power-times_power r m n q) ∙ sym (times_power-product_of r n (times_power r m q))

pub times_power-add : (r : Quad) (m n : ℕ) (q : Quad) → times_power r (n + m) q ≡ times_power r m (times_power r n q)
times_power-add r zero n q = let e : n + zero ≡ n = omega arith in ap (λ k. times_power r k q) e
times_power-add r (suc m) n q =
    let e : n + suc m ≡ suc (n + m) = omega arith in
    ap (λ k. times_power r k q) e ∙ ap (λ x. product_of x r) (times_power-add r m n q)

pub times_power-zero_quad : (n : ℕ) → times_power root_of_two n zero_quad ≡ zero_quad
unfolding product_of
times_power-zero_quad zero = refl
times_power-zero_quad (suc n) = ap (λ x. product_of x root_of_two) (times_power-zero_quad n)

not_below : {i j : ℕ} → ¬ (i < j) → j ≤ i
not_below h = omega arith

-- a number that is not divisible has the least exponent of its value
pub least_where_stuck : (q : Quad) (k : ℕ) (p : Quad) (j : ℕ) → SameValue q k p j → ((0 < j) → ¬ (IsDivisible p)) → IsLowestForm q k p j
least_where_stuck q k p j same stuck = record { same = same; least = λ r i other. by_order r i other }
  where
    by_order : (r : Quad) (i : ℕ) → SameValue q k r i → j ≤ i
    by_order r i other = not_below (λ below.
        let d = j - suc i in
        let split : j ≡ i + suc d = omega arith in
        let e : times_power root_of_two k p ≡ times_power root_of_two k (times_power root_of_two (suc d) r)
        = sym same ∙ ap (λ n. times_power root_of_two n q) split ∙ times_power-add root_of_two (suc d) i q ∙ ap (times_power root_of_two (suc d)) other
        ∙ times_power-times_power root_of_two (suc d) k r in
        stuck (omega arith) (times_power root_of_two d r, sym (times_power-root_cancel k p (times_power root_of_two (suc d) r) e)))

pub still_same : (q : Quad) (k : ℕ) (p : Quad) (j : ℕ) (h : Quad) → SameValue q k p (suc j) → product_of h root_of_two ≡ p → SameValue q k h j
still_same q k p j h same e =
    product_of-root_cancel _ _
    (same ∙ ap (times_power root_of_two k) (sym e) ∙ times_power-product_of root_of_two k h)

pub lowest_form-unique : (q : Quad) (k : ℕ) (p : Quad) (j : ℕ) (p' : Quad) (j' : ℕ) → IsLowestForm q k p j → IsLowestForm q k p' j' → (p ≡ p') × (j ≡ j')
lowest_form-unique q k p j p' j' l l' =
    let e : j ≡ j' = omega (arith, l.least p' j' l'.same, l'.least p j l.same) in
    (times_power-root_cancel k p p' (sym l.same ∙ ap (λ n. times_power root_of_two n q) e ∙ l'.same), e)

pub divisible_parities : (q : Quad) → IsDivisible q → SameParity q.b q.d × SameParity q.a q.c × SameParity q.c q.a
divisible_parities q (p, e) =
    let f : quad (p.b -ℤ p.d) (p.a +ℤ p.c) (p.b +ℤ p.d) (p.c -ℤ p.a) ≡ q = sym (times_root-is p) ∙ e in
    let fa : p.b -ℤ p.d ≡ q.a = ap (λ (r : Quad). r.a) f in
    let fb : p.a +ℤ p.c ≡ q.b = ap (λ (r : Quad). r.b) f in
    let fc : p.b +ℤ p.d ≡ q.c = ap (λ (r : Quad). r.c) f in
    let fd : p.c -ℤ p.a ≡ q.d = ap (λ (r : Quad). r.d) f in
    ((p.a, omega (arith, ints)), (pos 0 -ℤ p.d, omega (arith, ints)), (p.d, omega (arith, ints)))

-- halves of the four sums and differences divide by the root of two
pub divides : (q h : Quad) → h.a +ℤ h.a ≡ q.b -ℤ q.d → h.b +ℤ h.b ≡ q.a +ℤ q.c → h.c +ℤ h.c ≡ q.b +ℤ q.d → h.d +ℤ h.d ≡ q.c -ℤ q.a → product_of h root_of_two ≡ q
divides q h ea eb ec ed = times_root-is h ∙ quad_eq _ _ (omega (arith, ints)) (omega (arith, ints)) (omega (arith, ints)) (omega (arith, ints))

pub divisible-from_parities : (q : Quad) → SameParity q.a q.c → SameParity q.b q.d → IsDivisible q
divisible-from_parities q (m, e) (n, f) =
    let h = quad n (q.c +ℤ m) (q.d +ℤ n) (pos 0 -ℤ m) in
    (h, divides q h (omega (arith, ints)) (omega (arith, ints)) (omega (arith, ints)) (omega (arith, ints)))

-- a signed number passed to a call is that number
pub passed_parity : (x y : ℤ) → FitsSigned w128 x → FitsSigned w128 y → SameParity x y → SameParity (to_z w128 (of_z w128 x)) (to_z w128 (of_z w128 y))
passed_parity x y f g (m, e) = (m, omega (arith, ints))

pub kept_parity : (x y : ℤ) → FitsSigned w128 x → FitsSigned w128 y → SameParity (to_z w128 (of_z w128 x)) (to_z w128 (of_z w128 y)) → SameParity x y
kept_parity x y f g (m, e) = (m, omega (arith, ints))

pub zero-lowest : (q : Quad) (k : ℕ) → q ≡ zero_quad → IsLowestForm q k q 0
zero-lowest q k e = record {
  same = e ∙ sym (times_power-zero_quad k) ∙ ap (times_power root_of_two k) (sym e);
  least = λ r i s. omega arith;
}
