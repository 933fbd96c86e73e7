-- The laws of the ring: sums, products, powers and conjugates.
use Rattle.std.proofs.Common.{◌≡◌, ℕ, zero, suc, ◌*◌, refl, sym, ◌∙◌, ap, ℤ, ◌+ℤ◌, ◌-ℤ◌, ◌*ℤ◌, neg_ℤ, arith}
use Rattle.std.proofs.Math.Path.{ap₂}
use Rattle.std.proofs.lemmas.Int.{ints}
use borrow.Author.Differences.{up, down, product_is, sum_is_lem, neg_is}
use Rattle.ring_omega.specs.declared.quad.Quad.{Quad}
use Rattle.ring_omega.specs.Ring.{quad, zero_quad, one_quad, sum_of, difference_of, product_of, times_power, omega_unit, conjugate_of}
use Rattle.ring_omega.proofs.RingLemmas.{quad_eq, neg_neg, turned-4, turned-7, times_omega-is}

-- integers first
pub mul_comm : (x y : ℤ) → x *ℤ y ≡ y *ℤ x
mul_comm x y = omega (arith, ints)

scaled : (k : ℕ) {m n : ℕ} → m ≡ n → k * m ≡ k * n
scaled k e = ap (λ t. k * t) e

pub mul_add : (x y z : ℤ) → x *ℤ (y +ℤ z) ≡ x *ℤ y +ℤ x *ℤ z
mul_add x y z = omega (arith, ints, scaled (up x) (sum_is_lem y z), scaled (down x) (sum_is_lem y z))

pub mul_neg : (x y : ℤ) → x *ℤ neg_ℤ y ≡ neg_ℤ (x *ℤ y)
mul_neg x y = omega (arith, ints, scaled (up x) (neg_is y).0, scaled (up x) (neg_is y).1, scaled (down x) (neg_is y).0, scaled (down x) (neg_is y).1)

pub mul_sub : (x y z : ℤ) → x *ℤ (y -ℤ z) ≡ x *ℤ y -ℤ x *ℤ z
mul_sub x y z = mul_add x y (neg_ℤ z) ∙ ap (λ t. x *ℤ y +ℤ t) (mul_neg x z)

pub add_mul : (x y z : ℤ) → (x +ℤ y) *ℤ z ≡ x *ℤ z +ℤ y *ℤ z
add_mul x y z = omega (arith, ints, mul_comm (x +ℤ y) z, mul_add z x y)

pub sub_mul : (x y z : ℤ) → (x -ℤ y) *ℤ z ≡ x *ℤ z -ℤ y *ℤ z
sub_mul x y z = mul_comm (x -ℤ y) z ∙ mul_sub z x y ∙ omega (arith, ints)

pub mul_assoc : (x y z : ℤ) → (x *ℤ y) *ℤ z ≡ x *ℤ (y *ℤ z)
mul_assoc x y z =
    let xy = product_is x y in
    let yz = product_is y z in
    omega (arith, ints, scaled (up z) xy.0, scaled (up z) xy.1, scaled (down z) xy.0, scaled (down z) xy.1, scaled (up x) yz.0, scaled (up x) yz.1, scaled (down x) yz.0, scaled (down x) yz.1)

pub sum_of-comm : (p q : Quad) → sum_of p q ≡ sum_of q p
unfolding sum_of
sum_of-comm p q = quad_eq _ _ (omega (arith, ints)) (omega (arith, ints)) (omega (arith, ints)) (omega (arith, ints))

pub sum_of-assoc : (p q r : Quad) → sum_of (sum_of p q) r ≡ sum_of p (sum_of q r)
unfolding sum_of
sum_of-assoc p q r = quad_eq _ _ (omega (arith, ints)) (omega (arith, ints)) (omega (arith, ints)) (omega (arith, ints))

pub sum_of-zero : (q : Quad) → sum_of q zero_quad ≡ q
unfolding sum_of
sum_of-zero q = quad_eq _ _ (omega (arith, ints)) (omega (arith, ints)) (omega (arith, ints)) (omega (arith, ints))

pub zero-sum_of : (q : Quad) → sum_of zero_quad q ≡ q
zero-sum_of q = sum_of-comm zero_quad q ∙ sum_of-zero q

-- the sums of two sums, regrouped
pub sum_of-exchange : (p q r s : Quad) → sum_of (sum_of p q) (sum_of r s) ≡ sum_of (sum_of p r) (sum_of q s)
unfolding sum_of
sum_of-exchange p q r s = quad_eq _ _ (omega (arith, ints)) (omega (arith, ints)) (omega (arith, ints)) (omega (arith, ints))

-- ω⁴ = -1
pub difference_of-turned : (p q : Quad) → difference_of p q ≡ sum_of p (times_power omega_unit 4 q)
unfolding sum_of difference_of
difference_of-turned p q = quad_eq _ _ (omega (arith, ints)) (omega (arith, ints)) (omega (arith, ints)) (omega (arith, ints)) ∙ ap (sum_of p) (sym (turned-4 q))

pub product_of-comm : (p q : Quad) → product_of p q ≡ product_of q p
unfolding product_of
product_of-comm p q = quad_eq _ _ (omega (arith, ints)) (omega (arith, ints)) (omega (arith, ints)) (omega (arith, ints))

pub product_of-one : (q : Quad) → product_of q one_quad ≡ q
unfolding product_of
product_of-one q = quad_eq _ _ (omega (arith, ints)) (omega (arith, ints)) (omega (arith, ints)) (omega (arith, ints))

pub product_of-zero : (q : Quad) → product_of q zero_quad ≡ zero_quad
unfolding product_of
product_of-zero q = quad_eq _ _ (omega (arith, ints)) (omega (arith, ints)) (omega (arith, ints)) (omega (arith, ints))

pub product_of-sum : (p q r : Quad) → product_of p (sum_of q r) ≡ sum_of (product_of p q) (product_of p r)
unfolding product_of sum_of
product_of-sum p q r = quad_eq _ _ (simp mul_add (omega (arith, ints))) (simp mul_add (omega (arith, ints))) (simp mul_add (omega (arith, ints))) (simp mul_add (omega (arith, ints)))

pub neg_mul : (x y : ℤ) → neg_ℤ x *ℤ y ≡ neg_ℤ (x *ℤ y)
neg_mul x y = mul_comm (neg_ℤ x) y ∙ mul_neg y x ∙ ap neg_ℤ (mul_comm y x)

pub conjugate_of-product : (p q : Quad) → conjugate_of (product_of p q) ≡ product_of (conjugate_of p) (conjugate_of q)
unfolding product_of conjugate_of
conjugate_of-product p q = quad_eq _ _ (simp (mul_neg, neg_mul) (omega (arith, ints))) (simp (mul_neg, neg_mul) (omega (arith, ints))) (simp (mul_neg, neg_mul) (omega (arith, ints))) (simp (mul_neg, neg_mul) (omega (arith, ints)))

neg_add : (x y : ℤ) → neg_ℤ (x +ℤ y) ≡ neg_ℤ x +ℤ neg_ℤ y
neg_add x y = omega (arith, ints)

-- the sixteen terms by their last factor, and by their first
regrouped : (a b c d e f g h i j k l m n o p : ℤ)
    → a +ℤ b +ℤ c +ℤ d +ℤ (e +ℤ f +ℤ g +ℤ h) +ℤ (i +ℤ j +ℤ k +ℤ l) +ℤ (m +ℤ n +ℤ o +ℤ p)
    ≡ a +ℤ h +ℤ k +ℤ n +ℤ (b +ℤ e +ℤ l +ℤ o) +ℤ (c +ℤ f +ℤ i +ℤ p) +ℤ (d +ℤ g +ℤ j +ℤ m)
regrouped a b c d e f g h i j k l m n o p = omega (arith, ints)

ruleset spread = (mul_add, add_mul, mul_neg, neg_mul, mul_assoc, neg_add, neg_neg)

pub product_of-assoc : (p q r : Quad) → product_of (product_of p q) r ≡ product_of p (product_of q r)
unfolding product_of
product_of-assoc p q r =
    quad_eq _ _
    (simp spread (search regrouped))
    (simp spread (search regrouped))
    (simp spread (search regrouped))
    (simp spread (search regrouped))

pub sum-product_of : (p q r : Quad) → product_of (sum_of p q) r ≡ sum_of (product_of p r) (product_of q r)
sum-product_of p q r = product_of-comm (sum_of p q) r ∙ product_of-sum r p q ∙ ap₂ sum_of (product_of-comm r p) (product_of-comm r q)

-- two factors on the right change places
pub product_of-exchange : (p q r : Quad) → product_of (product_of p q) r ≡ product_of (product_of p r) q
product_of-exchange p q r = product_of-assoc p q r ∙ ap (product_of p) (product_of-comm q r) ∙ sym (product_of-assoc p r q)

pub conjugate_of-sum : (p q : Quad) → conjugate_of (sum_of p q) ≡ sum_of (conjugate_of p) (conjugate_of q)
unfolding sum_of conjugate_of
conjugate_of-sum p q = quad_eq _ _ (omega (arith, ints)) (omega (arith, ints)) (omega (arith, ints)) (omega (arith, ints))

pub conjugate_of-conjugate_of : (q : Quad) → conjugate_of (conjugate_of q) ≡ q
unfolding conjugate_of
conjugate_of-conjugate_of q = quad_eq _ _ (neg_neg q.a) (neg_neg q.b) (neg_neg q.c) refl

-- powers: a power of r goes through sums, products and powers of another number
pub times_power-sum_of : (r : Quad) (n : ℕ) (p q : Quad) → times_power r n (sum_of p q) ≡ sum_of (times_power r n p) (times_power r n q)
times_power-sum_of r zero p q = refl
times_power-sum_of r (suc n) p q = ap (λ x. product_of x r) (times_power-sum_of r n p q) ∙ sum-product_of (times_power r n p) (times_power r n q) r

pub times_power-right : (r : Quad) (n : ℕ) (p q : Quad) → times_power r n (product_of p q) ≡ product_of (times_power r n p) q
times_power-right r zero p q = refl
times_power-right r (suc n) p q = ap (λ x. product_of x r) (times_power-right r n p q) ∙ product_of-exchange (times_power r n p) q r

pub times_power-left : (r : Quad) (n : ℕ) (p q : Quad) → times_power r n (product_of p q) ≡ product_of p (times_power r n q)
times_power-left r n p q = ap (times_power r n) (product_of-comm p q) ∙ times_power-right r n q p ∙ product_of-comm (times_power r n q) p

pub times_power-exchange : (r s : Quad) (m n : ℕ) (q : Quad) → times_power r m (times_power s n q) ≡ times_power s n (times_power r m q)
times_power-exchange r s m zero q = refl
times_power-exchange r s m (suc n) q = times_power-right r m (times_power s n q) s ∙ ap (λ x. product_of x s) (times_power-exchange r s m n q)

-- a power as a factor
pub times_power-factor : (r : Quad) (n : ℕ) (q : Quad) → times_power r n q ≡ product_of q (times_power r n one_quad)
times_power-factor r n q = ap (times_power r n) (sym (product_of-one q)) ∙ times_power-left r n q one_quad

pub times_power-zero : (r : Quad) (n : ℕ) → times_power r n zero_quad ≡ zero_quad
times_power-zero r zero = refl
times_power-zero r (suc n) = ap (λ x. product_of x r) (times_power-zero r n) ∙ product_of-comm zero_quad r ∙ product_of-zero r

-- ω⁸ = 1
pub turned-8 : (q : Quad) → times_power omega_unit 8 q ≡ q
turned-8 q = ap (λ r. product_of r omega_unit) (turned-7 q) ∙ times_omega-is _ ∙ ap (quad _ _ _) (neg_neg q.d)
