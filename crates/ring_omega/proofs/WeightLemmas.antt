-- Squared magnitudes, and their lowest forms.
use Rattle.std.proofs.Common.{◌≡◌, ℕ, zero, suc, ◌+◌, ◌-◌, ◌<◌, ◌≤◌, ◌^◌, refl, sym, ◌∙◌, ap, ℤ, pos, negsuc, ◌+ℤ◌, ◌-ℤ◌, ◌*ℤ◌, neg_ℤ, ◌≤ℤ◌, ◌<ℤ◌, FitsSigned, arith, Bool, true, false, cond, ◌&&◌}
use Rattle.std.specs.Int.{w128}
use Rattle.std.proofs.Math.Path.{ap₂}
use Rattle.std.proofs.lemmas.Int.{ints}
use Rattle.std.proofs.lemmas.Bool.{and_parts}
use Rattle.std.proofs.lemmas.Bool.Decides.{Decides-int_eq}
use Rattle.std.specs.Ordering.{int_eq}
use Rattle.ring_omega.specs.declared.quad.Quad.{Quad}
use Rattle.ring_omega.specs.declared.weight.Weight.{Weight}
use Rattle.ring_omega.specs.Ring.{product_of, conjugate_of}
use Rattle.ring_omega.specs.Lowest.{is_even, half}
use Rattle.ring_omega.specs.Weights.{weight, weight_of, weight_quad, doubled, SameWeight, IsLowestWeight, lowest_weight_form, zero_weight}
use Rattle.ring_omega.specs.Private.{SameParity}
use Rattle.ring_omega.specs.Halving.{IsDouble, twice}
use Rattle.ring_omega.proofs.RingLemmas.{quad_eq}
use Rattle.ring_omega.proofs.RingLaws.{mul_comm, mul_add, mul_sub, mul_neg, add_mul, sub_mul}
use Rattle.ring_omega.proofs.LowestFormLemmas.{half-of_even, is_even-of_double}

-- squares and products of two numbers
pub square_nonneg : (x : ℤ) → pos 0 ≤ℤ (x *ℤ x)
square_nonneg (pos n) = omega (arith, ints)
square_nonneg (negsuc n) = omega (arith, ints)

square_of_sum : (x y : ℤ) → (x +ℤ y) *ℤ (x +ℤ y) ≡ (x *ℤ x +ℤ x *ℤ y) +ℤ (x *ℤ y +ℤ y *ℤ y)
square_of_sum x y = mul_add (x +ℤ y) x y ∙ ap₂ (λ s t. s +ℤ t) (add_mul x y x ∙ ap (λ t. x *ℤ x +ℤ t) (mul_comm y x)) (add_mul x y y)

square_of_difference : (x y : ℤ) → (x -ℤ y) *ℤ (x -ℤ y) ≡ (x *ℤ x -ℤ x *ℤ y) -ℤ (x *ℤ y -ℤ y *ℤ y)
square_of_difference x y = mul_sub (x -ℤ y) x y ∙ ap₂ (λ s t. s -ℤ t) (sub_mul x y x ∙ ap (λ t. x *ℤ x -ℤ t) (mul_comm y x)) (sub_mul x y y)

-- twice the product m lies between minus and plus the sum of the squares s and t
record IsMixed (s t m : ℤ) : Type 0 where
  low : neg_ℤ (s +ℤ t) ≤ℤ (m +ℤ m)
  high : (m +ℤ m) ≤ℤ (s +ℤ t)

mixed : (x y : ℤ) → IsMixed (x *ℤ x) (y *ℤ y) (x *ℤ y)
mixed x y = record {
  low = below (x *ℤ x) (x *ℤ y) (y *ℤ y) _ (square_of_sum x y) (square_nonneg (x +ℤ y));
  high = above (x *ℤ x) (x *ℤ y) (y *ℤ y) _ (square_of_difference x y) (square_nonneg (x -ℤ y));
}
  where
    below : (s m t e : ℤ) → e ≡ (s +ℤ m) +ℤ (m +ℤ t) → pos 0 ≤ℤ e → neg_ℤ (s +ℤ t) ≤ℤ (m +ℤ m)
    below s m t e is h = omega (arith, ints)

    above : (s m t e : ℤ) → e ≡ (s -ℤ m) -ℤ (m -ℤ t) → pos 0 ≤ℤ e → (m +ℤ m) ≤ℤ (s +ℤ t)
    above s m t e is h = omega (arith, ints)

-- no partial sum of the products of neighbours leaves 128 bits
pub record NeighboursFit (ab bc cd da : ℤ) : Type 0 where
  pub first : FitsSigned w128 ab
  pub second : FitsSigned w128 bc
  pub two : FitsSigned w128 (ab +ℤ bc)
  pub third : FitsSigned w128 cd
  pub three : FitsSigned w128 (ab +ℤ bc +ℤ cd)
  pub fourth : FitsSigned w128 da
  pub four : FitsSigned w128 (ab +ℤ bc +ℤ cd -ℤ da)

neighbours : (a b c d ab bc cd da : ℤ) → pos 0 ≤ℤ a → pos 0 ≤ℤ b → pos 0 ≤ℤ c → pos 0 ≤ℤ d → IsMixed a b ab → IsMixed b c bc → IsMixed c d cd → IsMixed d a da
    → (a +ℤ b +ℤ c +ℤ d) <ℤ pos (2 ^ 127) → NeighboursFit ab bc cd da
neighbours a b c d ab bc cd da na nb nc nd f g h k less = record {
  first = omega (arith, ints, f.low, f.high);
  second = omega (arith, ints, g.low, g.high);
  two = omega (arith, ints, f.low, f.high, g.low, g.high);
  third = omega (arith, ints, h.low, h.high);
  three = omega (arith, ints, f.low, f.high, g.low, g.high, h.low, h.high);
  fourth = omega (arith, ints, k.low, k.high);
  four = omega (arith, ints, f.low, f.high, g.low, g.high, h.low, h.high, k.low, k.high);
}

pub neighbours_fit : (q : Quad) → (weight_of q).a <ℤ pos (2 ^ 127) → NeighboursFit (q.a *ℤ q.b) (q.b *ℤ q.c) (q.c *ℤ q.d) (q.d *ℤ q.a)
unfolding weight_of
neighbours_fit q less =
    neighbours (q.a *ℤ q.a) (q.b *ℤ q.b) (q.c *ℤ q.c) (q.d *ℤ q.d) _ _ _ _ (square_nonneg q.a) (square_nonneg q.b) (square_nonneg q.c) (square_nonneg q.d)
    (mixed q.a q.b) (mixed q.b q.c) (mixed q.c q.d) (mixed q.d q.a) less

-- the weight is the number times its conjugate
pub weight_quad-is : (q : Quad) → product_of q (conjugate_of q) ≡ weight_quad (weight_of q)
unfolding product_of conjugate_of weight_of
weight_quad-is q =
    quad_eq _ _
    (simp mul_neg (omega (arith, ints)))
    (simp mul_neg (omega (arith, ints)))
    (simp mul_neg (omega (arith, ints)))
    (simp mul_neg (omega (arith, ints)))

-- powers of 2
same_half : (x y : ℤ) → x +ℤ x ≡ y +ℤ y → x ≡ y
same_half x y e = omega (arith, ints)

doubled-cancel : (n : ℕ) (x y : ℤ) → doubled n x ≡ doubled n y → x ≡ y
doubled-cancel zero x y e = e
doubled-cancel (suc n) x y e = doubled-cancel n x y (same_half _ _ e)

doubled-sum : (n : ℕ) (x y : ℤ) → doubled n (x +ℤ y) ≡ doubled n x +ℤ doubled n y
doubled-sum zero x y = refl
doubled-sum (suc n) x y = let e = doubled-sum n x y in omega (arith, ints)

doubled-doubled : (m n : ℕ) (x : ℤ) → doubled m (doubled n x) ≡ doubled n (doubled m x)
doubled-doubled m zero x = refl
doubled-doubled m (suc n) x = doubled-sum m (doubled n x) (doubled n x) ∙ ap₂ (λ s t. s +ℤ t) (doubled-doubled m n x) (doubled-doubled m n x)

doubled-add : (m n : ℕ) (x : ℤ) → doubled (n + m) x ≡ doubled m (doubled n x)
doubled-add zero n x = let e : n + zero ≡ n = omega arith in ap (λ k. doubled k x) e
doubled-add (suc m) n x =
    let e : n + suc m ≡ suc (n + m) = omega arith in
    ap (λ k. doubled k x) e ∙ ap₂ (λ s t. s +ℤ t) (doubled-add m n x) (doubled-add m n x)

doubled-zero : (n : ℕ) → doubled n (pos 0) ≡ pos 0
doubled-zero zero = refl
doubled-zero (suc n) = let e = doubled-zero n in omega (arith, ints)

-- a pair of the same value with a smaller exponent shows that v is twice a number
lower_exponent : (w v u : ℤ) (k i d : ℕ) → doubled (i + suc d) w ≡ doubled k v → doubled i w ≡ doubled k u → v ≡ doubled d u +ℤ doubled d u
lower_exponent w v u k i d e f =
    doubled-cancel k v (doubled (suc d) u)
    (sym e ∙ doubled-add (suc d) i w ∙ ap (doubled (suc d)) f ∙ doubled-doubled (suc d) k u)

pub weight_eq : (v w : Weight) → v.a ≡ w.a → v.b ≡ w.b → v ≡ w
weight_eq v w ea eb = λ i. record { a = ea i; b = eb i }

pub zero_test : (w : Weight) → true ≡ (int_eq w.a (pos 0) && int_eq w.b (pos 0)) → w ≡ zero_weight
zero_test w t =
    let (ta, tb) = and_parts (int_eq w.a (pos 0)) (int_eq w.b (pos 0)) (sym t) in
    weight_eq w zero_weight ((Decides-int_eq w.a (pos 0)).0 ta) ((Decides-int_eq w.b (pos 0)).0 tb)

not_below : {i j : ℕ} → ¬ (i < j) → j ≤ i
not_below h = omega arith

-- a weight that is not twice another has the least exponent of its value
pub least_weight_where_stuck : (w : Weight) (k : ℕ) (v : Weight) (j : ℕ) → SameWeight w k v j → ((0 < j) → ¬ (IsDouble v)) → IsLowestWeight w k v j
least_weight_where_stuck w k v j same stuck = record { same = same; least = λ u i other. by_order u i other }
  where
    by_order : (u : Weight) (i : ℕ) → SameWeight w k u i → j ≤ i
    by_order u i other = not_below (λ below.
        let d = j - suc i in
        let split : j ≡ i + suc d = omega arith in
        let ea = ap (λ n. doubled n w.a) (sym split) ∙ same.same_a in
        let eb = ap (λ n. doubled n w.b) (sym split) ∙ same.same_b in
        stuck (omega arith)
        (weight (doubled d u.a) (doubled d u.b), weight_eq v (twice (weight (doubled d u.a) (doubled d u.b))) (lower_exponent w.a v.a u.a k i d ea other.same_a) (lower_exponent w.b v.b u.b k i d eb other.same_b)))

pub still_same_weight : (w : Weight) (k : ℕ) (v : Weight) (j : ℕ) (h : Weight) → SameWeight w k v (suc j) → v ≡ twice h → SameWeight w k h j
still_same_weight w k v j h same e = record {
  same_a = same_half _ _ (same.same_a ∙ ap (λ (u : Weight). doubled k u.a) e ∙ doubled-sum k h.a h.a);
  same_b = same_half _ _ (same.same_b ∙ ap (λ (u : Weight). doubled k u.b) e ∙ doubled-sum k h.b h.b);
}

pub zero-lowest_weight : (w : Weight) (k : ℕ) → w ≡ zero_weight → IsLowestWeight w k w 0
zero-lowest_weight w k e = record {
  same = record {
    same_a = ap (λ (u : Weight). u.a) e ∙ sym (doubled-zero k) ∙ ap (λ (u : Weight). doubled k u.a) (sym e);
    same_b = ap (λ (u : Weight). u.b) e ∙ sym (doubled-zero k) ∙ ap (λ (u : Weight). doubled k u.b) (sym e);
  };
  least = λ u i s. omega arith;
}

pub lowest_weight-unique : (w : Weight) (k : ℕ) (v : Weight) (j : ℕ) (u : Weight) (i : ℕ) → IsLowestWeight w k v j → IsLowestWeight w k u i → (v ≡ u) × (j ≡ i)
lowest_weight-unique w k v j u i l m =
    let e : j ≡ i = omega (arith, l.least u i m.same, m.least v j l.same) in (
      weight_eq v u
          (doubled-cancel k v.a u.a (sym l.same.same_a ∙ ap (λ n. doubled n w.a) e ∙ m.same.same_a))
          (doubled-cancel k v.b u.b (sym l.same.same_b ∙ ap (λ n. doubled n w.b) e ∙ m.same.same_b)),
      e,
    )

-- the test of the computed lowest form
double_test : (w : Weight) → IsDouble w → is_even w.a ≡ true × (is_even w.b ≡ true)
double_test w (h, e) = (is_even-of_double w.a h.a (ap (λ (u : Weight). u.a) e), is_even-of_double w.b h.b (ap (λ (u : Weight). u.b) e))

lowest-of_halved : (w h : Weight) (k : ℕ) (v : Weight) (j : ℕ) → w ≡ twice h → IsLowestWeight h k v j → IsLowestWeight w (suc k) v j
lowest-of_halved w h k v j e l = record {
  same = record {
    same_a = ap (λ (u : Weight). doubled j u.a) e ∙ doubled-sum j h.a h.a ∙ ap₂ (λ s t. s +ℤ t) l.same.same_a l.same.same_a;
    same_b = ap (λ (u : Weight). doubled j u.b) e ∙ doubled-sum j h.b h.b ∙ ap₂ (λ s t. s +ℤ t) l.same.same_b l.same.same_b;
  };
  least = λ u i s. l.least u i (record {
    same_a = same_half _ _ (sym (doubled-sum i h.a h.a) ∙ ap (λ (x : Weight). doubled i x.a) (sym e) ∙ s.same_a);
    same_b = same_half _ _ (sym (doubled-sum i h.b h.b) ∙ ap (λ (x : Weight). doubled i x.b) (sym e) ∙ s.same_b);
  });
}

IsLowestPair : Weight → ℕ → Weight × ℕ → Type 0
IsLowestPair w k r = IsLowestWeight w k r.0 r.1

pub lowest_weight_form-is : (w : Weight) (k : ℕ) → IsLowestWeight w k (lowest_weight_form w k).0 (lowest_weight_form w k).1
unfolding IsLowestPair lowest_weight_form
lowest_weight_form-is w zero = least_weight_where_stuck w zero w zero (record { same_a = refl; same_b = refl }) (λ h. absurd (omega arith))
lowest_weight_form-is w (suc k) = by_test (is_even w.a && is_even w.b) refl (lowest_weight_form-is (weight (half w.a) (half w.b)) k)
  where
    by_test : (b : Bool) → (is_even w.a && is_even w.b) ≡ b → IsLowestPair (weight (half w.a) (half w.b)) k (lowest_weight_form (weight (half w.a) (half w.b)) k)
        → IsLowestPair w (suc k) (cond b (lowest_weight_form (weight (half w.a) (half w.b)) k) (w, suc k))
    by_test true t l =
        let (ta, tb) = and_parts (is_even w.a) (is_even w.b) t in
        lowest-of_halved w (weight (half w.a) (half w.b)) k _ _ (weight_eq w (twice (weight (half w.a) (half w.b))) (sym (half-of_even w.a ta)) (sym (half-of_even w.b tb))) l
    by_test false t l = least_weight_where_stuck w (suc k) w (suc k) (record { same_a = refl; same_b = refl }) (λ h d. let e = double_test w d in cc)

-- a lowest form is the computed one
pub with_lowest_weight_form : (w : Weight) (k : ℕ) (v : Weight) (j : ℕ) → IsLowestWeight w k v j → IsLowestWeight w k v j × ((v, j) ≡ lowest_weight_form w k)
with_lowest_weight_form w k v j l =
    let (same, exponent) = lowest_weight-unique w k v j _ _ l (lowest_weight_form-is w k) in
    (l, λ i. (same i, exponent i))

pub double-from_parities : (w : Weight) → SameParity w.a (pos 0) → SameParity w.b (pos 0) → IsDouble w
double-from_parities w (m, e) (n, f) = (weight m n, weight_eq w (twice (weight m n)) (omega (arith, ints)) (omega (arith, ints)))

pub double_parities : (w : Weight) → IsDouble w → SameParity w.a (pos 0) × SameParity w.b (pos 0)
double_parities w (h, e) =
    let ea : w.a ≡ h.a +ℤ h.a = ap (λ (u : Weight). u.a) e in
    let eb : w.b ≡ h.b +ℤ h.b = ap (λ (u : Weight). u.b) e in
    ((h.a, omega (arith, ints)), (h.b, omega (arith, ints)))

-- the sum of squares, summand by summand
abbrev pub one_square : Quad → ℤ
one_square q = pos 0 +ℤ q.a *ℤ q.a

abbrev pub two_squares : Quad → ℤ
two_squares q = one_square q +ℤ q.b *ℤ q.b

abbrev pub three_squares : Quad → ℤ
three_squares q = two_squares q +ℤ q.c *ℤ q.c

pub all_squares : (q : Quad) → three_squares q +ℤ q.d *ℤ q.d ≡ (weight_of q).a
unfolding weight_of
all_squares q = grouped (q.a *ℤ q.a) (q.b *ℤ q.b) (q.c *ℤ q.c) (q.d *ℤ q.d)
  where
    grouped : (a b c d : ℤ) → pos 0 +ℤ a +ℤ b +ℤ c +ℤ d ≡ a +ℤ b +ℤ c +ℤ d
    grouped a b c d = omega (arith, ints)

-- no partial sum is larger than the whole
pub record SquaresFit (q : Quad) : Type 0 where
  pub one : one_square q <ℤ pos (2 ^ 127)
  pub two : two_squares q <ℤ pos (2 ^ 127)
  pub three : three_squares q <ℤ pos (2 ^ 127)

pub squares_fit : (q : Quad) → (weight_of q).a <ℤ pos (2 ^ 127) → SquaresFit q
unfolding weight_of
squares_fit q less = record {
  one = one (q.a *ℤ q.a) (q.b *ℤ q.b) (q.c *ℤ q.c) (q.d *ℤ q.d) (square_nonneg q.b) (square_nonneg q.c) (square_nonneg q.d) less;
  two = two (q.a *ℤ q.a) (q.b *ℤ q.b) (q.c *ℤ q.c) (q.d *ℤ q.d) (square_nonneg q.c) (square_nonneg q.d) less;
  three = three (q.a *ℤ q.a) (q.b *ℤ q.b) (q.c *ℤ q.c) (q.d *ℤ q.d) (square_nonneg q.d) less;
}
  where
    one : (a b c d : ℤ) → pos 0 ≤ℤ b → pos 0 ≤ℤ c → pos 0 ≤ℤ d → (a +ℤ b +ℤ c +ℤ d) <ℤ pos (2 ^ 127) → (pos 0 +ℤ a) <ℤ pos (2 ^ 127)
    one a b c d nb nc nd less = omega (arith, ints)

    two : (a b c d : ℤ) → pos 0 ≤ℤ c → pos 0 ≤ℤ d → (a +ℤ b +ℤ c +ℤ d) <ℤ pos (2 ^ 127) → (pos 0 +ℤ a +ℤ b) <ℤ pos (2 ^ 127)
    two a b c d nc nd less = omega (arith, ints)

    three : (a b c d : ℤ) → pos 0 ≤ℤ d → (a +ℤ b +ℤ c +ℤ d) <ℤ pos (2 ^ 127) → (pos 0 +ℤ a +ℤ b +ℤ c) <ℤ pos (2 ^ 127)
    three a b c d nd less = omega (arith, ints)
