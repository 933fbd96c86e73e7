-- Sums over lists of bits.
use Rattle.std.proofs.Common.{◌≡◌, ℕ, zero, suc, ◌+◌, ◌^◌, ◌<◌, ◌≤◌, refl, sym, ◌∙◌, ap, Bool, true, false, cond, List, [], ◌∷◌, ◌++◌, map, length, take, arith}
use Rattle.std.proofs.Math.Path.{ap₂}
use Rattle.std.proofs.Math.Seq.{take-length}
use Rattle.ring_omega.specs.declared.quad.Quad.{Quad}
use Rattle.ring_omega.specs.Ring.{zero_quad, one_quad, sum_of, product_of}
use Rattle.ring_omega.proofs.RingLaws.{sum_of-zero, zero-sum_of, sum_of-assoc, sum_of-exchange, product_of-sum, product_of-zero, product_of-comm, product_of-one, sum-product_of}
use Rattle.bit_lists.specs.Lists.{all_lists, place_of}
use Rattle.bit_lists.proofs.Places.{length-all_lists, listed}
use Rattle.gate_set.specs.Unitary.{sum_below}
use Rattle.circuit_model.specs.Product.{sum_over, same_bits}
use Rattle.circuit_model.proofs.SumLemmas.{sum_over_more}

pub zero-product_of : (q : Quad) → product_of zero_quad q ≡ zero_quad
zero-product_of q = product_of-comm zero_quad q ∙ product_of-zero q

pub one-product_of : (q : Quad) → product_of one_quad q ≡ q
one-product_of q = product_of-comm one_quad q ∙ product_of-one q

pub sum_over-append : (xs ys : List (List Bool)) (f : List Bool → Quad) → sum_over (xs ++ ys) f ≡ sum_of (sum_over xs f) (sum_over ys f)
sum_over-append [] ys f = sym (zero-sum_of (sum_over ys f))
sum_over-append (x ∷ xs) ys f = ap (sum_of (f x)) (sum_over-append xs ys f) ∙ sym (sum_of-assoc (f x) (sum_over xs f) (sum_over ys f))

pub sum_over-map : (g : List Bool → List Bool) (xs : List (List Bool)) (f : List Bool → Quad) → sum_over (map g xs) f ≡ sum_over xs (λ x. f (g x))
sum_over-map g [] f = refl
sum_over-map g (x ∷ xs) f = ap (sum_of (f (g x))) (sum_over-map g xs f)

pub sum_over-zero : (xs : List (List Bool)) → sum_over xs (λ x. zero_quad) ≡ zero_quad
sum_over-zero [] = refl
sum_over-zero (x ∷ xs) = zero-sum_of (sum_over xs (λ x. zero_quad)) ∙ sum_over-zero xs

pub sum_over-sum : (xs : List (List Bool)) (f g : List Bool → Quad) → sum_over xs (λ x. sum_of (f x) (g x)) ≡ sum_of (sum_over xs f) (sum_over xs g)
sum_over-sum [] f g = sym (sum_of-zero zero_quad)
sum_over-sum (x ∷ xs) f g = ap (sum_of (sum_of (f x) (g x))) (sum_over-sum xs f g) ∙ sum_of-exchange (f x) (g x) (sum_over xs f) (sum_over xs g)

-- two sums change places
pub sum_over-exchange : (xs ys : List (List Bool)) (f : List Bool → List Bool → Quad) → sum_over xs (λ x. sum_over ys (λ y. f x y)) ≡ sum_over ys (λ y. sum_over xs (λ x. f x y))
sum_over-exchange [] ys f = sym (sum_over-zero ys)
sum_over-exchange (x ∷ xs) ys f = ap (sum_of (sum_over ys (f x))) (sum_over-exchange xs ys f) ∙ sym (sum_over-sum ys (f x) (λ y. sum_over xs (λ z. f z y)))

pub product-sum_over : (c : Quad) (xs : List (List Bool)) (f : List Bool → Quad) → product_of c (sum_over xs f) ≡ sum_over xs (λ x. product_of c (f x))
product-sum_over c [] f = product_of-zero c
product-sum_over c (x ∷ xs) f = product_of-sum c (f x) (sum_over xs f) ∙ ap (sum_of (product_of c (f x))) (product-sum_over c xs f)

pub sum_over-product : (xs : List (List Bool)) (f : List Bool → Quad) (c : Quad) → product_of (sum_over xs f) c ≡ sum_over xs (λ x. product_of (f x) c)
sum_over-product [] f c = zero-product_of c
sum_over-product (x ∷ xs) f c = sum-product_of (f x) (sum_over xs f) c ∙ ap (sum_of (product_of (f x) c)) (sum_over-product xs f c)

-- both halves of all lists of n + 1 bits
halves : (n : ℕ) (f : List Bool → Quad) → sum_over (all_lists (suc n)) f ≡ sum_of (sum_over (all_lists n) (λ x. f (false ∷ x))) (sum_over (all_lists n) (λ x. f (true ∷ x)))
halves n f =
    sum_over-append (map (λ x. false ∷ x) (all_lists n)) (map (λ x. true ∷ x) (all_lists n)) f
    ∙ ap₂ sum_of (sum_over-map (λ x. false ∷ x) (all_lists n) f) (sum_over-map (λ x. true ∷ x) (all_lists n) f)

-- the terms matter at lists of n bits only
pub sum_over_lists-same : (n : ℕ) (f g : List Bool → Quad) → ((y : List Bool) → length y ≡ n → f y ≡ g y) → sum_over (all_lists n) f ≡ sum_over (all_lists n) g
sum_over_lists-same zero f g h = ap (λ q. sum_of q zero_quad) (h [] refl)
sum_over_lists-same (suc n) f g h =
    halves n f
    ∙ ap₂ sum_of
    (sum_over_lists-same n (λ x. f (false ∷ x)) (λ x. g (false ∷ x)) (λ y len. h (false ∷ y) (ap suc len)))
    (sum_over_lists-same n (λ x. f (true ∷ x)) (λ x. g (true ∷ x)) (λ y len. h (true ∷ y) (ap suc len)))
    ∙ sym (halves n g)

-- the one term that isn't zero
pub pick : (n : ℕ) (r : List Bool) (f : List Bool → Quad) → length r ≡ n → sum_over (all_lists n) (λ z. cond (same_bits r z) (f z) zero_quad) ≡ f r
pick zero [] f e = sum_of-zero (f [])
pick zero (b ∷ r) f e = absurd (omega arith)
pick (suc n) [] f e = absurd (omega arith)
pick (suc n) (false ∷ r) f e =
    halves n (λ z. cond (same_bits (false ∷ r) z) (f z) zero_quad)
    ∙ ap₂ sum_of (pick n r (λ z. f (false ∷ z)) (omega arith)) (sum_over-zero (all_lists n)) ∙ sum_of-zero (f (false ∷ r))
pick (suc n) (true ∷ r) f e =
    halves n (λ z. cond (same_bits (true ∷ r) z) (f z) zero_quad)
    ∙ ap₂ sum_of (sum_over-zero (all_lists n)) (pick n r (λ z. f (true ∷ z)) (omega arith)) ∙ zero-sum_of (f (true ∷ r))

-- a sum over lists of bits, by their places
pub sum_over-places : (n : ℕ) (f : ℕ → Quad) → sum_over (all_lists n) (λ y. f (place_of y)) ≡ sum_below (2 ^ n) f
sum_over-places n f =
    let whole : take (2 ^ n) (all_lists n) ≡ all_lists n = ap (λ k. take k (all_lists n)) (sym (length-all_lists n)) ∙ take-length (all_lists n) in
    ap (λ l. sum_over l (λ y. f (place_of y))) (sym whole) ∙ up_to (2 ^ n) (omega arith)
  where
    up_to : (i : ℕ) → i ≤ 2 ^ n → sum_over (take i (all_lists n)) (λ y. f (place_of y)) ≡ sum_below i f
    up_to zero le = refl
    up_to (suc i) le =
        let next : suc i ≡ i + 1 = omega arith in
        let within : i < length (all_lists n) = omega (arith, length-all_lists n) in
        ap (λ k. sum_over (take k (all_lists n)) (λ y. f (place_of y))) next
        ∙ sum_over_more (all_lists n) i (λ y. f (place_of y)) within
        ∙ ap₂ sum_of (up_to i (omega arith)) (ap f (listed n i [] (omega arith)).1)

pub sum_below-same : (n : ℕ) (f g : ℕ → Quad) → ((y : ℕ) → y < n → f y ≡ g y) → sum_below n f ≡ sum_below n g
sum_below-same zero f g h = refl
sum_below-same (suc n) f g h = ap₂ sum_of (sum_below-same n f g (λ y lt. h y (omega arith))) (h n (omega arith))
