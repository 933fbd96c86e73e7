-- Sums taken one term after another, and values set one after another.
use Rattle.std.proofs.Common.{◌≡◌, ℕ, zero, suc, ◌+◌, ◌*◌, ◌<◌, refl, sym, ◌∙◌, ap, Bool, true, false, List, [], ◌∷◌, ◌++◌, length, get_or, set, take, arith}
use Rattle.std.proofs.Math.Path.{ap₂}
use Rattle.std.proofs.lemmas.List.{take_more, length-set}
use Rattle.ring_omega.specs.declared.quad.Quad.{Quad}
use Rattle.ring_omega.specs.Ring.{sum_of}
use Rattle.ring_omega.proofs.RingLaws.{sum_of-zero, zero-sum_of, sum_of-assoc}
use Rattle.bit_lists.specs.Lists.{with_bits, bits_at, place_of, bit_value}
use Rattle.bit_lists.proofs.OrderLemmas.{place_of-last}
use Rattle.circuit_model.specs.Product.{sum_over}

pub sum_over-same : (ys : List (List Bool)) (f g : List Bool → Quad) → ((y : List Bool) → f y ≡ g y) → sum_over ys f ≡ sum_over ys g
sum_over-same [] f g h = refl
sum_over-same (y ∷ ys) f g h = ap₂ sum_of (h y) (sum_over-same ys f g h)

sum_over-last : (ys : List (List Bool)) (y : List Bool) (f : List Bool → Quad) → sum_over (ys ++ y ∷ []) f ≡ sum_of (sum_over ys f) (f y)
sum_over-last [] y f = sum_of-zero (f y) ∙ sym (zero-sum_of (f y))
sum_over-last (z ∷ ys) y f = ap (sum_of (f z)) (sum_over-last ys y f) ∙ sym (sum_of-assoc (f z) (sum_over ys f) (f y))

-- one term more
pub sum_over_more : (ys : List (List Bool)) (i : ℕ) (f : List Bool → Quad) → i < length ys → sum_over (take (i + 1) ys) f ≡ sum_of (sum_over (take i ys) f) (f (get_or ys i []))
sum_over_more ys i f lt = ap (λ l. sum_over l f) (take_more ys i [] lt) ∙ sum_over-last (take i ys) (get_or ys i []) f

pub length-with_bits : (x : List Bool) (qs : List ℕ) (y : List Bool) → length (with_bits x qs y) ≡ length x
length-with_bits x (q ∷ qs) (b ∷ y) = length-with_bits (set x q b) qs y ∙ length-set x q b
length-with_bits x [] y = refl
length-with_bits x (q ∷ qs) [] = refl

with_bits-suc : (x : List Bool) (qs : List ℕ) (y : List Bool) (i : ℕ) → i < length qs → length y ≡ length qs
    → with_bits x (take (suc i) qs) y ≡ set (with_bits x (take i qs) y) (get_or qs i 0) (get_or y i false)
with_bits-suc x [] y i lt e = absurd (omega arith)
with_bits-suc x (q ∷ qs) [] i lt e = absurd (omega arith)
with_bits-suc x (q ∷ qs) (b ∷ y) zero lt e = refl
with_bits-suc x (q ∷ qs) (b ∷ y) (suc i) lt e = with_bits-suc (set x q b) qs y i (omega arith) (omega arith)

-- one value more is set
pub with_bits_more : (x : List Bool) (qs : List ℕ) (y : List Bool) (i : ℕ) → i < length qs → length y ≡ length qs
    → with_bits x (take (i + 1) qs) y ≡ set (with_bits x (take i qs) y) (get_or qs i 0) (get_or y i false)
with_bits_more x qs y i lt e =
    let next : i + 1 ≡ suc i = omega arith in
    ap (λ k. with_bits x (take k qs) y) next ∙ with_bits-suc x qs y i lt e

bits_at-last : (x : List Bool) (qs : List ℕ) (q : ℕ) → bits_at x (qs ++ q ∷ []) ≡ bits_at x qs ++ get_or x q false ∷ []
bits_at-last x [] q = refl
bits_at-last x (p ∷ qs) q = ap (λ l. get_or x p false ∷ l) (bits_at-last x qs q)

pub length-bits_at : (x : List Bool) (qs : List ℕ) → length (bits_at x qs) ≡ length qs
length-bits_at x [] = refl
length-bits_at x (q ∷ qs) = ap suc (length-bits_at x qs)

-- one qubit more is read
pub row_more : (x : List Bool) (qs : List ℕ) (i : ℕ) → i < length qs → place_of (bits_at x (take (i + 1) qs)) ≡ place_of (bits_at x (take i qs)) * 2 + bit_value (get_or x (get_or qs i 0) false)
row_more x qs i lt =
    ap (λ l. place_of (bits_at x l)) (take_more qs i 0 lt) ∙ ap place_of (bits_at-last x (take i qs) (get_or qs i 0)) ∙ place_of-last (bits_at x (take i qs)) (get_or x (get_or qs i 0) false)

pub bit_value-below : (b : Bool) → bit_value b < 2
bit_value-below true = omega arith
bit_value-below false = omega arith
