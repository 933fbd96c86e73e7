-- Outcomes drawn bit by bit, and how large the numbers are that tell a bit.
use Rattle.std.proofs.Common.{◌≡◌, ℕ, suc, ◌+◌, ◌^◌, ◌<◌, ◌≤◌, Bool, true, false, List, [], ◌∷◌, ◌++◌, length, take, drop, set, get_or, Option, Some, sym, ◌∙◌, ap, subst, ℤ, pos, negsuc, neg_ℤ, ◌-ℤ◌, ◌*ℤ◌, ◌≤ℤ◌, ◌<ℤ◌, arith, append-nil, append_assoc, drop-cons}
use Rattle.std.specs.Prelude.{unsigned_abs}
use Rattle.std.proofs.Math.Path.{ap₂}
use Rattle.std.proofs.Math.Seq.{take-length, drop-length}
use Rattle.std.proofs.lemmas.Int.{ints, unsigned_abs-mul}
use Rattle.std.proofs.lemmas.Nat.{mul-le}
use Rattle.std.proofs.lemmas.List.{take_more_set}
use Rattle.ring_omega.specs.declared.quad.Quad.{Quad}
use Rattle.ring_omega.specs.declared.weight.Weight.{Weight}
use Rattle.bit_lists.specs.Lists.{all_lists}
use Rattle.bit_lists.specs.Partials.{agrees}
use Rattle.probabilities.specs.Weighing.{weight_at, total_weight, IsBalanced}
use Rattle.probabilities.proofs.WeighingLemmas.{part_of, balanced_over}
use Rattle.sampler.specs.Draws.{bit_drawn, drawn_from}

-- ---- the bits so far
module _ (v : List Bool → Quad) (words : ℕ → ℕ) (ms whole : List Bool) where
  rest_of : (q : ℕ) (b : Bool) → q < length ms → get_or ms q false ≡ b → drop q ms ≡ b ∷ drop (q + 1) ms
  rest_of q b lt flag = drop-cons ms q false lt ∙ ap₂ (λ c k. c ∷ drop k ms) flag (let e : suc q ≡ q + 1 = omega arith in e)

  -- a qubit that isn't measured
  pub drawn_past : (y : List Bool) (p : List (Option Bool)) (q i : ℕ) → q < length ms → get_or ms q false ≡ false
      → whole ≡ take i y ++ drawn_from v words p q i (drop q ms) → whole ≡ take i y ++ drawn_from v words p (q + 1) i (drop (q + 1) ms)
  unfolding drawn_from
  drawn_past y p q i lt flag so_far = so_far ∙ ap (λ l. take i y ++ drawn_from v words p q i l) (rest_of q false lt flag)

  -- one that is
  pub drawn_more : (y : List Bool) (p : List (Option Bool)) (q i : ℕ) (b : Bool) → q < length ms → get_or ms q false ≡ true → i < length y → b ≡ bit_drawn v p q (words i)
      → whole ≡ take i y ++ drawn_from v words p q i (drop q ms)
      → whole ≡ take (i + 1) (set y i b) ++ drawn_from v words (set p q (Some b)) (q + 1) (i + 1) (drop (q + 1) ms)
  unfolding drawn_from
  drawn_more y p q i b lt flag within is so_far =
      so_far
      ∙ ap (λ l. take i y ++ drawn_from v words p q i l) (rest_of q true lt flag)
      ∙ ap (λ c. take i y ++ (c ∷ drawn_from v words (set p q (Some c)) (q + 1) (i + 1) (drop (q + 1) ms))) (sym is)
      ∙ sym (append_assoc (take i y) (b ∷ []) (drawn_from v words (set p q (Some b)) (q + 1) (i + 1) (drop (q + 1) ms)))
      ∙ ap (λ l. l ++ drawn_from v words (set p q (Some b)) (q + 1) (i + 1) (drop (q + 1) ms)) (sym (take_more_set y i b within))

  -- all of them
  pub drawn_end : (y : List Bool) (p : List (Option Bool)) (q i : ℕ) → q ≡ length ms → i ≡ length y → whole ≡ take i y ++ drawn_from v words p q i (drop q ms) → y ≡ whole
  unfolding drawn_from
  drawn_end y p q i end long so_far =
      sym (so_far
      ∙ ap (λ l. take i y ++ drawn_from v words p q i l) (ap (λ k. drop k ms) end ∙ drop-length ms)
      ∙ append-nil (take i y)
      ∙ ap (λ k. take k y) long
      ∙ take-length y)

-- ---- how large weights are
-- a part of the states weighs less than 2^60 where all of them do
pub light_part : (v : List Bool → Quad) (n : ℕ) (p : List (Option Bool)) → length p ≡ n → (total_weight n v).a <ℤ pos (2 ^ 60) → (weight_at v p).a <ℤ pos (2 ^ 60)
light_part v n p long light =
    let less : (weight_at v p).a ≤ℤ (total_weight n v).a = subst (λ k. (weight_at v p).a ≤ℤ (total_weight k v).a) long (part_of v (agrees p) (all_lists (length p))) in
    omega (arith, ints)

pub balanced_at : (v : List Bool → Quad) (p : List (Option Bool)) (w : Weight) → w ≡ weight_at v p → IsBalanced w
balanced_at v p w is = subst IsBalanced (sym is) (balanced_over v _)

-- a size by two bounds
size_below : (z : ℤ) (m : ℕ) → z <ℤ pos m → neg_ℤ (pos m) <ℤ z → unsigned_abs z < m
size_below (pos n) m less more = omega (arith, ints)
size_below (negsuc n) m less more = omega (arith, ints)

pub size_of_first : (w : Weight) → IsBalanced w → w.a <ℤ pos (2 ^ 60) → unsigned_abs w.a < 2 ^ 60
size_of_first w b light = size_below w.a (2 ^ 60) light (omega (arith, ints, b.low, b.high))

pub size_of_second : (w : Weight) → IsBalanced w → w.a <ℤ pos (2 ^ 60) → unsigned_abs w.b < 2 ^ 60
size_of_second w b light = size_below w.b (2 ^ 60) (omega (arith, ints, b.low, b.high)) (omega (arith, ints, b.low, b.high))

pub size_of_product : (f : ℕ) (z : ℤ) → f ≤ 2 ^ 64 → unsigned_abs z < 2 ^ 60 → unsigned_abs (pos f *ℤ z) ≤ 2 ^ 124
size_of_product f z few small =
    let e = unsigned_abs-mul (pos f) z in
    omega (arith, mul-le f (unsigned_abs z) (2 ^ 64) (2 ^ 60) few (omega arith))

-- two bounds by a size
bounds_of : (z : ℤ) (m : ℕ) → unsigned_abs z ≤ m → (neg_ℤ (pos m) ≤ℤ z) × (z ≤ℤ pos m)
bounds_of (pos n) m small = (omega (arith, ints), omega (arith, ints))
bounds_of (negsuc n) m small = (omega (arith, ints), omega (arith, ints))

pub size_of_lead : (x y z : ℤ) → unsigned_abs x ≤ 2 ^ 124 → unsigned_abs y ≤ 2 ^ 124 → z ≡ x -ℤ y → unsigned_abs z < 2 ^ 126
size_of_lead x y z first second is =
    let f = bounds_of x (2 ^ 124) first in
    let g = bounds_of y (2 ^ 124) second in
    size_below z (2 ^ 126) (omega (arith, ints, f.0, f.1, g.0, g.1)) (omega (arith, ints, f.0, f.1, g.0, g.1))
