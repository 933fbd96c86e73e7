-- A value from the sign down.
use Rattle.std.proofs.Common.{◌≡◌, ℕ, suc, ◌+◌, ◌-◌, ◌*◌, ◌<◌, ◌≤◌, ℤ, pos, ◌+ℤ◌, ◌-ℤ◌, Bool, List, length, sym, ◌∙◌, ap, arith}
use Rattle.std.proofs.lemmas.Int.{ints}
use mathlib.Core.Path.{fun_ext}
use Rattle.diagram_model.specs.Functions.{Assignment}
use Rattle.diagram_ops.specs.Connectives.{number}
use Rattle.slice_vec.specs.Digits.{Digits, low_sum, slice_value, shifted, from_bit}
use Rattle.diagram_model.specs.Nodes.{value}
use Rattle.diagram_model.specs.Stores.{Diagram, function_of}
use Rattle.slice_vec.specs.Slices.{bit_node, digits_of, value_at}
use Rattle.slice_vec.proofs.Ranges.{InRange, value-shifted, value-in_range, range-wider}

-- the sign alone
pub value-sign : (m : ℕ) (s : Digits) (x : Assignment) → slice_value 0 (from_bit m s) x ≡ pos 0 -ℤ pos (number (s m x))
unfolding slice_value low_sum from_bit
value-sign m s x =
    ap (λ k. pos 0 -ℤ pos (1 * number (s k x))) (let h : m + 0 ≡ m = omega arith in h)
    ∙ (let h : pos 0 -ℤ pos (1 * number (s m x)) ≡ pos 0 -ℤ pos (number (s m x)) = omega (arith, ints) in h)

from_next : (k : ℕ) (s : Digits) → shifted (from_bit k s) ≡ from_bit (suc k) s
unfolding from_bit shifted
from_next k s = fun_ext (λ i. ap s (omega arith))

from_first : (k : ℕ) (s : Digits) (x : Assignment) → from_bit k s 0 x ≡ s k x
unfolding from_bit
from_first k s x = ap (λ j. s j x) (let h : k + 0 ≡ k = omega arith in h)

-- one more bit
pub value-next : (k i : ℕ) (s : Digits) (x : Assignment) → slice_value (suc i) (from_bit k s) x ≡ pos (number (s k x)) +ℤ (slice_value i (from_bit (suc k) s) x +ℤ slice_value i (from_bit (suc k) s) x)
value-next k i s x =
    value-shifted i (from_bit k s) x
    ∙ ap (λ b. pos (number b) +ℤ (slice_value i (shifted (from_bit k s)) x +ℤ slice_value i (shifted (from_bit k s)) x)) (from_first k s x)
    ∙ ap (λ (t : Digits). pos (number (s k x)) +ℤ (slice_value i t x +ℤ slice_value i t x)) (from_next k s)

from_at : (t : Digits) (i : ℕ) → from_bit 0 t i ≡ t i
unfolding from_bit
from_at t i = ap t (let h : 0 + i ≡ i = omega arith in h)

-- all bits
pub value-all : (m : ℕ) (s : Digits) (x : Assignment) → slice_value m (from_bit 0 s) x ≡ slice_value m s x
value-all m s x = ap (λ (t : Digits). slice_value m t x) (fun_ext (λ i. from_at s i))

-- a node's value is that of the bit
at_bit : (d : Diagram) (xs : List ℕ) (x : Assignment) (i n : ℕ) (b : Bool) → n ≡ bit_node xs i → b ≡ value d.slots d.order x n → b ≡ digits_of d xs i x
unfolding digits_of function_of
at_bit d xs x i n b e is = is ∙ ap (value d.slots d.order x) e

pub first_value : (d : Diagram) (xs : List ℕ) (x : Assignment) (top n : ℕ) (b : Bool) (r : ℤ) → top ≡ length xs - 1 → n ≡ bit_node xs top → b ≡ value d.slots d.order x n → r ≡ pos 0 -ℤ pos (number b) → r ≡ slice_value 0 (from_bit (length xs - 1 - 0) (digits_of d xs)) x
first_value d xs x top n b r at e is made =
    made
    ∙ ap (λ t. pos 0 -ℤ pos (number t)) (at_bit d xs x top n b e is)
    ∙ sym (value-sign top (digits_of d xs) x)
    ∙ ap (λ k. slice_value 0 (from_bit k (digits_of d xs)) x) (omega (arith, at))

pub next_value : (d : Diagram) (xs : List ℕ) (x : Assignment) (top i n : ℕ) (b : Bool) (v r : ℤ) → top ≡ length xs - 1 → i < top → n ≡ bit_node xs (top - 1 - i) → b ≡ value d.slots d.order x n → v ≡ slice_value i (from_bit (length xs - 1 - i) (digits_of d xs)) x → r ≡ pos (number b) +ℤ (v +ℤ v) → r ≡ slice_value (i + 1) (from_bit (length xs - 1 - (i + 1)) (digits_of d xs)) x
next_value d xs x top i n b v r at less e is so_far made =
    let s = digits_of d xs in
    let k = top - 1 - i in
    made
    ∙ ap (λ t. pos (number t) +ℤ (v +ℤ v)) (at_bit d xs x k n b e is)
    ∙ ap (λ w. pos (number (s k x)) +ℤ (w +ℤ w)) (so_far ∙ ap (λ j. slice_value i (from_bit j s) x) (let h : length xs - 1 - i ≡ suc k = omega (arith, at, less) in h))
    ∙ sym (value-next k i s x)
    ∙ ap (λ j. slice_value j (from_bit k s) x) (let h : suc i ≡ i + 1 = omega arith in h)
    ∙ ap (λ j. slice_value (i + 1) (from_bit j s) x) (let h : k ≡ length xs - 1 - (i + 1) = omega (arith, at, less) in h)

pub last_value : (d : Diagram) (xs : List ℕ) (x : Assignment) (i : ℕ) (v : ℤ) → i ≡ length xs - 1 → v ≡ slice_value i (from_bit (length xs - 1 - i) (digits_of d xs)) x → v ≡ value_at d xs x
last_value d xs x i v at so_far =
    let s = digits_of d xs in
    so_far
    ∙ ap (λ j. slice_value i (from_bit j s) x) (let h : length xs - 1 - i ≡ 0 = omega (arith, at) in h)
    ∙ value-all i s x
    ∙ ap (λ j. slice_value j s x) at

-- a value of at most 127 bits may be doubled in 128
pub narrow : (i : ℕ) (s : Digits) (x : Assignment) (v : ℤ) → i ≤ 126 → v ≡ slice_value i s x → InRange 126 v
narrow i s x v le e = rw e (range-wider i 126 (slice_value i s x) le (value-in_range i s x))
