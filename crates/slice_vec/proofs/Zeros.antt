-- The integer 0.
use Rattle.std.proofs.Common.{◌≡◌, ℕ, zero, suc, ◌+◌, ◌-◌, ◌*◌, ◌^◌, ◌≤◌, pos, ◌-ℤ◌, false, List, length, get_or, replicate, inl, inr, refl, ◌∙◌, ap, arith}
use Rattle.std.proofs.lemmas.Int.{ints}
use Rattle.std.proofs.lemmas.List.{get_or-replicate, length-replicate}
use Rattle.diagram_model.specs.Functions.{Assignment, Function}
use Rattle.diagram_model.specs.Stores.{Diagram, IsSound, function_of}
use Rattle.diagram_ops.specs.Connectives.{number}
use Rattle.slice_vec.specs.Digits.{Digits, low_sum, slice_value}
use Rattle.slice_vec.specs.Slices.{bit_node, digits_of, value_at, StandsIn}
use Rattle.slice_vec.proofs.Bits.{lt_or_le, bit_within, bit_beyond}
use Rattle.slice_vec.proofs.Places.{false_function}

zero_bit : (w i : ℕ) → 1 ≤ w → bit_node (replicate w 0) i ≡ 0
zero_bit w i some =
    let len = length-replicate {A = ℕ} w 0 in
    elim (lt_or_le i w) [
      | inl less ↦ bit_within (replicate w 0) i (omega (arith, less, len)) ∙ get_or-replicate {A = ℕ} w i 0 0 less
      | inr le ↦
          bit_beyond (replicate w 0) i (omega (arith, le, len)) (omega (arith, some, len))
          ∙ ap (λ j. get_or (replicate {A = ℕ} w 0) (j - 1) 0) len
          ∙ get_or-replicate {A = ℕ} w (w - 1) 0 0 (omega (arith, some))
    ]

low_sum-none : (n : ℕ) (s : Digits) (x : Assignment) → ((i : ℕ) → s i x ≡ false) → low_sum n s x ≡ 0
unfolding low_sum
low_sum-none zero s x off = refl
low_sum-none (suc n) s x off = ap (λ b. low_sum n s x + 2 ^ n * number b) (off n) ∙ omega (arith, low_sum-none n s x off)

value-none : (m : ℕ) (s : Digits) (x : Assignment) → ((i : ℕ) → s i x ≡ false) → slice_value m s x ≡ pos 0
unfolding slice_value
value-none m s x off = ap (λ b. pos (low_sum m s x) -ℤ pos (2 ^ m * number b)) (off m) ∙ omega (arith, ints, low_sum-none m s x off)

zero_digit : (d : Diagram) (w i : ℕ) (x : Assignment) → 1 ≤ w → IsSound d → digits_of d (replicate w 0) i x ≡ false
unfolding digits_of
zero_digit d w i x some s = ap (λ (f : Function). f x) (ap (function_of d) (zero_bit w i some) ∙ false_function d s)

zeros_stand : (d : Diagram) (w : ℕ) → 1 ≤ w → w ≤ 131 → StandsIn d (replicate w 0)
zeros_stand d w some few =
    let len = length-replicate {A = ℕ} w 0 in
    record {
      some = omega (arith, some, len);
      few = omega (arith, few, len);
      live = λ i less. inl (let e = get_or-replicate {A = ℕ} w i 0 0 (omega (arith, less, len)) in omega (arith, e));
    }

pub zero_stands : (d : Diagram) (w : ℕ) (ns : List ℕ) → ns ≡ replicate w 0 → 1 ≤ w → w ≤ 131 → StandsIn d ns
zero_stands d w ns e some few = rw e (zeros_stand d w some few)

pub zero_values : (d : Diagram) (w : ℕ) (ns : List ℕ) (x : Assignment) → ns ≡ replicate w 0 → 1 ≤ w → IsSound d → value_at d ns x ≡ pos 0
zero_values d w ns x e some s =
    ap (λ ms. value_at d ms x) e ∙ value-none (length (replicate w 0) - 1) (digits_of d (replicate w 0)) x (λ i. zero_digit d w i x some s)
