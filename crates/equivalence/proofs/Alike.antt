-- An integer is as in the corner times the identity where each of its bits is.
use Rattle.std.proofs.Common.{◌≡◌, ℕ, zero, suc, ◌+◌, ◌-◌, ◌*◌, ◌^◌, ◌<◌, ◌≤◌, pos, ◌-ℤ◌, Bool, true, false, cond, List, length, Option, inl, inr, refl, sym, ◌∙◌, ap, arith}
use Rattle.std.specs.Prelude.{◌&&◌}
use Rattle.std.proofs.Math.Path.{ap₂}
use Rattle.std.proofs.lemmas.Bool.{cases_Bool}
use Rattle.diagram_model.specs.Functions.{Assignment, bit}
use Rattle.diagram_model.specs.Nodes.{value}
use Rattle.diagram_model.specs.Stores.{Diagram, IsSound, function_of}
use Rattle.diagram_ops.specs.Connectives.{number}
use Rattle.node_store.specs.Differs.{Differ, Coincide}
use Rattle.slice_vec.specs.Digits.{Digits, low_sum, slice_value}
use Rattle.slice_vec.specs.Slices.{bit_node, digits_of, value_at}
use Rattle.slice_vec.proofs.Bits.{steady-digits}
use Rattle.slice_vec.proofs.Places.{false_function}
use Rattle.slice_quad.specs.Bits.{int_bit}
use Rattle.slice_quad.proofs.BitLemmas.{digit-of_value}
use Rattle.slice_quad.proofs.Walking.{value_none, value_some}
use Rattle.equivalence.specs.Positions.{wanted, IsAlike, AreAlike, IsUnlike}

-- the same bits have the same value
low_same : (n : ℕ) (s : Digits) (x y : Assignment) → ((i : ℕ) → i < n → s i x ≡ s i y) → low_sum n s x ≡ low_sum n s y
unfolding low_sum
low_same zero s x y same = refl
low_same (suc n) s x y same = ap₂ (λ l b. l + 2 ^ n * number b) (low_same n s x y (λ i lt. same i (omega (arith, lt)))) (same n (omega arith))

value_same : (m : ℕ) (s : Digits) (x y : Assignment) → ((i : ℕ) → i ≤ m → s i x ≡ s i y) → slice_value m s x ≡ slice_value m s y
unfolding slice_value
value_same m s x y same = ap₂ (λ l b. pos l -ℤ pos (2 ^ m * number b)) (low_same m s x y (λ i lt. same i (omega (arith, lt)))) (same m (omega arith))

and_none : (b c : Bool) → c ≡ false → b && c ≡ false
and_none true c e = e
and_none false c e = refl

and_all : (b c : Bool) → c ≡ true → b && c ≡ b
and_all true c e = e
and_all false c e = refl

-- the wanted node is true where the kept one is, if the bit is set at zeros
pub wanted_is : (d : Diagram) (kept : ℕ) (zeros : List Bool) (m : ℕ) (x : Assignment) → IsSound d → function_of d (wanted d kept zeros m) x ≡ function_of d m (bit zeros) && function_of d kept x
wanted_is d kept zeros m x sound = elim (cases_Bool (function_of d m (bit zeros))) [
  | inl t ↦ ap (λ b. function_of d (cond b kept 0) x) t ∙ ap (λ b. b && function_of d kept x) (sym t)
  | inr f ↦ ap (λ b. function_of d (cond b kept 0) x) f ∙ ap (λ (g : Assignment → Bool). g x) (false_function d sound) ∙ ap (λ b. b && function_of d kept x) (sym f)
]

-- by the bit that was read
pub wanted_by : (d : Diagram) (kept : ℕ) (zeros : List Bool) (m : ℕ) (read b : Bool) → read ≡ value d.slots d.order (bit zeros) m → read ≡ b → cond b kept 0 ≡ wanted d kept zeros m
unfolding function_of
wanted_by d kept zeros m read b e t = ap (λ (a : Bool). cond a kept 0) (sym t ∙ e)

-- all bits as wanted
pub alike_from : (d : Diagram) (kept : ℕ) (zeros : List Bool) (ns : List ℕ) (z : List Bool) → IsSound d → 0 < length ns
    → ((i : ℕ) → i < length ns → function_of d (bit_node ns i) (bit z) ≡ function_of d (wanted d kept zeros (bit_node ns i)) (bit z)) → IsAlike d kept zeros ns z
unfolding digits_of
alike_from d kept zeros ns z sound some same =
    let each : (i : ℕ) → i ≤ length ns - 1 → digits_of d ns i (bit z) ≡ digits_of d ns i (bit zeros) && function_of d kept (bit z) =
    λ i le. same i (omega (arith, le, some)) ∙ wanted_is d kept zeros (bit_node ns i) (bit z) sound in
    elim (cases_Bool (function_of d kept (bit z))) [
      | inl t ↦
          value_same (length ns - 1) (digits_of d ns) (bit z) (bit zeros) (λ i le. each i le ∙ and_all (digits_of d ns i (bit zeros)) (function_of d kept (bit z)) t)
          ∙ ap (λ b. cond b (value_at d ns (bit zeros)) (pos 0)) (sym t)
      | inr f ↦
          value_none (length ns - 1) (digits_of d ns) (bit z) (λ i le. each i le ∙ and_none (digits_of d ns i (bit zeros)) (function_of d kept (bit z)) f)
          ∙ ap (λ b. cond b (value_at d ns (bit zeros)) (pos 0)) (sym f)
    ]

-- and back
pub bits_alike : (d : Diagram) (kept : ℕ) (zeros : List Bool) (ns : List ℕ) (z : List Bool) → IsSound d → 0 < length ns → IsAlike d kept zeros ns z
    → (i : ℕ) → i < length ns → function_of d (bit_node ns i) (bit z) ≡ function_of d (wanted d kept zeros (bit_node ns i)) (bit z)
unfolding digits_of
bits_alike d kept zeros ns z sound some alike i lt =
    let m = length ns - 1 in
    let s = digits_of d ns in
    let steady = steady-digits d ns some in
    let back : digits_of d ns i (bit zeros) && function_of d kept (bit z) ≡ function_of d (wanted d kept zeros (bit_node ns i)) (bit z) = sym (wanted_is d kept zeros (bit_node ns i) (bit z) sound) in
    elim (cases_Bool (function_of d kept (bit z))) [
      | inl t ↦
          let values : slice_value m s (bit z) ≡ slice_value m s (bit zeros) = alike ∙ ap (λ b. cond b (value_at d ns (bit zeros)) (pos 0)) t in
          sym (digit-of_value i m s (bit z) steady) ∙ ap (int_bit i) values ∙ digit-of_value i m s (bit zeros) steady
          ∙ sym (and_all (digits_of d ns i (bit zeros)) (function_of d kept (bit z)) t) ∙ back
      | inr f ↦
          let values : slice_value m s (bit z) ≡ pos 0 = alike ∙ ap (λ b. cond b (value_at d ns (bit zeros)) (pos 0)) f in
          elim (cases_Bool (s i (bit z))) [
            | inl on ↦ absurd (value_some m s (bit z) i (omega (arith, lt)) on values)
            | inr off ↦ off ∙ sym (and_none (digits_of d ns i (bit zeros)) (function_of d kept (bit z)) f) ∙ back
          ]
    ]

-- ---- the answers of the questions
pub unlike_at : (d : Diagram) (kept : ℕ) (zeros : List Bool) (ns : List ℕ) (p : List (Option Bool)) (i n w : ℕ) → IsSound d → i < length ns → n ≡ bit_node ns i → w ≡ wanted d kept zeros n → Differ d p n w → IsUnlike d kept zeros ns p
unfolding function_of
unlike_at d kept zeros ns p i n w sound lt is wants h = record {
  at = h.at;
  long = h.long;
  agreeing = h.agreeing;
  unlike = λ alike.
      h.values (ap (λ m. value d.slots d.order (bit h.at) m) is
      ∙ bits_alike d kept zeros ns h.at sound (omega (arith, lt)) alike i lt
      ∙ ap (λ m. value d.slots d.order (bit h.at) m) (sym (wants ∙ ap (wanted d kept zeros) is)));
}

pub alike_all : (d : Diagram) (kept : ℕ) (zeros : List Bool) (ns : List ℕ) (p : List (Option Bool)) (w : ℕ) → IsSound d → 0 < length ns → length ns ≤ w
    → ((i : ℕ) → i < w → Coincide d p (bit_node ns i) (wanted d kept zeros (bit_node ns i))) → AreAlike d kept zeros ns p
unfolding function_of
alike_all d kept zeros ns p w sound some le same z long agreeing =
    alike_from d kept zeros ns z sound some (λ i lt. same i (omega (arith, lt, le)) z long agreeing)
