-- Even integers.
use Rattle.std.proofs.Common.{◌≡◌, ℕ, suc, ◌-◌, ◌<◌, ◌≤◌, ℤ, pos, ◌+ℤ◌, Bool, true, false, List, [], ◌∷◌, length, get_or, drop, inl, inr, refl, sym, ◌∙◌, ap, arith}
use Rattle.std.proofs.lemmas.Int.{ints}
use mathlib.Core.Path.{fun_ext}
use Rattle.diagram_model.specs.Functions.{Assignment, Function}
use Rattle.diagram_model.specs.Stores.{Diagram, IsLive, IsSound, function_of}
use Rattle.diagram_ops.specs.Connectives.{number}
use Rattle.slice_vec.specs.Digits.{Digits, slice_value, shifted}
use Rattle.slice_vec.specs.Slices.{bit_node, sign_node, digits_of, value_at, StandsIn, AreEven, IsShifted, IsDouble}
use Rattle.slice_vec.proofs.Bits.{lt_or_le, bit_within, bit_beyond, bit_live, steady-digits}
use Rattle.slice_vec.proofs.Places.{false_function}
use Rattle.slice_vec.proofs.Ranges.{value-shifted, value-down}
use Rattle.slice_vec.proofs.Trims.{one_node}

even_bit : (b : Bool) (v h w : ℤ) → v ≡ pos (number b) +ℤ (h +ℤ h) → v ≡ w +ℤ w → b ≡ false
even_bit true v h w e d = absurd (omega (arith, ints, e, d))
even_bit false v h w e d = refl

at_point : (f g : Function) (x : Assignment) → f ≡ g → f x ≡ g x
at_point f g x e = ap (λ (w : Function). w x) e

-- an even integer has the lowest bit FALSE
pub low_false : (d : Diagram) (ns : List ℕ) → 0 < length ns → AreEven d ns → (x : Assignment) → digits_of d ns 0 x ≡ false
low_false d ns some even x =
    let s = digits_of d ns in
    let m = length ns - 1 in
    let e = even x in
    even_bit (s 0 x) (value_at d ns x) (slice_value m (shifted s) x) e.0 (value-down m s x (steady-digits d ns some)) e.1

pub even_node : (d : Diagram) (ns : List ℕ) → IsSound d → StandsIn d ns → AreEven d ns → bit_node ns 0 ≡ 0
unfolding digits_of
even_node d ns s h even =
    one_node d (bit_node ns 0) 0 s (bit_live d ns 0 h) (inl (omega arith)) (λ x. low_false d ns h.some even x ∙ sym (at_point (function_of d 0) (λ y. false) x (false_function d s)))

drop_bit : (b : Bool) (h v : ℤ) → b ≡ false → v ≡ pos (number b) +ℤ (h +ℤ h) → v ≡ h +ℤ h
drop_bit false h v e d = omega (arith, ints, d)
drop_bit true h v e d = cc

pub node_even : (d : Diagram) (ns : List ℕ) → IsSound d → 0 < length ns → bit_node ns 0 ≡ 0 → AreEven d ns
unfolding digits_of
node_even d ns s some zero_node x =
    let t = digits_of d ns in
    let m = length ns - 1 in
    let low : t 0 x ≡ false = at_point (function_of d (bit_node ns 0)) (λ y. false) x (ap (function_of d) zero_node ∙ false_function d s) in
    (slice_value m (shifted t) x, drop_bit (t 0 x) (slice_value m (shifted t) x) (value_at d ns x) low (value-down m t x (steady-digits d ns some)))

last_of : (n : ℕ) (ks : List ℕ) → 0 < length ks → sign_node ks ≡ sign_node (n ∷ ks)
last_of n [] some = absurd (omega (arith, some))
last_of n (k ∷ ks) some =
    let a : length (n ∷ k ∷ ks) - 1 ≡ suc (length ks) = omega arith in
    let b : length (k ∷ ks) - 1 ≡ length ks = omega arith in
    ap (λ j. get_or (k ∷ ks) j 0) b ∙ sym (ap (λ j. get_or (n ∷ k ∷ ks) j 0) a)

-- without the lowest bit
bit_dropped : (ns : List ℕ) (i : ℕ) → 2 ≤ length ns → bit_node (drop 1 ns) i ≡ bit_node ns (suc i)
bit_dropped [] i two = absurd (omega (arith, two))
bit_dropped (n ∷ ms) i two =
    elim (lt_or_le i (length ms)) [
      | inl less ↦ bit_within ms i less ∙ sym (bit_within (n ∷ ms) (suc i) (omega (arith, less)))
      | inr le ↦
          bit_beyond ms i (omega (arith, le)) (omega (arith, two))
          ∙ last_of n ms (omega (arith, two))
          ∙ sym (bit_beyond (n ∷ ms) (suc i) (omega (arith, le)) (omega arith))
    ]

length-dropped : (ns : List ℕ) → 2 ≤ length ns → length ns ≡ suc (length (drop 1 ns))
length-dropped [] two = absurd (omega (arith, two))
length-dropped (n ∷ ms) two = refl

dropped_live : (d : Diagram) (ns : List ℕ) → StandsIn d ns → 2 ≤ length ns → (i : ℕ) → i < length (drop 1 ns) → IsLive d (get_or (drop 1 ns) i 0)
dropped_live d [] h two i less = absurd (omega (arith, two))
dropped_live d (n ∷ ms) h two i less = h.live (suc i) (omega (arith, less))

dropped_digits : (d : Diagram) (ns : List ℕ) → 2 ≤ length ns → digits_of d (drop 1 ns) ≡ shifted (digits_of d ns)
unfolding digits_of shifted
dropped_digits d ns two = fun_ext (λ i. ap (function_of d) (bit_dropped ns i two))

dropped_stands : (d : Diagram) (ns : List ℕ) → StandsIn d ns → 2 ≤ length ns → StandsIn d (drop 1 ns)
dropped_stands d ns h two =
    let len = length-dropped ns two in
    record { some = omega (arith, len, two); few = omega (arith, len, h.few); live = dropped_live d ns h two }

dropped_double : (d : Diagram) (ns : List ℕ) → 2 ≤ length ns → AreEven d ns → IsDouble d ns (drop 1 ns)
dropped_double d ns two even x =
    let ms = drop 1 ns in
    let len = length-dropped ns two in
    let s = digits_of d ns in
    let m = length ms - 1 in
    let last : length ns - 1 ≡ suc m = omega (arith, len, two) in
    ap (λ j. slice_value j s x) last
    ∙ drop_bit (s 0 x) (slice_value m (shifted s) x) (slice_value (suc m) s x) (low_false d ns (omega (arith, two)) even x) (value-shifted m s x)
    ∙ ap (λ (t : Digits). slice_value m t x +ℤ slice_value m t x) (sym (dropped_digits d ns two))

pub shifted_by : (d : Diagram) (ns ms : List ℕ) → StandsIn d ns → 2 ≤ length ns → ms ≡ drop 1 ns → IsShifted d ns ms
shifted_by d ns ms h two e = rw e (record { stands = dropped_stands d ns h two; digits = dropped_digits d ns two })

pub halved : (d : Diagram) (ns ms : List ℕ) → 2 ≤ length ns → AreEven d ns → ms ≡ drop 1 ns → IsDouble d ns ms
halved d ns ms two even e = rw e (dropped_double d ns two even)
