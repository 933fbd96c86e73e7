-- Factors of 2, taken out one after another.
use Rattle.std.proofs.Common.{◌≡◌, ℕ, suc, ◌-◌, ◌^◌, ◌<◌, ◌≤◌, ℤ, pos, ◌+ℤ◌, neg_ℤ, Bool, true, false, List, length, sym, ◌∙◌, ap, arith}
use Rattle.std.specs.Prelude.{◌<ℤ◌, ◌≤ℤ◌}
use Rattle.std.proofs.lemmas.Int.{ints}
use Rattle.diagram_model.specs.Functions.{Assignment}
use Rattle.diagram_model.specs.Stores.{Diagram}
use Rattle.slice_vec.specs.Slices.{StandsIn, AreEven, IsDouble, digits_of, value_at}
use Rattle.slice_vec.proofs.Ranges.{InRange, value-in_range}
use Rattle.slice_quad.specs.declared.coord.Coord.{Coord}
use Rattle.slice_quad.specs.declared.coord.Coord.TheVariants.{A, B, C, D}
use Rattle.slice_quad.specs.declared.four.Four.{Four}
use Rattle.slice_quad.specs.Mix.{Vector}
use Rattle.slice_quad.specs.Fours.{nodes_of}
use Rattle.slice_quad.specs.Vectors.{AreValues}
use Rattle.slice_quad.specs.Settled.{HasBits, doubled, AreDoubles, IsHalfway}

zero_double : (v h : ℤ) → v ≡ h +ℤ h → neg_ℤ (pos 1) ≤ℤ v → v <ℤ pos 1 → v ≡ v +ℤ v
zero_double v h e low high = omega (arith, ints, e, low, high)

-- an even integer of one bit is 0
pub one_bit_double : (d : Diagram) (ns : List ℕ) → length ns < 2 → AreEven d ns → IsDouble d ns ns
one_bit_double d ns short even x =
    let r : InRange (length ns - 1) (value_at d ns x) = value-in_range (length ns - 1) (digits_of d ns) x in
    let one : 2 ^ (length ns - 1) ≡ 1 = ap (λ n. 2 ^ n) (let e : length ns - 1 ≡ 0 = omega (arith, short) in e) in
    let low = r.low in let high = r.high in
    zero_double (value_at d ns x) (even x).0 (even x).1 (omega (arith, ints, low, one)) (omega (arith, ints, high, one))

pub doubles_of : (d : Diagram) (f g : Four) → StandsIn d g.a → StandsIn d g.b → StandsIn d g.c → StandsIn d g.d → IsDouble d f.a g.a → IsDouble d f.b g.b → IsDouble d f.c g.c → IsDouble d f.d g.d → AreDoubles d f g
doubles_of d f g sa sb sc sd a b c e = record { stands = stand; values = value }
  where
    stand : (z : Coord) → StandsIn d (nodes_of g z)
    stand A = sa
    stand B = sb
    stand C = sc
    stand D = sd

    value : (z : Coord) (x : Assignment) → value_at d (nodes_of f z) x ≡ value_at d (nodes_of g z) x +ℤ value_at d (nodes_of g z) x
    value A = a
    value B = b
    value C = c
    value D = e

pub bits_of_four : (f : Four) → 0 < length f.a → 0 < length f.b → 0 < length f.c → 0 < length f.d → HasBits f
bits_of_four f a b c e A = a
bits_of_four f a b c e B = b
bits_of_four f a b c e C = c
bits_of_four f a b c e D = e

pub halfway_none : (d : Diagram) (v : Vector) (k : ℕ) (f : Four) → AreValues d v f → IsHalfway d v k f k
unfolding doubled
halfway_none d v k f h = record { times = 0; exponent = omega arith; stands = h.stands; values = λ z x. sym (h.values z x) }

pub halfway_more : (d : Diagram) (v : Vector) (k : ℕ) (f g : Four) (j i : ℕ) → IsHalfway d v k f j → AreDoubles d f g → 2 ≤ j → i ≡ j - 2 → IsHalfway d v k g i
unfolding doubled
halfway_more d v k f g j i h two le e = record {
  times = suc h.times;
  exponent = let r = h.exponent in omega (arith, r, le, e);
  stands = two.stands;
  values = λ z x. h.values z x ∙ ap (doubled h.times) (two.values z x);
}

pub halfway_as : (d : Diagram) (v : Vector) (k : ℕ) (f g : Four) (j i : ℕ) → f ≡ g → j ≡ i → IsHalfway d v k f j → IsHalfway d v k g i
halfway_as d v k f g j i ef ej h = rw (sym ef, sym ej) h

pub four_even : (d : Diagram) (f : Four) → AreEven d f.a → AreEven d f.b → AreEven d f.c → AreEven d f.d → (z : Coord) → AreEven d (nodes_of f z)
four_even d f a b c e A = a
four_even d f a b c e B = b
four_even d f a b c e C = c
four_even d f a b c e D = e

-- one of several fails
no_both : (b : Bool) → b ≡ true → b ≡ false → ⊥
no_both b e f = let q : true ≡ false = sym e ∙ f in cc

pub one_fails : (P Q : Type 0) (b : Bool) → b ≡ false → (Q → P) → (b ≡ true → P) × (P → b ≡ true) → (b ≡ true → Q) × (Q → b ≡ true)
one_fails P Q b off to iff = ((λ on. absurd (no_both b on off)), (λ q. iff.1 (to q)))

pub unfit : (b : Bool) (P : Type 0) → b ≡ false → (P → b ≡ true) → P → ⊥
unfit b P off to p = no_both b (to p) off
