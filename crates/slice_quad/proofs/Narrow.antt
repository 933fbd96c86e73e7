-- How many bits a value asks for, and signs that are repeated.
use Rattle.std.proofs.Common.{◌≡◌, ℕ, suc, ◌+◌, ◌-◌, ◌<◌, ◌≤◌, ◌↔◌, List, [], ◌∷◌, ◌++◌, length, get_or, take, inl, inr, refl, sym, ◌∙◌, ap, arith, length-append}
use Rattle.std.proofs.lemmas.List.{length-take, get_or-take, get_or_append_left}
use Rattle.std.proofs.Math.Seq.{get_or-append_seam}
use mathlib.Core.Path.{fun_ext}
use Rattle.diagram_model.specs.Functions.{Assignment}
use Rattle.diagram_model.specs.Stores.{Diagram, IsSound, function_of}
use Rattle.slice_vec.specs.Digits.{Digits, slice_value, IsSteady}
use Rattle.slice_vec.specs.Slices.{bit_node, sign_node, digits_of, value_at, StandsIn, SameValues, IsSame, IsFewest, AreWithin}
use Rattle.slice_vec.proofs.Bits.{lt_or_le, bit_within, bit_beyond, bit_live, steady-digits, value_on}
use Rattle.slice_vec.proofs.Ranges.{InRange, value-in_range, range-wider, sign-repeated}
use Rattle.slice_vec.proofs.Trims.{one_node}
use Rattle.slice_quad.specs.declared.coord.Coord.{Coord}
use Rattle.slice_quad.specs.declared.coord.Coord.TheVariants.{A, B, C, D}
use Rattle.slice_quad.specs.declared.four.Four.{Four}
use Rattle.slice_quad.specs.Fours.{nodes_of}
use Rattle.slice_quad.specs.Mix.{Vector}
use Rattle.slice_quad.specs.Settled.{AreSame, widest}
use Rattle.slice_quad.specs.Vectors.{AreValues, FitsWidth}

-- integers with the same bits have the same values
same_values : (d : Diagram) (xs ys : List ℕ) → 0 < length xs → length xs ≤ length ys → digits_of d ys ≡ digits_of d xs → SameValues d ys xs
same_values d xs ys some le same x =
    let steady : IsSteady (length xs - 1) (digits_of d xs) = steady-digits d xs some in
    ap (λ (s : Digits). slice_value (length ys - 1) s x) same
    ∙ value_on (length xs - 1) (length ys - 1) (digits_of d xs) x steady (omega (arith, le))

-- where the last two bits are one node, the last one may be left out
module _ (xs : List ℕ) (k : ℕ) (long : length xs ≡ suc (suc k)) (one : bit_node xs (suc k) ≡ bit_node xs k) where
  abbrev front : List ℕ
  front = take (suc k) xs

  front_long : length front ≡ suc k
  front_long = omega (arith, length-take (suc k) xs, long)

  front_at : (i : ℕ) → i < suc k → get_or front i 0 ≡ get_or xs i 0
  front_at i less = get_or-take (suc k) xs i 0 less

  front_bit : (i : ℕ) → bit_node front i ≡ bit_node xs i
  front_bit i =
      let len = front_long in
      elim (lt_or_le i (suc k)) [
        | inl less ↦ bit_within front i (omega (arith, less, len)) ∙ front_at i less ∙ sym (bit_within xs i (omega (arith, less, long)))
        | inr le ↦
            bit_beyond front i (omega (arith, le, len)) (omega (arith, len))
            ∙ ap (λ j. get_or front j 0) (let e : length front - 1 ≡ k = omega (arith, len) in e)
            ∙ front_at k (omega arith)
            ∙ sym (bit_within xs k (omega (arith, long)))
            ∙ sym one
            ∙ bit_within xs (suc k) (omega (arith, long))
            ∙ ap (λ j. get_or xs j 0) (let e : suc k ≡ length xs - 1 = omega (arith, long) in e)
            ∙ sym (bit_beyond xs i (omega (arith, le, long)) (omega (arith, long)))
      ]

  front_digits : (d : Diagram) → digits_of d front ≡ digits_of d xs
  unfolding digits_of
  front_digits d = fun_ext (λ i. ap (function_of d) (front_bit i))

  front_same : (d : Diagram) → SameValues d front xs
  front_same d x = sym (same_values d front xs (omega (arith, front_long)) (omega (arith, front_long, long)) (sym (front_digits d)) x)

  front_stands : (d : Diagram) → StandsIn d xs → StandsIn d front
  front_stands d h = record {
    some = omega (arith, front_long);
    few = let few = h.few in omega (arith, front_long, few, long);
    live = λ i less. let live = h.live i (omega (arith, less, front_long, long)) in rw (front_at i (omega (arith, less, front_long))) live;
  }

-- the fewest bits are no more than a width that the values fit
pub fits_length : (d : Diagram) (xs : List ℕ) (w : ℕ) → IsSound d → StandsIn d xs → IsFewest d xs → 2 ≤ w → AreWithin d w xs → length xs ≤ w
unfolding digits_of
fits_length d xs w s h fewest two all =
    elim (lt_or_le w (length xs)) [
      | inr le ↦ le
      | inl less ↦
          let k = length xs - 2 in
          let long : length xs ≡ suc (suc k) = omega (arith, less, two) in
          let same : (x : Assignment) → function_of d (bit_node xs (suc k)) x ≡ function_of d (bit_node xs k) x = λ x.
          (let e : value_at d xs x ≡ slice_value (suc k) (digits_of d xs) x = ap (λ j. slice_value j (digits_of d xs) x) (let last : length xs - 1 ≡ suc k = omega (arith, long) in last) in
          let wide : InRange (w - 1) (value_at d xs x) = record { low = (all x).low; high = (all x).high } in
          let narrow : InRange k (value_at d xs x) = range-wider (w - 1) k (value_at d xs x) (omega (arith, less, two)) wide in
          let fits : InRange k (slice_value (suc k) (digits_of d xs) x) = rw (sym e) narrow in
          sign-repeated k (digits_of d xs) x fits) in
          let one = one_node d (bit_node xs (suc k)) (bit_node xs k) s (bit_live d xs (suc k) h) (bit_live d xs k h) same in
          let short = fewest (front xs k long one) (front_stands xs k long one d h) (omega (arith, front_long xs k long one, less, two, long)) (front_same xs k long one d) in
          absurd (omega (arith, short, front_long xs k long one, long))
    ]

-- values fit the width of their bits
pub length_fits : (d : Diagram) (xs : List ℕ) (w : ℕ) → 0 < length xs → length xs ≤ w → AreWithin d w xs
length_fits d xs w some le x =
    let r : InRange (w - 1) (value_at d xs x) = range-wider (length xs - 1) (w - 1) (value_at d xs x) (omega (arith, some, le)) (value-in_range (length xs - 1) (digits_of d xs) x) in
    record { low = r.low; high = r.high }

-- four integers with the same values
pub values_same : (d : Diagram) (v : Vector) (f g : Four) → AreValues d v f → AreSame d f g → AreValues d v g
values_same d v f g h same = record { stands = λ z. (same z).stands; values = λ z x. (same z).values x ∙ h.values z x }

within_as : (w : ℕ) (d : Diagram) (v : Vector) (g : Four) (z : Coord) → AreValues d v g → FitsWidth w v → AreWithin d w (nodes_of g z)
within_as w d v g z h fits x = rw (h.values z x) (fits z x)

fits_as : (w : ℕ) (d : Diagram) (v : Vector) (g : Four) → AreValues d v g → ((z : Coord) → AreWithin d w (nodes_of g z)) → FitsWidth w v
fits_as w d v g h all z x = rw (sym (h.values z x)) (all z x)

-- the widest of four integers of the fewest bits tells which widths they fit
pub four_fits : (d : Diagram) (v : Vector) (g : Four) (w : ℕ) → IsSound d → AreValues d v g → ((z : Coord) → IsFewest d (nodes_of g z)) → 2 ≤ w → FitsWidth w v ↔ (widest g ≤ w)
four_fits d v g w s h fewest two = (to, back)
  where
    short : FitsWidth w v → (z : Coord) → length (nodes_of g z) ≤ w
    short fits z = fits_length d (nodes_of g z) w s (h.stands z) (fewest z) two (within_as w d v g z h fits)

    to : FitsWidth w v → widest g ≤ w
    to fits = let a = short fits A in let b = short fits B in let c = short fits C in let e = short fits D in omega (arith, a, b, c, e)

    each : widest g ≤ w → (z : Coord) → length (nodes_of g z) ≤ w
    each le A = omega (arith, le)
    each le B = omega (arith, le)
    each le C = omega (arith, le)
    each le D = omega (arith, le)

    back : widest g ≤ w → FitsWidth w v
    back le = fits_as w d v g h (λ z. length_fits d (nodes_of g z) w (h.stands z).some (each le z))

-- an integer whose repeated signs were dropped has some bit left
pub some_left : (xs ys : List ℕ) → 0 < length xs → (length xs ≤ 2 → ys ≡ xs) → (2 ≤ length xs → 2 ≤ length ys) → 0 < length ys
some_left xs ys some short two =
    elim (lt_or_le 1 (length xs)) [
      | inl more ↦ let t = two (omega (arith, more)) in omega (arith, t)
      | inr few ↦ let e = ap (λ (l : List ℕ). length l) (short (omega (arith, few))) in omega (arith, e, some)
    ]

pub each_of : (P : List ℕ → List ℕ → Type 0) (f g : Four) → P f.a g.a → P f.b g.b → P f.c g.c → P f.d g.d → (z : Coord) → P (nodes_of f z) (nodes_of g z)
each_of P f g a b c e A = a
each_of P f g a b c e B = b
each_of P f g a b c e C = c
each_of P f g a b c e D = e

-- one sign more
module _ (ys : List ℕ) (n : ℕ) (some : 0 < length ys) (sign : n ≡ sign_node ys) where
  more_long : length (ys ++ n ∷ []) ≡ length ys + 1
  more_long = length-append ys (n ∷ [])

  seam : get_or (ys ++ n ∷ []) (length ys) 0 ≡ n
  seam = get_or-append_seam ys n [] 0

  pub more_sign : sign_node (ys ++ n ∷ []) ≡ n
  more_sign = ap (λ j. get_or (ys ++ n ∷ []) j 0) (let e : length (ys ++ n ∷ []) - 1 ≡ length ys = omega (arith, more_long) in e) ∙ seam

  more_bit : (i : ℕ) → bit_node (ys ++ n ∷ []) i ≡ bit_node ys i
  more_bit i =
      elim (lt_or_le i (length ys)) [
        | inl less ↦
            bit_within (ys ++ n ∷ []) i (omega (arith, less, more_long))
            ∙ get_or_append_left ys (n ∷ []) 0 i less
            ∙ sym (bit_within ys i less)
        | inr le ↦
            bit_beyond (ys ++ n ∷ []) i (omega (arith, le, more_long)) (omega (arith, more_long))
            ∙ more_sign
            ∙ sign
            ∙ sym (bit_beyond ys i (omega (arith, le)) some)
      ]

  more_digits : (d : Diagram) → digits_of d (ys ++ n ∷ []) ≡ digits_of d ys
  unfolding digits_of
  more_digits d = fun_ext (λ i. ap (function_of d) (more_bit i))

  more_stands : (d : Diagram) → length ys < 131 → StandsIn d ys → StandsIn d (ys ++ n ∷ [])
  more_stands d few h = record {
    some = omega (arith, more_long);
    few = omega (arith, more_long, few);
    live = λ i less. elim (lt_or_le i (length ys)) [
      | inl inside ↦ let live = h.live i inside in rw (get_or_append_left ys (n ∷ []) 0 i inside) live
      | inr past ↦
          let at : i ≡ length ys = omega (arith, past, less, more_long) in
          let live = h.live (length ys - 1) (omega (arith, some)) in
          rw (ap (λ j. get_or (ys ++ n ∷ []) j 0) at ∙ seam ∙ sign) live
    ];
  }

  pub more_same : (d : Diagram) (xs : List ℕ) → length ys < 131 → IsSame d xs ys → IsSame d xs (ys ++ n ∷ [])
  more_same d xs few h = record {
    stands = more_stands d few h.stands;
    digits = more_digits d ∙ h.digits;
    values = λ x. same_values d ys (ys ++ n ∷ []) some (omega (arith, more_long)) (more_digits d) x ∙ h.values x;
  }

-- nothing was added
pub none_same : (d : Diagram) (xs : List ℕ) → StandsIn d xs → IsSame d xs xs
none_same d xs h = record { stands = h; digits = refl; values = λ x. refl }

-- ys is xs with its sign n repeated up to i bits
pub record IsWidened (xs ys : List ℕ) (n i : ℕ) : Type 0 where
  pub long : length ys ≡ i
  pub some : 0 < length ys
  pub sign : n ≡ sign_node ys
  pub same : (d : Diagram) → StandsIn d xs → IsSame d xs ys

pub widened_none : (xs ys : List ℕ) (n i : ℕ) → ys ≡ xs → i ≡ length xs → 0 < length xs → n ≡ sign_node xs → IsWidened xs ys n i
widened_none xs ys n i e len some sign = rw (e, len) (record { long = refl; some = some; sign = sign; same = λ d h. none_same d xs h })

pub widened_more : (xs ys zs : List ℕ) (n i j : ℕ) → IsWidened xs ys n i → i < 131 → zs ≡ ys ++ n ∷ [] → j ≡ i + 1 → IsWidened xs zs n j
widened_more xs ys zs n i j h few e next = rw (e, next) (record {
  long = let a = h.long in omega (arith, a, length-append ys (n ∷ []));
  some = omega (arith, length-append ys (n ∷ []));
  sign = sym (more_sign ys n h.some h.sign);
  same = λ d stands. more_same ys n h.some h.sign d xs (let a = h.long in omega (arith, a, few)) (h.same d stands);
})

-- the sign is the last bit
pub last_sign : (xs : List ℕ) (n i : ℕ) → 0 < length xs → i + 1 ≡ length xs → n ≡ bit_node xs i → n ≡ sign_node xs
last_sign xs n i some last e = e ∙ bit_beyond xs i (omega (arith, last)) some
