-- The fewest bits of an integer.
use Rattle.std.proofs.Common.{◌≡◌, ℕ, suc, ◌-◌, ◌<◌, ◌≤◌, List, length, get_or, take, inl, inr, sym, ◌∙◌, ap, arith}
use Rattle.std.proofs.lemmas.List.{length-take, get_or-take}
use mathlib.Core.Path.{fun_ext}
use Rattle.diagram_model.specs.Functions.{Assignment}
use Rattle.diagram_model.specs.Stores.{Diagram, IsLive, IsSound, function_of}
use Rattle.diagram_model.proofs.Canonical.{same_node}
use Rattle.slice_vec.specs.Digits.{Digits, slice_value, IsSteady}
use Rattle.slice_vec.specs.Slices.{bit_node, digits_of, value_at, StandsIn, SameValues, IsSame, IsFewest, AreWithin}
use Rattle.slice_vec.specs.Trims.{IsTrimmed}
use Rattle.slice_vec.proofs.Bits.{lt_or_le, bit_within, bit_beyond, bit_live, steady-digits, value_on}
use Rattle.slice_vec.proofs.Ranges.{InRange, value-in_range, range-wider, sign-repeated}

-- nodes of one function are one node
pub one_node : (d : Diagram) (n m : ℕ) → IsSound d → IsLive d n → IsLive d m → ((x : Assignment) → function_of d n x ≡ function_of d m x) → n ≡ m
unfolding function_of
one_node d n m s ln lm same = same_node d.slots (length d.order) d.order n m s.diagram.order s.diagram.proper s.diagram.unique ln lm same

module _ (xs : List ℕ) (w : ℕ) (some : 0 < length xs) (t : IsTrimmed xs w) where
  pub trimmed_some : 0 < w
  trimmed_some =
      elim (lt_or_le (length xs) 2) [
        | inl less ↦ omega (arith, some, t.short (omega (arith, less)))
        | inr le ↦ omega (arith, t.two le)
      ]

  pub trimmed_length : length (take w xs) ≡ w
  trimmed_length = omega (arith, length-take w xs, t.within)

  kept_at : (i : ℕ) → i < w → get_or (take w xs) i 0 ≡ get_or xs i 0
  kept_at i less = get_or-take w xs i 0 less

  bit_kept : (i : ℕ) → bit_node (take w xs) i ≡ bit_node xs i
  bit_kept i =
      let len = trimmed_length in
      let pos = trimmed_some in
      elim (lt_or_le i w) [
        | inl less ↦
            bit_within (take w xs) i (omega (arith, less, len))
            ∙ kept_at i less
            ∙ sym (bit_within xs i (omega (arith, less, t.within)))
        | inr le ↦
            bit_beyond (take w xs) i (omega (arith, le, len)) (omega (arith, len, pos))
            ∙ ap (λ j. get_or (take w xs) (j - 1) 0) len
            ∙ kept_at (w - 1) (omega (arith, pos))
            ∙ sym (bit_within xs (w - 1) (omega (arith, pos, t.within)))
            ∙ sym (t.same i (omega (arith, le)))
      ]

  pub trimmed_digits : (d : Diagram) → digits_of d (take w xs) ≡ digits_of d xs
  unfolding digits_of
  trimmed_digits d = fun_ext (λ i. ap (function_of d) (bit_kept i))

  trimmed_values : (d : Diagram) → SameValues d (take w xs) xs
  trimmed_values d x =
      let zs = take w xs in
      let len = trimmed_length in
      let pos = trimmed_some in
      let steady : IsSteady (length zs - 1) (digits_of d zs) = steady-digits d zs (omega (arith, len, pos)) in
      sym (value_on (length zs - 1) (length xs - 1) (digits_of d zs) x steady (omega (arith, len, t.within)))
      ∙ ap (λ (s : Digits). slice_value (length xs - 1) s x) (trimmed_digits d)

  trimmed_live : (d : Diagram) → StandsIn d xs → (i : ℕ) → i < length (take w xs) → IsLive d (get_or (take w xs) i 0)
  trimmed_live d h i less =
      let l = h.live i (omega (arith, less, trimmed_length, t.within)) in
      rw (kept_at i (omega (arith, less, trimmed_length))) l

  pub trimmed_same : (d : Diagram) → StandsIn d xs → IsSame d xs (take w xs)
  trimmed_same d h = record {
    stands = record { some = omega (arith, trimmed_length, trimmed_some); few = omega (arith, trimmed_length, t.within, h.few); live = trimmed_live d h };
    digits = trimmed_digits d;
    values = trimmed_values d;
  }

  -- with fewer bits the two bits at the end would be one node
  too_few : (d : Diagram) (ns : List ℕ) → IsSound d → StandsIn d xs → StandsIn d ns → SameValues d ns (take w xs) → (k : ℕ) → w ≡ suc (suc k) → length ns ≤ suc k → (x : Assignment) → function_of d (bit_node xs (suc k)) x ≡ function_of d (bit_node xs k) x
  unfolding digits_of
  too_few d ns s hx hn same k at le x =
      let zs = take w xs in
      let last : length zs - 1 ≡ suc k = omega (arith, trimmed_length, at) in
      let whole : value_at d ns x ≡ slice_value (suc k) (digits_of d xs) x = same x ∙ ap (λ (v : Digits). slice_value (length zs - 1) v x) (trimmed_digits d) ∙ ap (λ j. slice_value j (digits_of d xs) x) last in
      let narrow : InRange k (value_at d ns x) = range-wider (length ns - 1) k (value_at d ns x) (omega (arith, le)) (value-in_range (length ns - 1) (digits_of d ns) x) in
      let fits : InRange k (slice_value (suc k) (digits_of d xs) x) = rw whole at narrow in
      sign-repeated k (digits_of d xs) x fits

  pub trimmed_fewest : (d : Diagram) → IsSound d → StandsIn d xs → IsFewest d (take w xs)
  trimmed_fewest d s h ns hn two same =
      elim (lt_or_le (length ns) w) [
        | inr le ↦ omega (arith, le, trimmed_length)
        | inl less ↦
            let k = w - 2 in
            let at : w ≡ suc (suc k) = omega (arith, less, two) in
            let high : w - 1 ≡ suc k = omega (arith, at) in
            let one = one_node d (bit_node xs (suc k)) (bit_node xs k) s (bit_live d xs (suc k) h) (bit_live d xs k h) (too_few d ns s h hn same k at (omega (arith, less, at))) in
            absurd (t.differ (omega (arith, less, two)) (ap (bit_node xs) high ∙ one))
      ]

  -- the sign is repeated from bit w - 1 on
  trimmed_steady : (d : Diagram) → IsSteady (w - 1) (digits_of d xs)
  unfolding digits_of
  trimmed_steady d i le =
      let pos = trimmed_some in
      ap (function_of d) (t.same (suc i) (omega (arith, le, pos)) ∙ sym (t.same i (omega (arith, le, pos))))

  pub within_short : (d : Diagram) (k : ℕ) → w ≤ k → AreWithin d k xs
  within_short d k le x =
      let pos = trimmed_some in
      let e = value_on (w - 1) (length xs - 1) (digits_of d xs) x (trimmed_steady d) (omega (arith, t.within)) in
      let r : InRange (k - 1) (value_at d xs x) = rw e (range-wider (w - 1) (k - 1) (slice_value (w - 1) (digits_of d xs) x) (omega (arith, le)) (value-in_range (w - 1) (digits_of d xs) x)) in
      record { low = r.low; high = r.high }

  within_repeats : (d : Diagram) (k j : ℕ) → AreWithin d k xs → w ≡ suc (suc j) → k ≤ suc j → (x : Assignment) → function_of d (bit_node xs (suc j)) x ≡ function_of d (bit_node xs j) x
  unfolding digits_of
  within_repeats d k j all at le x =
      let h = all x in
      let e = value_on (w - 1) (length xs - 1) (digits_of d xs) x (trimmed_steady d) (omega (arith, t.within)) ∙ ap (λ i. slice_value i (digits_of d xs) x) (let f : w - 1 ≡ suc j = omega (arith, at) in f) in
      let wide : InRange (k - 1) (value_at d xs x) = record { low = h.low; high = h.high } in
      let r : InRange j (value_at d xs x) = range-wider (k - 1) j (value_at d xs x) (omega (arith, le)) wide in
      let fits : InRange j (slice_value (suc j) (digits_of d xs) x) = rw e at r in
      sign-repeated j (digits_of d xs) x fits

  pub short_within : (d : Diagram) (k : ℕ) → IsSound d → StandsIn d xs → 2 ≤ k → AreWithin d k xs → w ≤ k
  short_within d k s h two all =
      elim (lt_or_le k w) [
        | inr le ↦ le
        | inl less ↦
            let j = w - 2 in
            let at : w ≡ suc (suc j) = omega (arith, less, two) in
            let high : w - 1 ≡ suc j = omega (arith, at) in
            let one = one_node d (bit_node xs (suc j)) (bit_node xs j) s (bit_live d xs (suc j) h) (bit_live d xs j h) (within_repeats d k j all at (omega (arith, less, at))) in
            absurd (t.differ (omega (arith, less, two)) (ap (bit_node xs) high ∙ one))
      ]
