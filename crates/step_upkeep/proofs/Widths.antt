-- More bits of a width add functions to the work functions of a step, and take none away.
use Rattle.std.proofs.Common.{ℕ, ◌+◌, ◌≤◌, Bool, true, false, List, [], ◌∷◌, ◌++◌, inl, inr, arith}
use Rattle.std.specs.Prelude.{flat_map}
use Rattle.diagram_model.specs.Functions.{Function}
use Rattle.diagram_ops.specs.Made.{IsPrefixOfSome}
use Rattle.slice_vec.specs.Digits.{Digits, fixed, flipped, one_carry, carry}
use Rattle.slice_vec.specs.Slices.{first_bits}
use Rattle.slice_vec.proofs.Growing.{some_left, some_right, some_first, some_later}
use Rattle.slice_quad.specs.declared.coord.Coord.{Coord}
use Rattle.slice_quad.specs.declared.coord.Coord.TheVariants.{A, B, C, D}
use Rattle.slice_quad.specs.declared.kind.Step.{Step}
use Rattle.slice_quad.specs.declared.kind.Step.TheVariants as steps
use Rattle.slice_quad.specs.Bits.{bits_of}
use Rattle.slice_quad.specs.Exchange.{Exchange, exchange_parts, exchange_functions, crossing_functions, exchange_work}
use Rattle.slice_quad.specs.Mix.{Mix, Vector, Coordinates, from_target, term, negates, signed_term, raw}
use Rattle.slice_quad.specs.Stepping.{mix_with, exchange_with, step_functions, work_functions}
use Rattle.slice_quad.specs.Work.{gate_functions, term_functions, coordinate_functions, mix_functions}
use Rattle.slice_quad.proofs.Wanted.{some_split, some_case, bits_within}

-- what arises from the first list arises from the second
abbrev pub IsWithin : List ℕ → Function → List Function → List Function → Type 0
IsWithin vs p fs gs = IsPrefixOfSome vs fs p → IsPrefixOfSome vs gs p

module _ (vs : List ℕ) (p : Function) where
  pub both_within : (a b c d : List Function) → IsWithin vs p a c → IsWithin vs p b d → IsWithin vs p (a ++ b) (c ++ d)
  both_within a b c d f g h = elim (some_split vs a b p h) [ inl k ↦ some_left vs c d p (f k) | inr k ↦ some_right vs c d p (g k) ]

  pub first_within : (f : Function) (b d : List Function) → IsWithin vs p b d → IsWithin vs p (f ∷ b) (f ∷ d)
  first_within f b d g h = elim (some_case vs f b p h) [ inl k ↦ some_first vs f d p k | inr k ↦ some_later vs f d p (g k) ]

  pub wide_within : (w W : ℕ) (s : Digits) → w ≤ W → IsWithin vs p (first_bits w s) (first_bits W s)
  wide_within w W s le h = bits_within W vs w s p le h

  pub all_within : (w W : ℕ) (ds : List Digits) → w ≤ W → IsWithin vs p (flat_map (first_bits w) ds) (flat_map (first_bits W) ds)
  all_within w W [] le h = h
  all_within w W (s ∷ ds) le h = both_within (first_bits w s) (flat_map (first_bits w) ds) (first_bits W s) (flat_map (first_bits W) ds) (wide_within w W s le) (all_within w W ds le) h

  -- of four lists
  pub four_within : (f g : Coord → List Function) → ((z : Coord) → IsWithin vs p (f z) (g z)) → IsWithin vs p (flat_map f (A ∷ B ∷ C ∷ D ∷ [])) (flat_map g (A ∷ B ∷ C ∷ D ∷ []))
  four_within f g h =
      both_within (f A) (f B ++ (f C ++ (f D ++ []))) (g A) (g B ++ (g C ++ (g D ++ []))) (h A)
      (both_within (f B) (f C ++ (f D ++ [])) (g B) (g C ++ (g D ++ [])) (h B)
      (both_within (f C) (f D ++ []) (g C) (g D ++ []) (h C) (both_within (f D) [] (g D) [] (h D) (λ k. k))))

  module _ (w W : ℕ) (le : w ≤ W) where
    one_more : (i : ℕ) → w + i ≤ W + i
    one_more i = omega (arith, le)

    module _ (m : Mix) (q : Coordinates) (z : Coord) where
      abbrev signs : ℕ → Bool → List Function
      signs k s = first_bits (k + 1) (signed_term m q z s)

      abbrev carries : ℕ → Bool → List Function
      carries k s = first_bits (k + 2) (one_carry (negates m z s) (term m q z s))

      abbrev flips : ℕ → Bool → List Function
      flips k s = first_bits (k + 1) (flipped (negates m z s) (term m q z s))

      abbrev terms : ℕ → Bool → List Function
      terms k s = first_bits k (term m q z s)

      abbrev targets : ℕ → Bool → List Function
      targets k s = first_bits k (from_target m q z s)

      term_within : (s : Bool) → IsWithin vs p (term_functions w m q z s) (term_functions W m q z s)
      unfolding term_functions
      term_within s =
          both_within (targets w s) (terms w s ++ (negates m z s ∷ (flips w s ++ (carries w s ++ signs w s)))) (targets W s) (terms W s ++ (negates m z s ∷ (flips W s ++ (carries W s ++ signs W s))))
          (wide_within w W (from_target m q z s) le)
          (both_within (terms w s) (negates m z s ∷ (flips w s ++ (carries w s ++ signs w s))) (terms W s) (negates m z s ∷ (flips W s ++ (carries W s ++ signs W s)))
          (wide_within w W (term m q z s) le)
          (first_within (negates m z s) (flips w s ++ (carries w s ++ signs w s)) (flips W s ++ (carries W s ++ signs W s))
          (both_within (flips w s) (carries w s ++ signs w s) (flips W s) (carries W s ++ signs W s)
          (wide_within (w + 1) (W + 1) (flipped (negates m z s) (term m q z s)) (one_more 1))
          (both_within (carries w s) (signs w s) (carries W s) (signs W s)
          (wide_within (w + 2) (W + 2) (one_carry (negates m z s) (term m q z s)) (one_more 2))
          (wide_within (w + 1) (W + 1) (signed_term m q z s) (one_more 1))))))

      abbrev olds : ℕ → List Function
      olds k = first_bits k (q z)

      abbrev lows : ℕ → List Function
      lows k = first_bits k (fixed m.target false (q z))

      abbrev highs : ℕ → List Function
      highs k = first_bits k (fixed m.target true (q z))

      abbrev sums : ℕ → List Function
      sums k = first_bits (k + 3) (carry (signed_term m q z false) (signed_term m q z true)) ++ first_bits (k + 2) (raw m q z)

      sums_within : IsWithin vs p (sums w) (sums W)
      sums_within =
          both_within (first_bits (w + 3) (carry (signed_term m q z false) (signed_term m q z true))) (first_bits (w + 2) (raw m q z))
          (first_bits (W + 3) (carry (signed_term m q z false) (signed_term m q z true))) (first_bits (W + 2) (raw m q z))
          (wide_within (w + 3) (W + 3) (carry (signed_term m q z false) (signed_term m q z true)) (one_more 3)) (wide_within (w + 2) (W + 2) (raw m q z) (one_more 2))

      pub coordinate_within : IsWithin vs p (coordinate_functions w m q z) (coordinate_functions W m q z)
      unfolding coordinate_functions
      coordinate_within =
          both_within (olds w) (lows w ++ (highs w ++ (term_functions w m q z false ++ (term_functions w m q z true ++ sums w)))) (olds W) (lows W ++ (highs W ++ (term_functions W m q z false ++ (term_functions W m q z true ++ sums W))))
          (wide_within w W (q z) le)
          (both_within (lows w) (highs w ++ (term_functions w m q z false ++ (term_functions w m q z true ++ sums w))) (lows W) (highs W ++ (term_functions W m q z false ++ (term_functions W m q z true ++ sums W)))
          (wide_within w W (fixed m.target false (q z)) le)
          (both_within (highs w) (term_functions w m q z false ++ (term_functions w m q z true ++ sums w)) (highs W) (term_functions W m q z false ++ (term_functions W m q z true ++ sums W))
          (wide_within w W (fixed m.target true (q z)) le)
          (both_within (term_functions w m q z false) (term_functions w m q z true ++ sums w) (term_functions W m q z false) (term_functions W m q z true ++ sums W)
          (term_within false)
          (both_within (term_functions w m q z true) (sums w) (term_functions W m q z true) (sums W) (term_within true) sums_within))))

    mix_within : (m : Mix) (q : Coordinates) → IsWithin vs p (mix_functions w m q) (mix_functions W m q)
    unfolding mix_functions
    mix_within m q =
        both_within (gate_functions m) (flat_map (coordinate_functions w m q) (A ∷ B ∷ C ∷ D ∷ [])) (gate_functions m) (flat_map (coordinate_functions W m q) (A ∷ B ∷ C ∷ D ∷ []))
        (λ k. k) (four_within (coordinate_functions w m q) (coordinate_functions W m q) (λ z. coordinate_within m q z))

    crossed_within : (e : Exchange) (a : Digits) → IsWithin vs p (exchange_functions w e a) (exchange_functions W e a)
    unfolding exchange_functions
    crossed_within e a = all_within w W (exchange_parts e a) le

    exchange_within : (e : Exchange) (q : Coordinates) → IsWithin vs p (exchange_work w e q) (exchange_work W e q)
    unfolding exchange_work
    exchange_within e q =
        both_within (crossing_functions e) (flat_map (λ z. exchange_functions w e (q z)) (A ∷ B ∷ C ∷ D ∷ [])) (crossing_functions e) (flat_map (λ z. exchange_functions W e (q z)) (A ∷ B ∷ C ∷ D ∷ []))
        (λ k. k) (four_within (λ z. exchange_functions w e (q z)) (λ z. exchange_functions W e (q z)) (λ z. crossed_within e (q z)))

    step_within : (s : Step) (q : Coordinates) → IsWithin vs p (step_functions w s q) (step_functions W s q)
    unfolding step_functions
    step_within (steps.Mix controls target rows half) q = mix_within (mix_with controls target rows half) q
    step_within (steps.Exchange controls first second) q = exchange_within (exchange_with controls first second) q

    -- the work functions for a wider width
    pub work_within : (kept : Function) (s : Step) (v : Vector) → IsWithin vs p (work_functions w kept s v) (work_functions W kept s v)
    unfolding work_functions
    work_within kept s v = first_within kept (step_functions w s (bits_of v)) (step_functions W s (bits_of v)) (step_within s (bits_of v))
