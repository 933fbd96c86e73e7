-- The bits of a step's vector are among the step's work functions.
use Rattle.std.proofs.Common.{◌≡◌, ℕ, suc, ◌+◌, ◌-◌, ◌<◌, Bool, true, false, List, [], ◌∷◌, ◌++◌, inl, inr, refl, sym, ◌∙◌, ap, subst, arith}
use Rattle.std.specs.Prelude.{flat_map}
use mathlib.Core.Path.{fun_ext}
use Rattle.diagram_model.specs.Functions.{Assignment, Function}
use Rattle.diagram_model.proofs.Prefixes.{prefix_self}
use Rattle.diagram_ops.specs.Made.{IsPrefixOfSome}
use Rattle.slice_vec.specs.Digits.{Digits, IsSteady}
use Rattle.slice_vec.specs.Slices.{first_bits}
use Rattle.slice_vec.proofs.Bits.{lt_or_le, steady_last}
use Rattle.slice_vec.proofs.DigitLemmas.{steady-chosen, steady-fixed}
use Rattle.slice_vec.proofs.Growing.{some_left, some_right, some_bit, some_later}
use Rattle.slice_quad.specs.declared.coord.Coord.{Coord}
use Rattle.slice_quad.specs.declared.coord.Coord.TheVariants.{A, B, C, D}
use Rattle.slice_quad.specs.declared.kind.Step.{Step}
use Rattle.slice_quad.specs.declared.kind.Step.TheVariants as steps
use Rattle.slice_quad.specs.Bits.{int_bit, bits_of}
use Rattle.slice_quad.specs.Exchange.{Exchange, exchanged, fixed_both, by_second, by_first, exchange_digits, exchange_functions, crossing_functions, exchange_work}
use Rattle.slice_quad.specs.Mix.{Mix, Vector, Coordinates, all_true, mixed, raw}
use Rattle.gate_set.specs.declared.entry.Entry.{Entry}
use Rattle.gate_set.specs.Matrix.{IsPower}
use Rattle.slice_quad.specs.Stepping.{AreReducedRows, IsStepOn, mix_with, exchange_with, stepped, step_functions, work_functions}
use Rattle.slice_quad.specs.Turns.{coordinate}
use Rattle.slice_quad.proofs.BitLemmas.{digit-of_value}
use Rattle.slice_quad.proofs.Crossed.{last_wanted}
use Rattle.slice_quad.proofs.Diagonals.{steady-raw}
use Rattle.slice_quad.proofs.Exchanges.{exchange-value}
use Rattle.slice_quad.proofs.MixLemmas.{raw-value}
use Rattle.slice_quad.proofs.Wanted.{wanted_raw, wanted_in}
use Rattle.step_upkeep.proofs.Values.{AreIn, steady_vector, vector_back}

-- each bit of steady ones is one of the first
steady_among : (vs : List ℕ) (w m : ℕ) (s : Digits) (j : ℕ) → IsSteady m s → m < w → IsPrefixOfSome vs (first_bits w s) (s j)
steady_among vs w m s j steady lt =
    elim (lt_or_le j w) [
      | inl less ↦ some_bit vs w j s (s j) less (prefix_self vs (s j) (s j) refl)
      | inr le ↦
          let last : s j ≡ s m = steady_last m s steady (j - m) j (omega (arith, le, lt)) in
          some_bit vs w m s (s j) lt (prefix_self vs (s m) (s j) last)
    ]

-- ---- a matrix on a target
module _ (m : Mix) (k : ℕ) (v : Vector) (powers : (r s : Bool) → IsPower (m.rows r s)) (h : AreIn k v) (z : Coord) where
  abbrev q : Coordinates
  q = bits_of v

  mixed_bit : (j : ℕ) → bits_of (mixed m v) z j ≡ raw m q z j
  unfolding bits_of
  mixed_bit j = fun_ext (λ x. at x)
    where
      at : (x : Assignment) → int_bit j (coordinate z (mixed m v x)) ≡ raw m q z j x
      at x =
          ap (λ (u : Vector). int_bit j (coordinate z (mixed m u x))) (sym (vector_back k v h))
          ∙ ap (int_bit j) (sym (raw-value m k q z x powers (steady_vector k v h)))
          ∙ digit-of_value j (suc (suc k)) (raw m q z) x (steady-raw m k q z (steady_vector k v h))

  mixed_among : (vs : List ℕ) (w j : ℕ) → w ≡ suc k → IsPrefixOfSome vs (first_bits (w + 2) (raw m q z)) (bits_of (mixed m v) z j)
  mixed_among vs w j e =
      subst (λ (f : Function). IsPrefixOfSome vs (first_bits (w + 2) (raw m q z)) f) (sym (mixed_bit j))
      (steady_among vs (w + 2) (suc (suc k)) (raw m q z) j (steady-raw m k q z (steady_vector k v h)) (omega (arith, e)))

-- ---- an exchange
steady_exchange : (e : Exchange) (k : ℕ) (a : Digits) → IsSteady k a → IsSteady k (exchange_digits e a)
unfolding exchange_digits by_first by_second fixed_both
steady_exchange e k a h =
    let both : (r s : Bool) → IsSteady k (fixed_both e a r s) = λ r s. steady-fixed k e.second s _ (steady-fixed k e.first r a h) in
    let second : (s : Bool) → IsSteady k (by_second e a s) = λ s. steady-chosen k (λ x. x e.second) (fixed_both e a true s) (fixed_both e a false s) (both true s) (both false s) in
    let first : IsSteady k (by_first e a) = steady-chosen k (λ x. x e.first) (by_second e a true) (by_second e a false) (second true) (second false) in
    steady-chosen k (all_true e.controls) (by_first e a) a first h

module _ (e : Exchange) (k : ℕ) (v : Vector) (h : AreIn k v) (z : Coord) where
  abbrev a : Digits
  a = bits_of v z

  exchanged_bit : (j : ℕ) → bits_of (exchanged e v) z j ≡ exchange_digits e a j
  unfolding bits_of
  exchanged_bit j = fun_ext (λ x. at x)
    where
      at : (x : Assignment) → int_bit j (coordinate z (exchanged e v x)) ≡ exchange_digits e a j x
      at x =
          ap (λ (u : Vector). int_bit j (coordinate z (exchanged e u x))) (sym (vector_back k v h))
          ∙ ap (int_bit j) (sym (exchange-value e k (bits_of v) z x))
          ∙ digit-of_value j k (exchange_digits e a) x (steady_exchange e k a (steady_vector k v h z))

  exchanged_among : (vs : List ℕ) (w j : ℕ) → w ≡ suc k → IsPrefixOfSome vs (first_bits w (exchange_digits e a)) (bits_of (exchanged e v) z j)
  exchanged_among vs w j is =
      subst (λ (f : Function). IsPrefixOfSome vs (first_bits w (exchange_digits e a)) f) (sym (exchanged_bit j))
      (steady_among vs w k (exchange_digits e a) j (steady_exchange e k a (steady_vector k v h z)) (omega (arith, is)))

-- a coordinate's functions are among those of the exchange
crossed_in : (vs : List ℕ) (w : ℕ) (e : Exchange) (q : Coordinates) (z : Coord) (p : Function) → IsPrefixOfSome vs (exchange_functions w e (q z)) p → IsPrefixOfSome vs (exchange_work w e q) p
unfolding exchange_work
crossed_in vs w e q z p h = some_right vs (crossing_functions e) (flat_map (λ y. exchange_functions w e (q y)) (A ∷ B ∷ C ∷ D ∷ [])) p (at z h)
  where
    f : Coord → List Function
    f y = exchange_functions w e (q y)

    at : (y : Coord) → IsPrefixOfSome vs (f y) p → IsPrefixOfSome vs (f A ++ (f B ++ (f C ++ (f D ++ [])))) p
    at A k = some_left vs (f A) (f B ++ (f C ++ (f D ++ []))) p k
    at B k = some_right vs (f A) (f B ++ (f C ++ (f D ++ []))) p (some_left vs (f B) (f C ++ (f D ++ [])) p k)
    at C k = some_right vs (f A) (f B ++ (f C ++ (f D ++ []))) p (some_right vs (f B) (f C ++ (f D ++ [])) p (some_left vs (f C) (f D ++ []) p k))
    at D k = some_right vs (f A) (f B ++ (f C ++ (f D ++ []))) p (some_right vs (f B) (f C ++ (f D ++ [])) p (some_right vs (f C) (f D ++ []) p (some_left vs (f D) [] p k)))

-- ---- any step
-- the entries of a step's rows
row_powers : (controls : List Bool) (target : ℕ) (rows : List (List Entry)) (half : ℕ) → AreReducedRows rows → (r s : Bool) → IsPower ((mix_with controls target rows half).rows r s)
row_powers controls target rows half h true true = h.high_high
row_powers controls target rows half h true false = h.high_low
row_powers controls target rows half h false true = h.low_high
row_powers controls target rows half h false false = h.low_low

step_among : (n : ℕ) (vs : List ℕ) (w k : ℕ) (s : Step) (v : Vector) (z : Coord) (j : ℕ) → IsStepOn n s → w ≡ suc k → AreIn k v → IsPrefixOfSome vs (step_functions w s (bits_of v)) (bits_of (stepped s v) z j)
unfolding step_functions
step_among n vs w k (steps.Mix controls target rows half) v z j on e h =
    let m = mix_with controls target rows half in
    let p = bits_of (mixed m v) z j in
    wanted_in vs w m (bits_of v) z p (wanted_raw vs w m (bits_of v) z p (mixed_among m k v (row_powers controls target rows half on.0) h z vs w j e))
step_among n vs w k (steps.Exchange controls first second) v z j on e h =
    let x = exchange_with controls first second in
    let p = bits_of (exchanged x v) z j in
    crossed_in vs w x (bits_of v) z p (last_wanted vs w x (bits_of v z) p (exchanged_among x k v h z vs w j e))

-- Each bit of the step's vector is among the step's work functions, where the coefficients before are signed numbers of the width.
pub bit_wanted : (n : ℕ) (vs : List ℕ) (w k : ℕ) (kept : Function) (s : Step) (v : Vector) (z : Coord) (j : ℕ) → IsStepOn n s → w ≡ suc k → AreIn k v → IsPrefixOfSome vs (work_functions w kept s v) (bits_of (stepped s v) z j)
unfolding work_functions
bit_wanted n vs w k kept s v z j on e h = some_later vs kept (step_functions w s (bits_of v)) (bits_of (stepped s v) z j) (step_among n vs w k s v z j on e h)
