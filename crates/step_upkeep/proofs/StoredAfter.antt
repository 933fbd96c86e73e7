-- The functions that a vector or matrix is stored by after a step are among the step's work functions.
use Rattle.std.proofs.Common.{◌≡◌, ◌⊎◌, ℕ, zero, suc, ◌+◌, ◌-◌, ◌^◌, ◌≤◌, ℤ, pos, ◌+ℤ◌, Bool, true, false, cond, List, [], ◌++◌, length, inl, inr, refl, sym, ◌∙◌, ap, subst, arith}
use Rattle.std.specs.Prelude.{◌≤ℤ◌, ◌<ℤ◌, neg_ℤ}
use Rattle.std.proofs.lemmas.Int.{ints}
use mathlib.Core.Path.{fun_ext}
use Rattle.ring_omega.specs.declared.quad.Quad.{Quad}
use Rattle.ring_omega.specs.Ring.{one_quad, zero_quad}
use Rattle.circuit_model.specs.Working.{Scaled, IsHalved, IntFits, QuadFits, FitsWidth}
use Rattle.diagram_model.specs.Bryant.{IsOneOf}
use Rattle.diagram_model.specs.Functions.{Assignment, Function}
use Rattle.diagram_model.proofs.Prefixes.{prefix_self}
use Rattle.diagram_ops.specs.Made.{IsPrefixOfSome}
use Rattle.slice_vec.specs.Slices.{first_bits}
use Rattle.slice_vec.proofs.Bits.{lt_or_le}
use Rattle.slice_vec.proofs.DigitLemmas.{twice}
use Rattle.slice_vec.proofs.Growing.{some_first}
use Rattle.slice_quad.specs.declared.coord.Coord.{Coord}
use Rattle.slice_quad.specs.declared.coord.Coord.TheVariants.{A, B, C, D}
use Rattle.slice_quad.specs.declared.kind.Step.{Step}
use Rattle.slice_quad.specs.Bits.{int_bit, bits_of}
use Rattle.slice_quad.specs.Mix.{Vector}
use Rattle.slice_quad.specs.Settled.{doubled}
use Rattle.slice_quad.specs.Stepping.{IsStepOn, stepped, step_functions, work_functions}
use Rattle.slice_quad.specs.Turns.{coordinate}
use Rattle.slice_gates.proofs.Doubles.{doubled_quad, times_power-two}
use Rattle.step_upkeep.specs.Stored.{stored_functions}
use Rattle.step_upkeep.proofs.Digits.{bit_wanted}
use Rattle.step_upkeep.proofs.Stored.{one_of_both, one_of_bits}
use Rattle.step_upkeep.proofs.Values.{IsIn, AreIn, doubled_bit}

-- ---- the coefficients, as signed numbers of m + 1 bits
int_in : (w m : ℕ) (v : ℤ) → w ≡ suc m → IntFits w v → IsIn m v
int_in w m v e h = subst (λ k. IsRange k → IsIn m v) (let k : m ≡ w - 1 = omega (arith, e) in k) (λ r. record { low = r.0; high = r.1 }) h
  where
    IsRange : ℕ → Type 0
    IsRange k = (neg_ℤ (pos (2 ^ k)) ≤ℤ v) × (v <ℤ pos (2 ^ k))

pub in_range : (w m : ℕ) (q : Quad) (z : Coord) → w ≡ suc m → QuadFits w q → IsIn m (coordinate z q)
in_range w m q A e h = int_in w m q.a e h.a_fits
in_range w m q B e h = int_in w m q.b e h.b_fits
in_range w m q C e h = int_in w m q.c e h.c_fits
in_range w m q D e h = int_in w m q.d e h.d_fits

-- ---- the stored functions after a step
twice_times : (z : Coord) (t : ℕ) (q : Quad) → coordinate z (doubled_quad t q) ≡ doubled t (coordinate z q)
twice_times A t q = refl
twice_times B t q = refl
twice_times C t q = refl
twice_times D t q = refl

-- t times twice the new vector is the step's matrix times the old one, whose coefficients are signed numbers of m + 1 bits
module _ (vs : List ℕ) (W m t : ℕ) (kept : Function) (s : Step) (old new : Vector) (wide : W ≡ suc m) (narrow : AreIn m old) (halved : (x : Assignment) → doubled_quad t (new x) ≡ stepped s old x) (n : ℕ) (on : IsStepOn n s) where
  -- each bit of the new vector is a bit of the step's
  new_bit : (z : Coord) (i : ℕ) → bits_of new z i ≡ bits_of (stepped s old) z (i + t)
  unfolding bits_of
  new_bit z i = fun_ext (λ x. at x)
    where
      at : (x : Assignment) → int_bit i (coordinate z (new x)) ≡ int_bit (i + t) (coordinate z (stepped s old x))
      at x =
          let value : doubled t (coordinate z (new x)) ≡ coordinate z (stepped s old x) = sym (twice_times z t (new x)) ∙ ap (coordinate z) (halved x) in
          sym (doubled_bit t i (coordinate z (new x))) ∙ ap (int_bit (i + t)) value

  abbrev IsWanted : Function → Type 0
  IsWanted f = IsPrefixOfSome vs (work_functions W kept s old) f

  bit_is : (z : Coord) (i : ℕ) → IsWanted (bits_of new z i)
  bit_is z i = subst IsWanted (sym (new_bit z i)) (bit_wanted n vs W m kept s old z (i + t) on wide narrow)

  first_is : IsWanted kept
  unfolding work_functions
  first_is = some_first vs kept (step_functions W s (bits_of old)) kept (prefix_self vs kept kept refl)

  pub stored_wanted : (f : Function) → IsOneOf (stored_functions W kept new) f → IsWanted f
  unfolding stored_functions
  stored_wanted f (inl e) = subst IsWanted (sym e) first_is
  stored_wanted f (inr is) =
      one_of_both IsWanted (bits A) (bits B ++ (bits C ++ (bits D ++ []))) (each A)
      (one_of_both IsWanted (bits B) (bits C ++ (bits D ++ [])) (each B) (one_of_both IsWanted (bits C) (bits D ++ []) (each C) (one_of_both IsWanted (bits D) [] (each D) (λ k lie. absurd lie)))) f is
    where
      bits : Coord → List Function
      bits z = first_bits W (bits_of new z)

      each : (z : Coord) (k : Function) → IsOneOf (bits z) k → IsWanted k
      each z = one_of_bits IsWanted W (bits_of new z) (bit_is z)

-- ---- a step has an end
pub either_end : (a b k : ℕ) → a ≤ b → (a ≤ k) ⊎ (k ≤ b)
either_end a b k le = elim (lt_or_le k a) [ inl lt ↦ inr (omega (arith, lt, le)) | inr few ↦ inl few ]

-- ---- the coefficients fit after a step where they did before the halving
twice_range : (p : ℕ) (v : ℤ) → neg_ℤ (pos p) ≤ℤ (v +ℤ v) → (v +ℤ v) <ℤ pos p → (neg_ℤ (pos p) ≤ℤ v) × (v <ℤ pos p)
twice_range p v low high = (omega (arith, ints, low), omega (arith, ints, high))

halved_range : (w t : ℕ) (v : ℤ) → IntFits w (doubled t v) → IntFits w v
unfolding doubled
halved_range w zero v h = h
halved_range w (suc t) v h = let r = halved_range w t (v +ℤ v) h in twice_range (2 ^ (w - 1)) v r.0 r.1

pub halved_fits : (w t : ℕ) (p q : Quad) → p ≡ doubled_quad t q → QuadFits w p → QuadFits w q
halved_fits w t p q e h =
    let f : QuadFits w (doubled_quad t q) = subst (QuadFits w) e h in
    record { a_fits = halved_range w t q.a f.a_fits; b_fits = halved_range w t q.b f.b_fits; c_fits = halved_range w t q.c f.c_fits; d_fits = halved_range w t q.d f.d_fits }

-- ---- products by lists of bits
-- a product fits after the halving too
pub fits_halved : (n w k : ℕ) (r : List Bool → Quad) (h : Scaled) → IsHalved n r k h → FitsWidth n w r → FitsWidth n w h.entries
fits_halved n w k r h is fits x len = halved_fits w is.times (r x) (h.entries x) (is.taken_out x len ∙ times_power-two is.times (h.entries x)) (fits x len)

-- at the lists that assignments are
module _ (n : ℕ) (list : Assignment → List Bool) (long : (x : Assignment) → length (list x) ≡ n) where
  -- a halved product, as many times doubled as it was halved, is the product
  pub halved_out : (v : Vector) (k : ℕ) (r : List Bool → Quad) (h : Scaled) → IsHalved n r k h → ((x : Assignment) → r (list x) ≡ v x) → (t : ℕ) × ((x : Assignment) → doubled_quad t (h.entries (list x)) ≡ v x)
  halved_out v k r h is same = (is.times, λ x. sym (is.taken_out (list x) (long x) ∙ times_power-two is.times (h.entries (list x))) ∙ same x)

  -- coefficients that fit are signed numbers of so many bits
  pub values_in : (w m : ℕ) (v : List Bool → Quad) → w ≡ suc m → FitsWidth n w v → AreIn m (λ x. v (list x))
  values_in w m v e h z x = in_range w m (v (list x)) z e (h (list x) (long x))

-- ---- 0 and 1 fit
one_power : (k : ℕ) → 1 ≤ 2 ^ k
one_power zero = omega arith
one_power (suc k) = let before = one_power k in omega (arith, before, twice k 1)

two_power : (w : ℕ) → 2 ≤ w → 2 ≤ 2 ^ (w - 1)
two_power zero wide = absurd (omega (arith, wide))
two_power (suc zero) wide = absurd (omega (arith, wide))
two_power (suc (suc k)) wide =
    let some = one_power k in
    let big : 2 ≤ 2 ^ suc k = omega (arith, some, twice k 1) in
    let e : suc k ≡ suc (suc k) - 1 = omega arith in
    subst (λ (j : ℕ). 2 ≤ 2 ^ j) e big

zero_small : (p : ℕ) → 2 ≤ p → (neg_ℤ (pos p) ≤ℤ pos 0) × (pos 0 <ℤ pos p)
zero_small p two = (omega (arith, ints, two), omega (arith, ints, two))

one_small : (p : ℕ) → 2 ≤ p → (neg_ℤ (pos p) ≤ℤ pos 1) × (pos 1 <ℤ pos p)
one_small p two = (omega (arith, ints, two), omega (arith, ints, two))

-- an entry of the identity
pub unit_fits : (w : ℕ) → 2 ≤ w → (b : Bool) → QuadFits w (cond b one_quad zero_quad)
unit_fits w wide b = by b
  where
    none : IntFits w (pos 0)
    none = zero_small (2 ^ (w - 1)) (two_power w wide)

    one : IntFits w (pos 1)
    one = one_small (2 ^ (w - 1)) (two_power w wide)

    by : (b : Bool) → QuadFits w (cond b one_quad zero_quad)
    by true = record { a_fits = none; b_fits = none; c_fits = none; d_fits = one }
    by false = record { a_fits = none; b_fits = none; c_fits = none; d_fits = none }
