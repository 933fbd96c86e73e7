-- The unit matrix leaves each vector as it is.
use Rattle.std.proofs.Common.{◌≡◌, ℕ, ◌+◌, ◌-◌, ◌≤◌, Bool, true, false, not, List, length, inl, inr, refl, sym, ◌∙◌, ap, subst, arith}
use Rattle.std.proofs.lemmas.Bool.{cases_Bool, cond-true, cond-false}
use mathlib.Core.Path.{fun_ext}
use Rattle.diagram_model.specs.Functions.{Assignment, put}
use Rattle.diagram_model.specs.Stores.{Diagram}
use Rattle.diagram_ops.proofs.Results.{put_same}
use Rattle.ring_omega.specs.Ring.{zero_quad, sum_of}
use Rattle.ring_omega.proofs.RingLaws.{sum_of-zero, zero-sum_of}
use Rattle.gate_set.specs.declared.entry.Entry.{Entry}
use Rattle.gate_set.specs.Matrix.{times_entry}
use Rattle.slice_vec.specs.Slices.{StandsIn, AreEven, IsWithin, digits_of, value_at}
use Rattle.slice_vec.proofs.Ranges.{InRange, range-wider, value-in_range}
use Rattle.slice_quad.specs.declared.coord.Coord.{Coord}
use Rattle.slice_quad.specs.declared.coord.Coord.TheVariants.{A, B, C, D}
use Rattle.slice_quad.specs.declared.gate.Target.{Target}
use Rattle.slice_quad.specs.declared.kind.Step.{Step}
use Rattle.slice_quad.specs.declared.kind.Step.TheVariants as steps
use Rattle.slice_quad.specs.declared.quad.SliceQuad.{SliceQuad}
use Rattle.slice_quad.specs.Fours.{nodes_of, mix_of}
use Rattle.slice_quad.specs.Mix.{Vector, all_true, elsewhere, mixed}
use Rattle.slice_quad.specs.Raws.{IsUnit}
use Rattle.slice_quad.specs.Settled.{IsSettled}
use Rattle.slice_quad.specs.Stepping.{stepped, half_of, target_with}
use Rattle.slice_quad.specs.Turns.{coordinate}
use Rattle.slice_quad.specs.Vectors.{vector_in, FitsWidth}
use Rattle.slice_quad.proofs.Diagonals.{stays}
use Rattle.slice_quad.proofs.Settling.{halfway_none}

-- ---- the matrix
module _ (t : Target) (h : IsUnit t) (v : Vector) (x : Assignment) where
  row : (b : Bool) → x t.target ≡ b → sum_of (times_entry ((mix_of t).rows b false) (v (put x t.target false))) (times_entry ((mix_of t).rows b true) (v (put x t.target true))) ≡ v x
  row true e =
      let p = v (put x t.target false) in let q = v (put x t.target true) in
      ap (λ (a : Entry). sum_of (times_entry a p) (times_entry t.high_high q)) h.high_low
      ∙ ap (λ (a : Entry). sum_of zero_quad (times_entry a q)) h.high_high
      ∙ zero-sum_of q
      ∙ ap v (put_same x t.target true e)
  row false e =
      let p = v (put x t.target false) in let q = v (put x t.target true) in
      ap (λ (a : Entry). sum_of (times_entry t.low_low p) (times_entry a q)) h.low_high
      ∙ ap (λ (a : Entry). sum_of (times_entry a p) zero_quad) h.low_low
      ∙ sum_of-zero p
      ∙ ap v (put_same x t.target false e)

  unit_entry : mixed (mix_of t) v x ≡ v x
  unfolding mixed
  unit_entry =
      let on = all_true (mix_of t).controls x in
      let new = sum_of (times_entry ((mix_of t).rows (x t.target) false) (v (put x t.target false))) (times_entry ((mix_of t).rows (x t.target) true) (v (put x t.target true))) in
      elim (cases_Bool on) [
        | inl y ↦ cond-true on new (elsewhere t.rooted (v x)) y ∙ row (x t.target) refl
        | inr n ↦ cond-false on new (elsewhere t.rooted (v x)) n ∙ stays t.rooted (v x) h.rooted
      ]

unit_vector : (t : Target) → IsUnit t → (v : Vector) → mixed (mix_of t) v ≡ v
unit_vector t h v = fun_ext (λ x. unit_entry t h v x)

pub unit_step : (s : Step) (controls : List Bool) (target : ℕ) (rows : List (List Entry)) (half : ℕ) (t : Target) → s ≡ steps.Mix controls target rows half → t ≡ target_with controls target rows half → IsUnit t → (v : Vector) → stepped s v ≡ v
unit_step s controls target rows half t is same h v = subst (λ r. stepped r v ≡ v) (sym is) (subst (λ r. mixed (mix_of r) v ≡ v) same (unit_vector t h v))

-- ---- the vector that stays
module _ (d : Diagram) (q : SliceQuad) (s : Step) (unit : (v : Vector) → stepped s v ≡ v) where
  value_same : (z : Coord) (x : Assignment) → value_at d (nodes_of q.four z) x ≡ coordinate z (vector_in d q.four x)
  value_same A x = refl
  value_same B x = refl
  value_same C x = refl
  value_same D x = refl

  pub unit_settled : half_of s ≡ 0 → ((z : Coord) → StandsIn d (nodes_of q.four z)) → (2 ≤ q.exponent → ((z : Coord) → AreEven d (nodes_of q.four z)) → ⊥) → IsSettled d (stepped s (vector_in d q.four)) (q.exponent + half_of s) q.four q.exponent
  unit_settled none stands ended =
      let v : Vector = vector_in d q.four in
      let same : q.exponent + half_of s ≡ q.exponent = omega (arith, none) in
      rw (unit v, same) (record { halfway = halfway_none d v q.exponent q.four (record { stands = stands; values = value_same }); ended = ended })

  within : (ns : List ℕ) (w : ℕ) (x : Assignment) → length ns ≤ w → IsWithin w (value_at d ns x)
  within ns w x le =
      let r : InRange (w - 1) (value_at d ns x) = range-wider (length ns - 1) (w - 1) (value_at d ns x) (omega (arith, le)) (value-in_range (length ns - 1) (digits_of d ns) x) in
      record { low = r.low; high = r.high }

  fits : (w : ℕ) → length q.four.a ≤ w → length q.four.b ≤ w → length q.four.c ≤ w → length q.four.d ≤ w → (z : Coord) (x : Assignment) → IsWithin w (coordinate z (vector_in d q.four x))
  fits w a b c e A x = within q.four.a w x a
  fits w a b c e B x = within q.four.b w x b
  fits w a b c e C x = within q.four.c w x c
  fits w a b c e D x = within q.four.d w x e

  pub unit_fits : (w : ℕ) → length q.four.a ≤ w → length q.four.b ≡ length q.four.a → length q.four.c ≡ length q.four.a → length q.four.d ≡ length q.four.a → FitsWidth w (stepped s (vector_in d q.four))
  unit_fits w a b c e =
      let v : Vector = vector_in d q.four in
      rw (unit v) (fits w a (omega (arith, a, b)) (omega (arith, a, c)) (omega (arith, a, e)))

pub none_true : (b : Bool) → not b ≡ true → b ≡ true → ⊥
none_true true off on = let q : false ≡ true = off in cc
none_true false off on = let q : false ≡ true = on in cc
