-- A step from the gate's nodes on.
use Rattle.std.proofs.Common.{◌≡◌, ℕ, ◌-◌, ◌<◌, ◌≤◌, length, refl, sym, ◌∙◌, ap}
use mathlib.Core.Path.{fun_ext}
use Rattle.diagram_model.specs.Functions.{Assignment}
use Rattle.diagram_model.specs.Stores.{Diagram}
use Rattle.diagram_ops.specs.Diagrams.{StoreAndCache, IsConsistent}
use Rattle.diagram_ops.specs.Made.{Property}
use Rattle.slice_vec.specs.Growing.{Grows}
use Rattle.slice_vec.proofs.Bits.{digits_on}
use Rattle.slice_vec.proofs.Growing.{grows_none}
use Rattle.slice_quad.specs.declared.coord.Coord.TheVariants.{A, B, C, D}
use Rattle.slice_quad.specs.declared.four.Four.{Four}
use Rattle.slice_quad.specs.declared.gate.Gate.{Gate}
use Rattle.slice_quad.specs.declared.gate.Target.{Target}
use Rattle.slice_quad.specs.Mix.{Vector, mixed, raw, vector_of}
use Rattle.slice_quad.specs.Fours.{digits_in, mix_of, AreIntegers, AreItsNodes}
use Rattle.slice_quad.specs.Raws.{AreReduced, IsMix, IsMixable, AreRaw}
use Rattle.slice_quad.specs.Vectors.{vector_in, AreValues}
use Rattle.slice_quad.specs.Variables.{IsGate}
use Rattle.slice_quad.proofs.Raws.{powers_of, mix_serves, integers_on}
use Rattle.slice_quad.proofs.Wanted.{wanted_gate}
use Rattle.slice_quad.proofs.RawValues.{raw_values, values_as, vector_bits}
use Rattle.slice_quad.proofs.Serving.{Serves}

-- the gate's nodes are among those of the step
pub gate_serves : (u : StoreAndCache) (t : Target) (q : Four) → IsConsistent u → Serves u u (IsMix u.store t q) (IsGate u.store t)
gate_serves u t q s = record { grows = grows_none u (IsMix u.store t q) s; wanted = wanted_gate u.store.order (length q.a) (mix_of t) (digits_in u.store q) }

-- the vector stays
pub vector_on : (u v : StoreAndCache) (Is : Property) (n : ℕ) (q : Four) → IsConsistent u → Grows u Is v → AreIntegers u.store n q → vector_in v.store q ≡ vector_in u.store q
vector_on u v Is n q s g h = fun_ext (λ x. at x)
  where
    at : (x : Assignment) → vector_in v.store q x ≡ vector_in u.store q x
    at x = rw (digits_on u v Is q.a s g (h.stands A), digits_on u v Is q.b s g (h.stands B), digits_on u v Is q.c s g (h.stands C), digits_on u v Is q.d s g (h.stands D)) refl

-- by another name of the target
pub reduced_as : (t r : Target) → r ≡ t → AreReduced t → AreReduced r
reduced_as t r e h = rw e h

pub mixable_at : (u v : StoreAndCache) (Is : Property) (t : Target) (g : Gate) (q : Four) → Grows u Is v → g.target ≡ t → AreItsNodes v.store g → AreReduced t → AreIntegers u.store (length q.a) q → 1 ≤ length q.a → length q.a ≤ 128 → t.target < length u.store.order → IsMixable v.store g q
mixable_at u v Is t g q k e nodes reduced whole some few within = record {
  nodes = nodes;
  reduced = reduced_as t g.target e reduced;
  whole = integers_on u v Is (length q.a) q k whole;
  some = some;
  few = few;
  within = rw (e, k.extends.order) within;
}

-- the clauses of raw, by the store at the start and by the target
module _ (u v : StoreAndCache) (t r : Target) (q : Four) (s : IsConsistent u) (h : AreIntegers u.store (length q.a) q) (k : Grows u (IsMix u.store t q) v) (e : r ≡ t) where
  abbrev V : Vector
  V = vector_in u.store q

  same : mixed (mix_of r) (vector_in v.store q) ≡ mixed (mix_of t) V
  same = ap (λ (a : Target). mixed (mix_of a) (vector_in v.store q)) e ∙ ap (λ (w : Vector). mixed (mix_of t) w) (vector_on u v (IsMix u.store t q) (length q.a) q s k h)

  pub raw_serves : Serves u v (IsMix u.store t q) (IsMix v.store r q)
  raw_serves = rw e (mix_serves u v t q s k h)

  pub raw_vector : (d : Diagram) (f : Four) → AreReduced r → AreRaw d (length q.a) (raw (mix_of r) (digits_in v.store q)) f → 1 ≤ length q.a → AreValues d (mixed (mix_of t) V) f
  raw_vector d f powers is some =
      let whole = integers_on u v (IsMix u.store t q) (length q.a) q k h in
      let values : AreValues d (mixed (mix_of r) (vector_of (length q.a - 1) (digits_in v.store q))) f = raw_values v.store d (mix_of r) q f (powers_of r powers) whole some is in
      let given : AreValues d (mixed (mix_of r) (vector_in v.store q)) f = values_as d (mix_of r) (vector_of (length q.a - 1) (digits_in v.store q)) (vector_in v.store q) f (fun_ext (λ x. vector_bits v.store (length q.a) q whole x)) values in
      rw (sym same) given
