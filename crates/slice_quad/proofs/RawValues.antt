-- The values of raw.
use Rattle.std.proofs.Common.{◌≡◌, ℕ, suc, ◌-◌, ◌≤◌, Bool, length, refl, sym, ◌∙◌, ap, arith}
use Rattle.diagram_model.specs.Functions.{Assignment}
use Rattle.diagram_model.specs.Stores.{Diagram}
use Rattle.slice_vec.specs.Digits.{Digits, IsSteady, slice_value}
use Rattle.slice_vec.specs.Slices.{digits_of, value_at}
use Rattle.slice_vec.proofs.Bits.{steady-digits, value_on}
use Rattle.slice_quad.specs.declared.coord.Coord.{Coord}
use Rattle.slice_quad.specs.declared.coord.Coord.TheVariants.{A, B, C, D}
use Rattle.slice_quad.specs.declared.four.Four.{Four}
use Rattle.gate_set.specs.Matrix.{IsPower}
use Rattle.slice_quad.specs.Mix.{Mix, Vector, vector_of, mixed, raw}
use Rattle.slice_quad.specs.Fours.{nodes_of, digits_in, AreIntegers}
use Rattle.slice_quad.specs.Raws.{AreRaw}
use Rattle.slice_quad.specs.Vectors.{vector_in, AreValues}
use Rattle.slice_quad.proofs.MixLemmas.{raw-value}
use Rattle.slice_quad.proofs.DiagonalCalls.{steady_in}

-- the vector, by its bits
value_wide : (d : Diagram) (n : ℕ) (q : Four) (z : Coord) (x : Assignment) → AreIntegers d n q → slice_value (n - 1) (digits_in d q z) x ≡ value_at d (nodes_of q z) x
unfolding digits_in
value_wide d n q z x h = ap (λ (i : ℕ). slice_value (i - 1) (digits_of d (nodes_of q z)) x) (sym (h.width z))

pub vector_bits : (d : Diagram) (n : ℕ) (q : Four) → AreIntegers d n q → (x : Assignment) → vector_of (n - 1) (digits_in d q) x ≡ vector_in d q x
unfolding vector_of
vector_bits d n q h x = rw (value_wide d n q A x h, value_wide d n q B x h, value_wide d n q C x h, value_wide d n q D x h) refl

pub raw_values : (d e : Diagram) (m : Mix) (q f : Four) → ((r s : Bool) → IsPower (m.rows r s)) → AreIntegers d (length q.a) q → 1 ≤ length q.a → AreRaw e (length q.a) (raw m (digits_in d q)) f → AreValues e (mixed m (vector_of (length q.a - 1) (digits_in d q))) f
raw_values d e m q f powers h some r = record {
  stands = λ z. (r z).stands;
  values = λ z x.
      let k = length q.a - 1 in
      let s = raw m (digits_in d q) z in
      let ns = nodes_of f z in
      let is = r z in
      let wide = is.width in
      let begin = is.stands.some in
      let steady : IsSteady (length ns - 1) (digits_of e ns) = steady-digits e ns begin in
      sym (value_on (length ns - 1) (suc (suc k)) (digits_of e ns) x steady (omega (arith, wide, begin, some)))
      ∙ ap (λ (a : Digits). slice_value (suc (suc k)) a x) is.digits
      ∙ raw-value m k (digits_in d q) z x powers (steady_in d (length q.a) q h);
}

pub values_as : (e : Diagram) (m : Mix) (v w : Vector) (f : Four) → v ≡ w → AreValues e (mixed m v) f → AreValues e (mixed m w) f
values_as e m v w f same h = rw (sym same) h
