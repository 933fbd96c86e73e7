-- The identity matrix, from its node.
use Rattle.std.proofs.Common.{◌≡◌, ℕ, ◌+◌, ◌-◌, ◌*◌, pos, Bool, true, false, cond, List, [], ◌∷◌, length, replicate, refl, sym, ◌∙◌, ap, arith, subst}
use mathlib.Core.Path.{fun_ext}
use Rattle.diagram_model.specs.Functions.{Assignment}
use Rattle.diagram_model.specs.Nodes.{value}
use Rattle.diagram_model.specs.Stores.{Diagram, IsLive, function_of}
use Rattle.diagram_ops.specs.Connectives.{number}
use Rattle.ring_omega.specs.Ring.{quad, zero_quad, one_quad}
use Rattle.slice_vec.specs.Slices.{StandsIn, value_at}
use Rattle.slice_vec.proofs.Zeros.{zero_stands, zero_values}
use Rattle.slice_quad.specs.declared.coord.Coord.{Coord}
use Rattle.slice_quad.specs.declared.coord.Coord.TheVariants.{A, B, C, D}
use Rattle.slice_quad.specs.declared.four.Four.{Four}
use Rattle.slice_quad.specs.declared.quad.SliceQuad.{SliceQuad}
use Rattle.slice_quad.specs.Fours.{nodes_of}
use Rattle.slice_quad.specs.Vectors.{vector_in}
use Rattle.slice_quad.specs.RowsColumns.{row_equals_column}
use Rattle.slice_quad.specs.Identities.{IsIdentity}
use Rattle.slice_quad.specs.IdentityBuilt.{IsDiagonalFrom}
use Rattle.slice_quad.proofs.Starts.{node_value, pair_stands, quad_as}

-- 1 where the bit is, and else 0
one_where : (b : Bool) → quad (pos 0) (pos 0) (pos 0) (pos (number b)) ≡ cond b one_quad zero_quad
one_where true = refl
one_where false = refl

-- all qubits are done
whole : (e : Diagram) (n m : ℕ) → IsDiagonalFrom e n 0 m → (y : Assignment) → value e.slots e.order y m ≡ row_equals_column n y
whole e n m h y =
    let same : (λ (v : ℕ). y (2 * 0 + v)) ≡ y = fun_ext (λ v. let e : 2 * 0 + v ≡ v = omega arith in ap y e) in
    h.is y ∙ ap (λ (f : Assignment). row_equals_column (n - 0) f) same ∙ ap (λ i. row_equals_column i y) (let e : n - 0 ≡ n = omega arith in e)

pub identity_of : (e : Diagram) (n m : ℕ) (q : SliceQuad) → IsDiagonalFrom e n 0 m → q.four.a ≡ replicate 2 0 → q.four.b ≡ replicate 2 0 → q.four.c ≡ replicate 2 0 → q.four.d ≡ m ∷ 0 ∷ [] → q.exponent ≡ 0 → q.kept.0 ≡ m → IsIdentity e n q
unfolding function_of
identity_of e n m q h ea eb ec ed er ek =
    let f = q.four in
    let sound = h.nodes.sound in
    let zeros : (ns : List ℕ) (y : Assignment) → ns ≡ replicate 2 0 → value_at e ns y ≡ pos 0 = λ ns y eq. zero_values e 2 ns y eq (omega arith) sound in
    let at : (y : Assignment) (b : Bool) → value e.slots e.order y m ≡ b → vector_in e f y ≡ quad (pos 0) (pos 0) (pos 0) (pos (number b)) = λ y b is.
    quad_as (value_at e f.a y) (value_at e f.b y) (value_at e f.c y) (value_at e f.d y) (zeros f.a y ea) (zeros f.b y eb) (zeros f.c y ec)
    (pos (number b)) (ap (λ ns. value_at e ns y) ed ∙ node_value e m y b sound is) in
    let zero_in : (ns : List ℕ) → ns ≡ replicate 2 0 → StandsIn e ns = λ ns eq. zero_stands e 2 ns eq (omega arith) (omega arith) in
    let last : StandsIn e f.d = subst (λ ns. StandsIn e ns) (sym ed) (pair_stands e m h.live) in
    let count = h.nodes.count in
    record {
      stands = record { integers = stand f (zero_in f.a ea) (zero_in f.b eb) (zero_in f.c ec) last; kept = subst (IsLive e) (sym ek) h.live };
      width = ap (λ (l : List ℕ). length l) ea;
      entries = λ y. at y (row_equals_column n y) (whole e n m h y) ∙ one_where (row_equals_column n y);
      exponent = er;
      kept = fun_ext (λ y. ap (λ i. value e.slots e.order y i) ek ∙ whole e n m h y);
      held = count ∙ (let e : 3 * (n - 0) ≡ 3 * n = omega arith in e);
    }
  where
    stand : (f : Four) → StandsIn e f.a → StandsIn e f.b → StandsIn e f.c → StandsIn e f.d → (z : Coord) → StandsIn e (nodes_of f z)
    stand f a b c d A = a
    stand f a b c d B = b
    stand f a b c d C = c
    stand f a b c d D = d
