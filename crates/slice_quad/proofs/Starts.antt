-- The vector of a basis state, from its node.
use Rattle.std.proofs.Common.{◌≡◌, ◌≢◌, ◌⊎◌, ℕ, zero, suc, ◌+◌, ◌*◌, ◌^◌, ◌<◌, ℤ, pos, ◌-ℤ◌, Bool, true, false, List, [], ◌∷◌, length, replicate, get_or, inl, inr, refl, sym, ◌∙◌, ap, arith, subst}
use Rattle.std.proofs.lemmas.Int.{ints}
use Rattle.bit_lists.specs.Orders.{has}
use Rattle.diagram_model.specs.Functions.{Assignment, bit}
use Rattle.diagram_model.specs.Nodes.{value, IsLiveIn}
use Rattle.diagram_model.specs.Stores.{Diagram, IsSound, IsLive, function_of}
use Rattle.diagram_model.proofs.Values.{value-small}
use Rattle.diagram_ops.specs.Connectives.{number}
use Rattle.ring_omega.specs.Ring.{quad}
use Rattle.slice_vec.specs.Digits.{low_sum, slice_value}
use Rattle.slice_vec.specs.Slices.{StandsIn, digits_of, value_at}
use Rattle.slice_vec.proofs.Zeros.{zero_stands, zero_values}
use Rattle.slice_quad.specs.declared.coord.Coord.{Coord}
use Rattle.slice_quad.specs.declared.coord.Coord.TheVariants.{A, B, C, D}
use Rattle.slice_quad.specs.declared.four.Four.{Four}
use Rattle.slice_quad.specs.declared.quad.SliceQuad.{SliceQuad}
use Rattle.slice_quad.specs.Fours.{nodes_of}
use Rattle.slice_quad.specs.Vectors.{vector_in}
use Rattle.slice_quad.specs.Walks.{entries_in}
use Rattle.slice_quad.specs.Started.{IsBuilt, IsStart}

differs : (x y : List Bool) → length x ≡ length y → (y ≡ x) ⊎ ((i : ℕ) × (i < length x) × (bit y i ≢ bit x i))
differs [] [] len = inl refl
differs [] (b ∷ y) len = absurd (omega arith)
differs (a ∷ x) [] len = absurd (omega arith)
differs (true ∷ x) (false ∷ y) len = inr (0, omega arith, λ e. cc)
differs (false ∷ x) (true ∷ y) len = inr (0, omega arith, λ e. cc)
differs (true ∷ x) (true ∷ y) len = elim (differs x y (omega (arith, len))) [
  | inl e ↦ inl (ap (λ l. true ∷ l) e)
  | inr h ↦ let lt = h.1 in inr (suc h.0, omega (arith, lt), h.2)
]
differs (false ∷ x) (false ∷ y) len = elim (differs x y (omega (arith, len))) [
  | inl e ↦ inl (ap (λ l. false ∷ l) e)
  | inr h ↦ let lt = h.1 in inr (suc h.0, omega (arith, lt), h.2)
]

pub node_value : (e : Diagram) (n : ℕ) (y : Assignment) (b : Bool) → IsSound e → value e.slots e.order y n ≡ b → value_at e (n ∷ 0 ∷ []) y ≡ pos (number b)
unfolding slice_value low_sum digits_of function_of
node_value e n y b sound is =
    let z = value-small e.slots (length e.order) e.order 0 sound.diagram (omega arith) y in
    ap (λ c. pos (0 + 2 ^ 0 * number c) -ℤ pos (2 ^ 1 * number (value e.slots e.order y 0))) is
    ∙ ap (λ c. pos (0 + 2 ^ 0 * number b) -ℤ pos (2 ^ 1 * number c)) z
    ∙ (let h : pos (0 + 1 * number b) -ℤ pos (2 * 0) ≡ pos (number b) = omega (arith, ints) in h)

pub pair_stands : (e : Diagram) (n : ℕ) → IsLive e n → StandsIn e (n ∷ 0 ∷ [])
pair_stands e n live = record { some = omega arith; few = omega arith; live = each }
  where
    each : (i : ℕ) → i < 2 → IsLive e (get_or (n ∷ 0 ∷ []) i 0)
    each zero lt = live
    each (suc zero) lt = inl (omega arith)
    each (suc (suc i)) lt = absurd (omega arith)

pub quad_as : (a b c d : ℤ) → a ≡ pos 0 → b ≡ pos 0 → c ≡ pos 0 → (z : ℤ) → d ≡ z → quad a b c d ≡ quad (pos 0) (pos 0) (pos 0) z
quad_as a b c d ea eb ec z ed = rw (ea, eb, ec, ed) refl

pub start_of : (d e : Diagram) (x : List Bool) (n : ℕ) (q : SliceQuad) → IsBuilt d e x 0 n → length x ≡ length d.order → q.four.a ≡ replicate 2 0 → q.four.b ≡ replicate 2 0 → q.four.c ≡ replicate 2 0 → q.four.d ≡ n ∷ 0 ∷ [] → q.exponent ≡ 0 → q.kept.0 ≡ 0 → IsStart e x q
unfolding entries_in
start_of d e x n q h len ea eb ec ed er ek =
    let long : length d.order ≡ length e.order = ap (λ (o : List ℕ). length o) (sym h.order) in
    let live : IsLive e n = subst (λ (o : List ℕ). IsLiveIn e.slots o n) (sym h.order) h.live in
    let f = q.four in
    let zeros : (ns : List ℕ) (y : Assignment) → ns ≡ replicate 2 0 → value_at e ns y ≡ pos 0 = λ ns y eq. zero_values e 2 ns y eq (omega arith) h.sound in
    let at : (y : List Bool) (b : Bool) → value e.slots e.order (bit y) n ≡ b → vector_in e f (bit y) ≡ quad (pos 0) (pos 0) (pos 0) (pos (number b)) = λ y b is.
    quad_as (value_at e f.a (bit y)) (value_at e f.b (bit y)) (value_at e f.c (bit y)) (value_at e f.d (bit y)) (zeros f.a (bit y) ea) (zeros f.b (bit y) eb) (zeros f.c (bit y) ec)
    (pos (number b)) (ap (λ ns. value_at e ns (bit y)) ed ∙ node_value e n (bit y) b h.sound is) in
    let zero_in : (ns : List ℕ) → ns ≡ replicate 2 0 → StandsIn e ns = λ ns eq. zero_stands e 2 ns eq (omega arith) (omega arith) in
    let last : StandsIn e f.d = subst (λ ns. StandsIn e ns) (sym ed) (pair_stands e n live) in
    let c = h.count in
    record {
      stands = record { integers = stand f (zero_in f.a ea) (zero_in f.b eb) (zero_in f.c ec) last; kept = rw ek (false_live e) };
      width = ap (λ (l : List ℕ). length l) ea;
      there = at x true (h.on (bit x) (λ v inside. refl));
      elsewhere = λ y ylong ne. elim (differs x y (sym ylong)) [
        | inl same ↦ absurd (ne same)
        | inr r ↦
            let lt = r.1 in
            let inside : has d.order r.0 ≡ true = ap (λ (o : List ℕ). has o r.0) (sym h.order) ∙ h.sound.all r.0 (omega (arith, lt, len, long)) in
            at y false (h.off (bit y) r.0 inside r.2)
      ];
      exponent = er;
      kept = ek;
      held = omega (arith, c, len);
    }
  where
    false_live : (e : Diagram) → IsLive e 0
    false_live e = inl (omega arith)

    stand : (f : Four) → StandsIn e f.a → StandsIn e f.b → StandsIn e f.c → StandsIn e f.d → (z : Coord) → StandsIn e (nodes_of f z)
    stand f a b c d A = a
    stand f a b c d B = b
    stand f a b c d C = c
    stand f a b c d D = d
