use Rattle.std.proofs.Common.{All, subst, ◌++◌, length-append, ◌≡◌, ◌<◌, ◌≤◌, ◌^◌, ◌*◌, ◌+◌, ℕ, List, Bool, [], length, take, get_or, ap, sym, refl, ◌∙◌, arith}
use Rattle.std.proofs.Math.Path.{ap₂}
use Rattle.std.proofs.Math.Pow.{pow_mono}
use Rattle.std.proofs.Math.Seq.{take-length}
use Rattle.std.proofs.lemmas.List.{get_or-append-add}
use Rattle.ring_omega.specs.declared.quad.Quad.{Quad}
use Rattle.ring_omega.specs.Ring.{sum_of, zero_quad}
use Rattle.ring_omega.proofs.RingLaws.{sum_of-zero}
use Rattle.ring_omega.proofs.BoundLemmas.{IsWithin-more}
use Rattle.bit_lists.specs.Lists.{place_of, bits_at, with_bits, all_lists}
use Rattle.bit_lists.proofs.Places.{listed, length-all_lists}
use Rattle.gate_set.specs.declared.gate.Gate.{Gate}
use Rattle.gate_set.specs.declared.entry.Entry.{Entry}
use Rattle.gate_set.specs.declared.entry.Entry.TheVariants.{Zero, Omega, Root2}
use Rattle.gate_set.specs.Matrix.{arity_of, times_entry, IsPower}
use Rattle.gate_set.specs.Shape.{IsPlaced, qubits_of}
use Rattle.gate_set.proofs.MatrixLemmas.{arity_of-few}
use Rattle.circuit_model.specs.Product.{sum_over}
use Rattle.circuit_model.specs.Vector.{at}
use Rattle.circuit_model.proofs.SumLemmas.{sum_over_more, length-with_bits}
use Rattle.quad_lists.specs.Sums.{quad_value}
use Rattle.comparison.specs.declared.turns.Side.{Side}
use Rattle.dense_matrix.specs.Sides.{own, put, entry_on, part}
use Rattle.dense_matrix.proofs.Terms.{own_at}
use Rattle.dense_matrix.proofs.step.block_after.Goals as goal

-- of two lists one after the other, the second
all_right : (P : ℕ → Type 0) (xs ys : List ℕ) → All P (xs ++ ys) → All P ys
all_right P xs ys h k d less = subst P (get_or-append-add xs ys k d) (h (length xs + k) d (omega (arith, less, length-append xs ys)))

own_below : (n : ℕ) (g : Gate) (on : List ℕ) → All (λ q. q < n) (qubits_of g) → on ≡ g.on → All (λ q. q < n) on
own_below n g on below is = subst (All (λ q. q < n)) (sym is) (all_right (λ q. q < n) g.extra g.on below)

pub row_of-bits-requires-clause-below : goal.row_of-bits-requires-clause-below
row_of-bits-requires-clause-below c = own_below c.args.qubits c.args.gate.now c.on-on.result.now c.requires.on.below c.on-on.ensures.on

pub place_with-other-requires-clause-below : goal.place_with-other-requires-clause-below
place_with-other-requires-clause-below c = own_below c.args.qubits c.args.gate.now c.on-on.result.now c.requires.on.below c.on-on.ensures.on

-- a matrix has as many rows as there are lists of the gate's bits
sized : (g : Gate) (side : ℕ) → IsPlaced g.kind g.extra g.on → side ≡ 2 ^ arity_of g.kind → side ≡ 2 ^ length g.on
sized g side placed e = e ∙ ap (λ k. 2 ^ k) (sym placed.count)

-- at most eight terms, each within 2^127
eight : (y side n : ℕ) → n ≤ 3 → side ≡ 2 ^ n → y < side → y * 2 ^ 127 ≤ 2 ^ 130
eight y side n few size lt =
    let most : 2 ^ n ≤ 2 ^ 3 = pow_mono {j = 3} few in
    omega arith

zero_entry : (e : Entry) → IsPower e → ((j : ℕ) → e ≡ Omega j → ⊥) → e ≡ Zero
zero_entry Zero p h = refl
zero_entry (Omega j) p h = absurd (h j refl)
zero_entry Root2 p h = absurd p

pub plus_turned-sum-requires-clause-bounded : goal.plus_turned-sum-requires-clause-bounded
plus_turned-sum-requires-clause-bounded c =
    let g = c.args.gate.now in
    let few : length g.on ≤ 3 = omega (arith, c.side-y-end.ensures.sound.count, arity_of-few g.kind) in
    let size : c.side-y-end.result ≡ 2 ^ length g.on = sized g _ c.side-y-end.ensures.sound c.side-y-end.ensures.value in
    IsWithin-more (c.terms.y * 2 ^ 127) (2 ^ 130) _ (eight _ _ _ few size c.terms-test.true) c.terms.invariant.bounded

-- the sum with one term more, from what was added for it
next_term : (side : Side) (g : Gate) (state : List Quad) (r c : List Bool) (y : ℕ) (sum next more : Quad) → y < 2 ^ length g.on
    → sum ≡ sum_over (take y (all_lists (length g.on))) (part side g state r c)
    → next ≡ sum_of sum more
    → more ≡ part side g state r c (get_or (all_lists (length g.on)) y [])
    → next ≡ sum_over (take (y + 1) (all_lists (length g.on))) (part side g state r c)
next_term side g state r c y sum next more lt e f h =
    let within : y < length (all_lists (length g.on)) = omega (arith, length-all_lists (length g.on)) in
    f ∙ ap₂ sum_of e h ∙ sym (sum_over_more (all_lists (length g.on)) y (part side g state r c) within)

pub terms-preserved : goal.terms-preserved
unfolding part
terms-preserved c =
    let side = c.args.side in
    let g = c.args.gate.now in
    let state = c.args.state.now in
    let m = 2 ^ 127 in
    let y = c.terms.y in
    let from = c.place_put-from.result in
    let q = get_or state from zero_quad in
    let j = c.in-Omega.j in
    let same : c.on-on.result.now ≡ g.on = c.on-on.ensures.on in
    let size : c.side-y-end.result ≡ 2 ^ length g.on = sized g _ c.side-y-end.ensures.sound c.side-y-end.ensures.value in
    let lt : y < 2 ^ length g.on = omega arith in
    let here = listed (length g.on) y [] lt in
    let b = get_or (all_lists (length g.on)) y [] in
    record {
      bounded = IsWithin-more (y * m + m) ((y + 1) * m) _ (omega arith) (c.plus_turned-sum.ensures.bounded (y * m) c.terms.invariant.bounded);
      value = λ r d lr ld er ed.
          let bits = own side r d in
          let (lo, at) = own_at side c.args.qubits r d c.args.row c.args.column lr ld er ed in
          let at' : place_of bits ≡ c.own-here.result = at ∙ sym c.own-here.ensures in
          let row : c.row_of-bits.result ≡ place_of (bits_at bits g.on) = sym (c.row_of-bits.ensures.value bits lo at') ∙ ap (λ o. place_of (bits_at bits o)) same in
          let z = with_bits bits g.on b in
          let lz : length z ≡ c.args.qubits = length-with_bits bits g.on b ∙ lo in
          let other : place_of z ≡ c.place_with-other.result =
          ap (λ o. place_of (with_bits bits o b)) (sym same) ∙ c.place_with-other.ensures.value bits b lo at' (here.0 ∙ ap (λ (o : List ℕ). length o) (sym same)) here.1 in
          let place : from ≡ place_of (put side r d z) = sym (c.place_put-from.ensures.value r d z lr ld lz er ed other) in
          let value : times_entry (Omega j) q ≡ part side g state r d b =
          ap₂ times_entry (sym c.in-Omega.is ∙ c.entry_on.ensures.value ∙ ap₂ (entry_on side g.kind) row (sym here.1)) (ap (λ i. get_or state i zero_quad) place) in
          next_term side g state r d y (quad_value c.terms.sum) (quad_value c.plus_turned-sum.result) (times_entry (Omega j) q) lt (c.terms.invariant.value r d lr ld er ed) c.plus_turned-sum.ensures.value value;
    }

pub terms-preserved-in_default : goal.terms-preserved-in_default
unfolding part
terms-preserved-in_default c =
    let side = c.args.side in
    let g = c.args.gate.now in
    let state = c.args.state.now in
    let y = c.terms.y in
    let same : c.on-on.result.now ≡ g.on = c.on-on.ensures.on in
    let size : c.side-y-end.result ≡ 2 ^ length g.on = sized g _ c.side-y-end.ensures.sound c.side-y-end.ensures.value in
    let lt : y < 2 ^ length g.on = omega arith in
    let here = listed (length g.on) y [] lt in
    let b = get_or (all_lists (length g.on)) y [] in
    let nothing : c.entry_on.result ≡ Zero = zero_entry c.entry_on.result c.entry_on.ensures.power c.in_default.not-Omega in
    record {
      bounded = IsWithin-more (y * 2 ^ 127) ((y + 1) * 2 ^ 127) _ (omega arith) c.terms.invariant.bounded;
      value = λ r d lr ld er ed.
          let bits = own side r d in
          let (lo, at) = own_at side c.args.qubits r d c.args.row c.args.column lr ld er ed in
          let at' : place_of bits ≡ c.own-here.result = at ∙ sym c.own-here.ensures in
          let row : c.row_of-bits.result ≡ place_of (bits_at bits g.on) = sym (c.row_of-bits.ensures.value bits lo at') ∙ ap (λ o. place_of (bits_at bits o)) same in
          let value : zero_quad ≡ part side g state r d b =
          ap (λ e. times_entry e (at_state side g state r d b)) (sym nothing ∙ c.entry_on.ensures.value ∙ ap₂ (entry_on side g.kind) row (sym here.1)) in
          next_term side g state r d y (quad_value c.terms.sum) (quad_value c.terms.sum) zero_quad lt (c.terms.invariant.value r d lr ld er ed) (sym (sum_of-zero (quad_value c.terms.sum))) value;
    }
  where
    at_state : Side → Gate → List Quad → List Bool → List Bool → List Bool → Quad
    at_state side g state r d b = at state (put side r d (with_bits (own side r d) g.on b))

pub returns : goal.returns
returns c = λ r d lr ld er ed.
    let g = c.args.gate.now in
    let size : c.side-y-end.result ≡ 2 ^ length g.on = sized g _ c.side-y-end.ensures.sound c.side-y-end.ensures.value in
    let all : c.terms.y ≡ length (all_lists (length g.on)) = omega (arith, length-all_lists (length g.on)) in
    c.terms.invariant.value r d lr ld er ed
    ∙ ap (λ l. sum_over l (part c.args.side g c.args.state.now r d)) (ap (λ k. take k (all_lists (length g.on))) all ∙ take-length (all_lists (length g.on)))
