use Rattle.std.proofs.Common.{All, subst, ◌++◌, length-append, ◌≡◌, ◌<◌, ◌≤◌, ◌^◌, ◌*◌, ◌+◌, ℕ, List, Bool, [], length, take, get_or, ap, sym, refl, ◌∙◌, arith}
use Rattle.std.proofs.Math.Path.{ap₂}
use Rattle.std.proofs.Math.Pow.{pow_mono}
use Rattle.std.proofs.Math.Seq.{take-length}
use Rattle.ring_omega.specs.declared.quad.Quad.{Quad}
use Rattle.ring_omega.specs.Ring.{sum_of, zero_quad}
use Rattle.ring_omega.proofs.RingLaws.{sum_of-zero}
use Rattle.ring_omega.proofs.BoundLemmas.{IsWithin-more}
use Rattle.bit_lists.specs.Lists.{place_of, bits_at, with_bits, all_lists}
use Rattle.bit_lists.proofs.Places.{listed, length-all_lists}
use Rattle.gate_set.specs.declared.gate.Gate.{Gate}
use Rattle.gate_set.specs.declared.entry.Entry.{Entry}
use Rattle.gate_set.specs.declared.entry.Entry.TheVariants.{Zero, Omega, Root2}
use Rattle.gate_set.specs.Matrix.{arity_of, entry_of, times_entry, IsPower}
use Rattle.gate_set.proofs.MatrixLemmas.{arity_of-few}
use Rattle.std.proofs.lemmas.List.{get_or-append-add}
use Rattle.gate_set.specs.Shape.{IsPlaced, qubits_of}
use Rattle.circuit_model.specs.Product.{sum_over}
use Rattle.circuit_model.specs.Vector.{at}
use Rattle.circuit_model.proofs.SumLemmas.{sum_over_more}
use Rattle.quad_lists.specs.Sums.{quad_value}
use Rattle.amp_dense.proofs.step.block_after.Goals as goal

-- of two lists one after the other, the second
all_right : (P : ℕ → Type 0) (xs ys : List ℕ) → All P (xs ++ ys) → All P ys
all_right P xs ys h k d less = subst P (get_or-append-add xs ys k d) (h (length xs + k) d (omega (arith, less, length-append xs ys)))

own_below : (n : ℕ) (g : Gate) (on : List ℕ) → All (λ q. q < n) (qubits_of g) → on ≡ g.on → All (λ q. q < n) on
own_below n g on below is = subst (All (λ q. q < n)) (sym is) (all_right (λ q. q < n) g.extra g.on below)

pub row_of-row-requires-clause-below : goal.row_of-row-requires-clause-below
row_of-row-requires-clause-below c = own_below c.args.qubits c.args.gate.now c.on-on.result.now c.requires.on.below c.on-on.ensures.on

pub place_with-from-requires-clause-below : goal.place_with-from-requires-clause-below
place_with-from-requires-clause-below c = own_below c.args.qubits c.args.gate.now c.on-on.result.now c.requires.on.below c.on-on.ensures.on

-- one term of the sum
part : Gate → List Quad → List Bool → List Bool → Quad
part g state x y = times_entry (entry_of g.kind (place_of (bits_at x g.on)) (place_of y)) (at state (with_bits x g.on y))

-- a matrix has as many rows as there are lists of the gate's bits
sized : (g : Gate) (side : ℕ) → IsPlaced g.kind g.extra g.on → side ≡ 2 ^ arity_of g.kind → side ≡ 2 ^ length g.on
sized g side placed e = e ∙ ap (λ k. 2 ^ k) (sym placed.count)

-- at most eight terms, each within 2^127
eight : (col side n : ℕ) → n ≤ 3 → side ≡ 2 ^ n → col < side → col * 2 ^ 127 ≤ 2 ^ 130
eight col side n few size lt =
    let most : 2 ^ n ≤ 2 ^ 3 = pow_mono {j = 3} few in
    omega arith

zero_entry : (e : Entry) → IsPower e → ((j : ℕ) → e ≡ Omega j → ⊥) → e ≡ Zero
zero_entry Zero p h = refl
zero_entry (Omega j) p h = absurd (h j refl)
zero_entry Root2 p h = absurd p

pub plus_turned-sum-requires-clause-bounded : goal.plus_turned-sum-requires-clause-bounded
plus_turned-sum-requires-clause-bounded c =
    let g = c.args.gate.now in
    let few : length g.on ≤ 3 = omega (arith, c.side-col-end.ensures.sound.count, arity_of-few g.kind) in
    let size : c.side-col-end.result ≡ 2 ^ length g.on = sized g _ c.side-col-end.ensures.sound c.side-col-end.ensures.value in
    IsWithin-more (c.loop-col.col * 2 ^ 127) (2 ^ 130) _ (eight _ _ _ few size c.loop-col-test.true) c.loop-col.invariant.bounded

-- the sum with one column more, from what was added for it
next_column : (g : Gate) (state : List Quad) (x : List Bool) (col : ℕ) (sum next more : Quad) → col < 2 ^ length g.on
    → sum ≡ sum_over (take col (all_lists (length g.on))) (part g state x)
    → next ≡ sum_of sum more
    → more ≡ part g state x (get_or (all_lists (length g.on)) col [])
    → next ≡ sum_over (take (col + 1) (all_lists (length g.on))) (part g state x)
next_column g state x col sum next more lt e f h =
    let within : col < length (all_lists (length g.on)) = omega (arith, length-all_lists (length g.on)) in
    f ∙ ap₂ sum_of e h ∙ sym (sum_over_more (all_lists (length g.on)) col (part g state x) within)

pub loop-col-preserved : goal.loop-col-preserved
unfolding part
loop-col-preserved c =
    let g = c.args.gate.now in
    let state = c.args.state.now in
    let m = 2 ^ 127 in
    let col = c.loop-col.col in
    let from = c.place_with-from.result in
    let q = get_or state from zero_quad in
    let j = c.in-Omega.j in
    let same : c.on-on.result.now ≡ g.on = c.on-on.ensures.on in
    let size : c.side-col-end.result ≡ 2 ^ length g.on = sized g _ c.side-col-end.ensures.sound c.side-col-end.ensures.value in
    let lt : col < 2 ^ length g.on = omega arith in
    let here = listed (length g.on) col [] lt in
    let y = get_or (all_lists (length g.on)) col [] in
    record {
      bounded =
          IsWithin-more (col * m + m) ((col + 1) * m) _ (omega arith) (c.plus_turned-sum.ensures.bounded (col * m) c.loop-col.invariant.bounded);
      value = λ x len at'.
          let row : c.row_of-row.result ≡ place_of (bits_at x g.on) = sym (c.row_of-row.ensures.value x len at') ∙ ap (λ o. place_of (bits_at x o)) same in
          let place : from ≡ place_of (with_bits x g.on y) =
          sym (c.place_with-from.ensures.value x y len at' (here.0 ∙ ap (λ (o : List ℕ). length o) (sym same)) here.1) ∙ ap (λ o. place_of (with_bits x o y)) same in
          let value : times_entry (Omega j) q ≡ part g state x y =
          ap₂ times_entry (sym c.in-Omega.is ∙ c.block_entry.ensures.value ∙ ap₂ (entry_of g.kind) row (sym here.1)) (ap (λ i. get_or state i zero_quad) place) in
          next_column g state x col (quad_value c.loop-col.sum) (quad_value c.plus_turned-sum.result) (times_entry (Omega j) q) lt (c.loop-col.invariant.value x len at') c.plus_turned-sum.ensures.value value;
    }

pub loop-col-preserved-in_default : goal.loop-col-preserved-in_default
unfolding part
loop-col-preserved-in_default c =
    let g = c.args.gate.now in
    let state = c.args.state.now in
    let col = c.loop-col.col in
    let same : c.on-on.result.now ≡ g.on = c.on-on.ensures.on in
    let size : c.side-col-end.result ≡ 2 ^ length g.on = sized g _ c.side-col-end.ensures.sound c.side-col-end.ensures.value in
    let lt : col < 2 ^ length g.on = omega arith in
    let here = listed (length g.on) col [] lt in
    let y = get_or (all_lists (length g.on)) col [] in
    let nothing : c.block_entry.result ≡ Zero = zero_entry c.block_entry.result c.block_entry.ensures.power c.in_default.not-Omega in
    record {
      bounded = IsWithin-more (col * 2 ^ 127) ((col + 1) * 2 ^ 127) _ (omega arith) c.loop-col.invariant.bounded;
      value = λ x len at'.
          let row : c.row_of-row.result ≡ place_of (bits_at x g.on) = sym (c.row_of-row.ensures.value x len at') ∙ ap (λ o. place_of (bits_at x o)) same in
          let value : zero_quad ≡ part g state x y =
          ap (λ e. times_entry e (at state (with_bits x g.on y))) (sym nothing ∙ c.block_entry.ensures.value ∙ ap₂ (entry_of g.kind) row (sym here.1)) in
          next_column g state x col (quad_value c.loop-col.sum) (quad_value c.loop-col.sum) zero_quad lt (c.loop-col.invariant.value x len at') (sym (sum_of-zero (quad_value c.loop-col.sum))) value;
    }

pub returns : goal.returns
unfolding part
returns c = λ x len at'.
    let g = c.args.gate.now in
    let size : c.side-col-end.result ≡ 2 ^ length g.on = sized g _ c.side-col-end.ensures.sound c.side-col-end.ensures.value in
    let all : c.loop-col.col ≡ length (all_lists (length g.on)) = omega (arith, length-all_lists (length g.on)) in
    c.loop-col.invariant.value x len at'
    ∙ ap (λ l. sum_over l (part g c.args.state.now x)) (ap (λ k. take k (all_lists (length g.on))) all ∙ take-length (all_lists (length g.on)))
