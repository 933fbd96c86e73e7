use Rattle.std.proofs.Common.{inl, inr, ◌≡◌, ◌+◌, ℕ, List, Bool, true, false, cond, length, take, drop, nat_eq, ap, sym, ◌∙◌, arith}
use Rattle.std.proofs.lemmas.Bool.{eq-eqb}
use Rattle.std.proofs.lemmas.Bool.Decides.{eqb_tells}
use Rattle.std.proofs.lemmas.List.{length-drop, length-take-le, take-append-drop}
use Rattle.ring_omega.specs.Ring.{zero_quad}
use Rattle.bit_lists.specs.Lists.{place_of}
use Rattle.circuit_model.specs.Product.{same_bits}
use Rattle.comparison.proofs.Undo.{same_bits-places}
use Rattle.dense_matrix.proofs.matrix.scalar_entry.Goals as goal

-- the test of the places is that of the bits
tested : (n i j : ℕ) (x : List Bool) (b : Bool) → length x ≡ n + n → place_of (take n x) ≡ i → place_of (drop n x) ≡ j → nat_eq i j ≡ b → b ≡ same_bits (take n x) (drop n x)
tested n i j x b len ei ej e =
    let lr : length (take n x) ≡ n = length-take-le n x (omega arith) in
    let lc : length (drop n x) ≡ n = length-drop n x ∙ omega arith in
    sym e ∙ ap (λ k. nat_eq k j) (sym ei) ∙ ap (λ k. nat_eq (place_of (take n x)) k) (sym ej) ∙ same_bits-places (take n x) (drop n x) (lr ∙ sym lc)

pub returns-then-row_place-column_place : goal.returns-then-row_place-column_place
returns-then-row_place-column_place c = λ x len at.
    let n = c.args.qubits in
    let lr : length (take n x) ≡ n = length-take-le n x (omega arith) in
    let lc : length (drop n x) ≡ n = length-drop n x ∙ omega arith in
    let at' = ap place_of (take-append-drop n x) ∙ at in
    ap (λ b. cond b c.args.q zero_quad)
    (tested n c.row_place.result c.column_place.result x true len (c.row_place.ensures.value (take n x) (drop n x) lr lc at') (c.column_place.ensures.value (take n x) (drop n x) lr lc at')
    (eq-eqb c.row_place.result c.column_place.result c.if-row_place-column_place.true))

differ : (i j : ℕ) → (i ≡ j → ⊥) → nat_eq i j ≡ false
differ i j h = elim (eqb_tells i j) [ inl e ↦ absurd (h e.1) | inr e ↦ e.0 ]

pub returns-else-row_place-column_place : goal.returns-else-row_place-column_place
returns-else-row_place-column_place c = λ x len at.
    let n = c.args.qubits in
    let lr : length (take n x) ≡ n = length-take-le n x (omega arith) in
    let lc : length (drop n x) ≡ n = length-drop n x ∙ omega arith in
    let at' = ap place_of (take-append-drop n x) ∙ at in
    ap (λ b. cond b c.args.q zero_quad)
    (tested n c.row_place.result c.column_place.result x false len (c.row_place.ensures.value (take n x) (drop n x) lr lc at') (c.column_place.ensures.value (take n x) (drop n x) lr lc at')
    (differ c.row_place.result c.column_place.result c.if-row_place-column_place.false))
