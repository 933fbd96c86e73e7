-- The bits of raw stand for the gate's matrix times the vector.
use Rattle.std.proofs.Common.{◌≡◌, ℕ, zero, suc, ℤ, pos, ◌+ℤ◌, ◌-ℤ◌, neg_ℤ, Bool, true, false, cond, inl, inr, refl, sym, ◌∙◌, ap, arith}
use Rattle.std.specs.Prelude.{not}
use Rattle.std.proofs.lemmas.Int.{ints}
use Rattle.std.proofs.lemmas.Bool.{cases_Bool, cond-true, cond-false}
use Rattle.diagram_model.specs.Functions.{put}
use Rattle.slice_vec.specs.Digits.{low_sum, slice_value, IsSteady, chosen, fixed, negated}
use Rattle.slice_vec.proofs.DigitLemmas.{value-steady, value-sum, value-negated, value-chosen, value-fixed, steady-negated, steady-chosen, steady-fixed}
use Rattle.ring_omega.specs.declared.quad.Quad.{Quad}
use Rattle.ring_omega.specs.Ring.{zero_quad, sum_of, product_of, omega_unit, root_of_two, times_power}
use Rattle.ring_omega.proofs.RingLemmas.{times_root-is}
use Rattle.slice_quad.specs.declared.coord.Coord.{Coord}
use Rattle.slice_quad.specs.declared.coord.Coord.TheVariants.{A, B, C, D}
use Rattle.gate_set.specs.declared.entry.Entry.{Entry}
use Rattle.gate_set.specs.declared.entry.Entry.TheVariants.{Zero, Omega, Root2}
use Rattle.slice_quad.specs.Turns.{coordinate, turn, root_turn, signed}
use Rattle.gate_set.specs.Matrix.{times_entry, IsPower}
use Rattle.slice_quad.specs.Mix.{Mix, all_true, elsewhere, mixed, Coordinates, vector_of, zero_digits, entry_digits, entry_negates, from_row, from_target, old_part, old_negates, term, negates, signed_term, raw}

-- times ω, coordinate by coordinate
omega_a : (q : Quad) → (product_of q omega_unit).a ≡ q.b
unfolding product_of
omega_a q = omega (arith, ints)

-- the second coordinate after ω
omega_b : (q : Quad) → (product_of q omega_unit).b ≡ q.c
unfolding product_of
omega_b q = omega (arith, ints)

-- the third
omega_c : (q : Quad) → (product_of q omega_unit).c ≡ q.d
unfolding product_of
omega_c q = omega (arith, ints)

-- the last, negated
omega_d : (q : Quad) → (product_of q omega_unit).d ≡ neg_ℤ q.a
unfolding product_of
omega_d q = omega (arith, ints)

-- negated once more
signed_not : (b : Bool) (z : ℤ) → neg_ℤ (signed b z) ≡ signed (not b) z
signed_not true z = omega (arith, ints)
signed_not false z = refl

-- Each coordinate of q times a power of ω is, up to its sign, a coordinate of q.
pub turn-law : (j : ℕ) (z : Coord) (q : Quad) → coordinate z (times_power omega_unit j q) ≡ signed (turn j z).negated (coordinate (turn j z).from q)
unfolding turn
turn-law zero z q = refl
turn-law (suc j) A q = omega_a (times_power omega_unit j q) ∙ turn-law j B q
turn-law (suc j) B q = omega_b (times_power omega_unit j q) ∙ turn-law j C q
turn-law (suc j) C q = omega_c (times_power omega_unit j q) ∙ turn-law j D q
turn-law (suc j) D q = omega_d (times_power omega_unit j q) ∙ ap neg_ℤ (turn-law j A q) ∙ signed_not (turn j A).negated (coordinate (turn j A).from q)

-- values of zero bits
low_sum-zero : (n : ℕ) (x : ℕ → Bool) → low_sum n zero_digits x ≡ 0
unfolding low_sum zero_digits
low_sum-zero zero x = refl
low_sum-zero (suc n) x = let h = low_sum-zero n x in omega (arith, h)

-- zero bits have the value 0
pub value-zero : (k : ℕ) (x : ℕ → Bool) → slice_value k zero_digits x ≡ pos 0
unfolding slice_value zero_digits
value-zero k x = let h = low_sum-zero k x in omega (arith, ints, h)

-- a coordinate of the vector that bits stand for
pub coordinate-vector : (k : ℕ) (q : Coordinates) (z : Coord) (x : ℕ → Bool) → coordinate z (vector_of k q x) ≡ slice_value k (q z) x
unfolding vector_of
coordinate-vector k q A x = refl
coordinate-vector k q B x = refl
coordinate-vector k q C x = refl
coordinate-vector k q D x = refl

-- coordinates of a sum
pub coordinate-sum : (z : Coord) (p q : Quad) → coordinate z (sum_of p q) ≡ coordinate z p +ℤ coordinate z q
unfolding sum_of
coordinate-sum A p q = refl
coordinate-sum B p q = refl
coordinate-sum C p q = refl
coordinate-sum D p q = refl

-- coordinates of 0
pub coordinate-zero : (z : Coord) → coordinate z zero_quad ≡ pos 0
coordinate-zero A = refl
coordinate-zero B = refl
coordinate-zero C = refl
coordinate-zero D = refl

-- an entry times a quadruple of the vector
pub entry_value : (e : Entry) (k : ℕ) (q : Coordinates) (z : Coord) (x : ℕ → Bool) → IsPower e → signed (entry_negates e z) (slice_value k (entry_digits e z q) x) ≡ coordinate z (times_entry e (vector_of k q x))
unfolding entry_negates entry_digits
entry_value Zero k q z x power = value-zero k x ∙ sym (coordinate-zero z)
entry_value (Omega j) k q z x power = ap (signed (turn j z).negated) (sym (coordinate-vector k q (turn j z).from x)) ∙ sym (turn-law j z (vector_of k q x))
entry_value Root2 k q z x power = absurd power

-- steadiness
pub steady-zero : (k : ℕ) → IsSteady k zero_digits
unfolding zero_digits
steady-zero k i le = refl

-- what an entry brings is steady
pub steady-entry : (e : Entry) (k : ℕ) (q : Coordinates) (z : Coord) → ((y : Coord) → IsSteady k (q y)) → IsSteady k (entry_digits e z q)
unfolding entry_digits
steady-entry Zero k q z h = steady-zero k
steady-entry (Omega j) k q z h = h (turn j z).from
steady-entry Root2 k q z h = steady-zero k

-- the old part is steady
steady-old : (rooted s : Bool) (k : ℕ) (q : Coordinates) (z : Coord) → ((y : Coord) → IsSteady k (q y)) → IsSteady k (old_part rooted q z s)
unfolding old_part
steady-old true s k q z h = h (root_turn z s).from
steady-old false true k q z h = steady-zero k
steady-old false false k q z h = h z

-- a term is steady
pub steady-term : (m : Mix) (k : ℕ) (q : Coordinates) (z : Coord) (s : Bool) → ((y : Coord) → IsSteady k (q y)) → IsSteady k (term m q z s)
unfolding term from_target from_row
steady-term m k q z s h =
    steady-chosen k (all_true m.controls) (chosen (λ x. x m.target) (fixed m.target s (entry_digits (m.rows true s) z q)) (fixed m.target s (entry_digits (m.rows false s) z q))) (old_part m.rooted q z s)
    (steady-chosen k (λ x. x m.target) (fixed m.target s (entry_digits (m.rows true s) z q)) (fixed m.target s (entry_digits (m.rows false s) z q))
    (steady-fixed k m.target s (entry_digits (m.rows true s) z q) (steady-entry (m.rows true s) k q z h))
    (steady-fixed k m.target s (entry_digits (m.rows false s) z q) (steady-entry (m.rows false s) k q z h)))
    (steady-old m.rooted s k q z h)

-- the column s of the row that the target gives
target_value : (m : Mix) (k : ℕ) (q : Coordinates) (z : Coord) (s : Bool) (x : ℕ → Bool) → slice_value k (from_target m q z s) x ≡ slice_value k (entry_digits (m.rows (x m.target) s) z q) (put x m.target s)
unfolding from_target from_row
target_value m k q z s x =
    value-chosen k (λ y. y m.target) (fixed m.target s (entry_digits (m.rows true s) z q)) (fixed m.target s (entry_digits (m.rows false s) z q)) x
    ∙ choose (x m.target)
  where
    choose : (r : Bool) → cond r (slice_value k (fixed m.target s (entry_digits (m.rows true s) z q)) x) (slice_value k (fixed m.target s (entry_digits (m.rows false s) z q)) x) ≡ slice_value k (entry_digits (m.rows r s) z q) (put x m.target s)
    choose true = value-fixed k m.target s (entry_digits (m.rows true s) z q) x
    choose false = value-fixed k m.target s (entry_digits (m.rows false s) z q) x

-- the value of a term where the controls hold
term_value : (m : Mix) (k : ℕ) (q : Coordinates) (z : Coord) (s : Bool) (x : ℕ → Bool) (c : Bool) → all_true m.controls x ≡ c → slice_value k (term m q z s) x ≡ cond c (slice_value k (entry_digits (m.rows (x m.target) s) z q) (put x m.target s)) (slice_value k (old_part m.rooted q z s) x)
unfolding term
term_value m k q z s x c is =
    value-chosen k (all_true m.controls) (from_target m q z s) (old_part m.rooted q z s) x
    ∙ ap (λ d. cond d (slice_value k (from_target m q z s) x) (slice_value k (old_part m.rooted q z s) x)) is
    ∙ ap (λ v. cond c v (slice_value k (old_part m.rooted q z s) x)) (target_value m k q z s x)

-- the value of a signed term there
signed_value : (m : Mix) (k : ℕ) (q : Coordinates) (z : Coord) (s : Bool) (x : ℕ → Bool) → ((y : Coord) → IsSteady k (q y)) → slice_value (suc (suc k)) (signed_term m q z s) x ≡ signed (negates m z s x) (slice_value k (term m q z s) x)
unfolding signed_term
signed_value m k q z s x h =
    let st = steady-term m k q z s h in
    value-steady 1 (suc k) (suc (suc k)) (negated (negates m z s) (term m q z s)) x (steady-negated k (negates m z s) (term m q z s) st) (omega arith)
    ∙ value-negated k (negates m z s) (term m q z s) x st
    ∙ ap (λ v. signed (negates m z s x) v) (value-steady 1 k (suc k) (term m q z s) x st (omega arith))

-- a term where the controls hold
on_value : (m : Mix) (k : ℕ) (q : Coordinates) (z : Coord) (s : Bool) (x : ℕ → Bool) → ((y : Coord) → IsSteady k (q y)) → IsPower (m.rows (x m.target) s) → all_true m.controls x ≡ true → slice_value (suc (suc k)) (signed_term m q z s) x ≡ coordinate z (times_entry (m.rows (x m.target) s) (vector_of k q (put x m.target s)))
unfolding negates
on_value m k q z s x h power on =
    signed_value m k q z s x h
    ∙ ap (λ c. signed (cond c (entry_negates (m.rows (x m.target) s) z) (old_negates m.rooted z s)) (slice_value k (term m q z s) x)) on
    ∙ ap (signed (entry_negates (m.rows (x m.target) s) z)) (term_value m k q z s x true on)
    ∙ entry_value (m.rows (x m.target) s) k q z (put x m.target s) power

-- its value elsewhere
off_value : (m : Mix) (k : ℕ) (q : Coordinates) (z : Coord) (s : Bool) (x : ℕ → Bool) → ((y : Coord) → IsSteady k (q y)) → all_true m.controls x ≡ false → slice_value (suc (suc k)) (signed_term m q z s) x ≡ signed (old_negates m.rooted z s) (slice_value k (old_part m.rooted q z s) x)
unfolding negates
off_value m k q z s x h off =
    signed_value m k q z s x h
    ∙ ap (λ c. signed (cond c (entry_negates (m.rows (x m.target) s) z) (old_negates m.rooted z s)) (slice_value k (term m q z s) x)) off
    ∙ ap (signed (old_negates m.rooted z s)) (term_value m k q z s x false off)

-- plus 0, and plus a negated number
pub plus_zero : (z : ℤ) → z +ℤ pos 0 ≡ z
plus_zero z = omega (arith, ints)

minus_is : (y z : ℤ) → y +ℤ neg_ℤ z ≡ y -ℤ z
minus_is y z = omega (arith, ints)

-- times √2, coordinate by coordinate
root_coordinate : (z : Coord) (q : Quad) → signed (root_turn z false).negated (coordinate (root_turn z false).from q) +ℤ signed (root_turn z true).negated (coordinate (root_turn z true).from q) ≡ coordinate z (product_of q root_of_two)
root_coordinate A q = minus_is q.b q.d ∙ ap (coordinate A) (sym (times_root-is q))
root_coordinate B q = ap (coordinate B) (sym (times_root-is q))
root_coordinate C q = ap (coordinate C) (sym (times_root-is q))
root_coordinate D q = minus_is q.c q.a ∙ ap (coordinate D) (sym (times_root-is q))

-- the two old parts
old_value : (rooted : Bool) (k : ℕ) (q : Coordinates) (z : Coord) (x : ℕ → Bool)
    → signed (old_negates rooted z false) (slice_value k (old_part rooted q z false) x) +ℤ signed (old_negates rooted z true) (slice_value k (old_part rooted q z true) x)
    ≡ coordinate z (elsewhere rooted (vector_of k q x))
unfolding old_part
old_value true k q z x =
    let f = λ (s : Bool). sym (coordinate-vector k q (root_turn z s).from x) in
    ap (λ v. signed (root_turn z false).negated v +ℤ signed (root_turn z true).negated (slice_value k (q (root_turn z true).from) x)) (f false)
    ∙ ap (λ v. signed (root_turn z false).negated (coordinate (root_turn z false).from (vector_of k q x)) +ℤ signed (root_turn z true).negated v) (f true)
    ∙ root_coordinate z (vector_of k q x)
old_value false k q z x =
    ap (λ v. slice_value k (q z) x +ℤ v) (value-zero k x) ∙ plus_zero (slice_value k (q z) x) ∙ sym (coordinate-vector k q z x)

-- a signed term is steady one bit on
pub steady-signed : (m : Mix) (k : ℕ) (q : Coordinates) (z : Coord) (s : Bool) → ((y : Coord) → IsSteady k (q y)) → IsSteady (suc k) (signed_term m q z s)
unfolding signed_term
steady-signed m k q z s h = steady-negated k (negates m z s) (term m q z s) (steady-term m k q z s h)

-- The bits of raw, with two more places, stand for the matrix times the vector.
pub raw-value : (m : Mix) (k : ℕ) (q : Coordinates) (z : Coord) (x : ℕ → Bool) → ((r s : Bool) → IsPower (m.rows r s)) → ((y : Coord) → IsSteady k (q y)) → slice_value (suc (suc k)) (raw m q z) x ≡ coordinate z (mixed m (vector_of k q) x)
unfolding raw mixed
raw-value m k q z x powers h =
    value-sum (suc k) (signed_term m q z false) (signed_term m q z true) x (steady-signed m k q z false h) (steady-signed m k q z true h)
    ∙ elim (cases_Bool (all_true m.controls x)) [
      | inl on ↦
          let p = times_entry (m.rows (x m.target) false) (vector_of k q (put x m.target false)) in
          let r = times_entry (m.rows (x m.target) true) (vector_of k q (put x m.target true)) in
          ap (λ v. v +ℤ slice_value (suc (suc k)) (signed_term m q z true) x) (on_value m k q z false x h (powers (x m.target) false) on)
          ∙ ap (λ v. coordinate z p +ℤ v) (on_value m k q z true x h (powers (x m.target) true) on)
          ∙ sym (coordinate-sum z p r)
          ∙ ap (coordinate z) (sym (cond-true (all_true m.controls x) (sum_of p r) (elsewhere m.rooted (vector_of k q x)) on))
      | inr off ↦
          let p = times_entry (m.rows (x m.target) false) (vector_of k q (put x m.target false)) in
          let r = times_entry (m.rows (x m.target) true) (vector_of k q (put x m.target true)) in
          ap (λ v. v +ℤ slice_value (suc (suc k)) (signed_term m q z true) x) (off_value m k q z false x h off)
          ∙ ap (λ v. signed (old_negates m.rooted z false) (slice_value k (old_part m.rooted q z false) x) +ℤ v) (off_value m k q z true x h off)
          ∙ old_value m.rooted k q z x
          ∙ ap (coordinate z) (sym (cond-false (all_true m.controls x) (sum_of p r) (elsewhere m.rooted (vector_of k q x)) off))
    ]
