-- A step after which the matrix fits is accepted, or needs too many nodes.
use Rattle.std.proofs.Common.{◌≡◌, ◌⊎◌, ℕ, zero, suc, ◌+◌, ◌*◌, ◌≤◌, Bool, List, [], ◌∷◌, ◌++◌, length, take, drop, refl, sym, ◌∙◌, ap, subst, arith, length-append}
use Rattle.std.proofs.Math.Path.{ap₂}
use Rattle.bit_lists.specs.Lists.{all_lists, place_of, bits_at, with_bits}
use Rattle.bit_lists.specs.Orders.{AreVars}
use Rattle.amp_dense.specs.Chains.{with_gate}
use Rattle.gate_set.specs.Matrix.{times_entry}
use Rattle.gate_set.specs.Shape.{qubits_of, gate_entry}
use Rattle.gate_set.specs.Shape.{IsOn}
use Rattle.circuit_model.specs.Product.{same_bits}
use Rattle.circuit_model.specs.Working.{Scaled, FitsWidth}
use Rattle.circuit_model.proofs.SumLemmas.{sum_over-same, length-with_bits}
use Rattle.circuit_model.proofs.VectorLemmas.{applied-same}
use Rattle.circuit_model.proofs.WorkingLemmas.{IsHalved-halved}
use Rattle.comparison.specs.Scalars.{Matrix}
use Rattle.comparison.specs.Products.{Step, gate_of, times_step, right_product, by_position, raw_matrix, step_matrix, work_matrix, RawStepFits}
use Rattle.comparison.specs.Products.Step.{left, right}
use Rattle.comparison.proofs.Working.{work_matrix-last}
use Rattle.diagram_model.specs.Functions.{Assignment, bit}
use Rattle.slice_quad.specs.Stepping.{stepped}
use Rattle.slice_gates.specs.Shown.{at_lists, first_values, ReadsBelow}
use Rattle.slice_gates.specs.Sides.{woven}
use Rattle.slice_gates.proofs.Agreeing.{length-first_values, at_list, stepped-reads}
use Rattle.slice_gates.proofs.Doubles.{doubled_quad}
use Rattle.slice_gates.proofs.Matrices.{left_stepped, right_stepped}
use Rattle.slice_gates.proofs.Moved.{take_front, drop_front}
use Rattle.step_upkeep.specs.Chains.{work_of, stored_of, needed}
use Rattle.step_upkeep.proofs.Products.{accepted_or_refused as product_end}
use Rattle.step_upkeep.proofs.StepFor.{values_agree}
use Rattle.step_upkeep.proofs.StoredAfter.{fits_halved, halved_out, values_in, unit_fits}
use Rattle.step_upkeep.proofs.Values.{AreIn}
use Rattle.unitary_update.specs.Kept.{Standing, matrix_chain, sliced_step, by_variables}
use Rattle.unitary_update.proofs.MatrixLemmas.{sided_is, sided_functions, sided_within, values_same, woven_values}

-- ---- the matrix over the variables
abbrev row : ℕ → Assignment → List Bool
row n x = first_values n (λ q. x (2 * q))

abbrev column : ℕ → Assignment → List Bool
column n x = first_values n (λ q. x (2 * q + 1))

-- of a row and a column in turns
row_of : (n : ℕ) (r c : List Bool) → length r ≡ n → length c ≡ n → row n (bit (woven r c)) ≡ r
unfolding first_values
row_of zero [] c er ec = refl
row_of zero (a ∷ r) c er ec = absurd (omega (arith, er))
row_of (suc n) [] c er ec = absurd (omega (arith, er))
row_of (suc n) (a ∷ r) [] er ec = absurd (omega (arith, ec))
row_of (suc n) (a ∷ r) (b ∷ c) er ec =
    let even : (q : ℕ) → 2 * suc q ≡ suc (suc (2 * q)) = λ q. omega arith in
    let rest = values_same n (λ q. bit (a ∷ b ∷ woven r c) (2 * suc q)) (λ q. bit (woven r c) (2 * q)) (λ q. ap (bit (a ∷ b ∷ woven r c)) (even q)) in
    ap (λ l. a ∷ l) (rest ∙ row_of n r c (omega (arith, er)) (omega (arith, ec)))

column_of : (n : ℕ) (r c : List Bool) → length r ≡ n → length c ≡ n → column n (bit (woven r c)) ≡ c
unfolding first_values
column_of zero r [] er ec = refl
column_of zero r (b ∷ c) er ec = absurd (omega (arith, ec))
column_of (suc n) [] c er ec = absurd (omega (arith, er))
column_of (suc n) (a ∷ r) [] er ec = absurd (omega (arith, ec))
column_of (suc n) (a ∷ r) (b ∷ c) er ec =
    let odd : (q : ℕ) → 2 * suc q + 1 ≡ suc (suc (2 * q + 1)) = λ q. omega arith in
    let rest = values_same n (λ q. bit (a ∷ b ∷ woven r c) (2 * suc q + 1)) (λ q. bit (woven r c) (2 * q + 1)) (λ q. ap (bit (a ∷ b ∷ woven r c)) (odd q)) in
    ap (λ l. b ∷ l) (rest ∙ column_of n r c (omega (arith, er)) (omega (arith, ec)))

entry_in : (n : ℕ) (m : Matrix) (r c : List Bool) → length r ≡ n → length c ≡ n → m r c ≡ by_variables n m (bit (woven r c))
unfolding by_variables
entry_in n m r c er ec = ap₂ m (sym (row_of n r c er ec)) (sym (column_of n r c er ec))

reads : (n : ℕ) (m : Matrix) → ReadsBelow (2 * n) (by_variables n m)
unfolding by_variables
reads n m x y same =
    ap₂ m (values_agree n (λ q. x (2 * q)) (λ q. y (2 * q)) (λ q lt. same (2 * q) (omega (arith, lt)))) (values_agree n (λ q. x (2 * q + 1)) (λ q. y (2 * q + 1)) (λ q lt. same (2 * q + 1) (omega (arith, lt))))

-- ---- the step on it
product_is : (n : ℕ) (t : Step) (m : Matrix) (r c : List Bool) → IsOn n (gate_of t) → length r ≡ n → length c ≡ n → times_step t m r c ≡ stepped (sliced_step n t) (by_variables n m) (bit (woven r c))
unfolding right_product
product_is n (left g) m r c on er ec =
    applied-same g (λ s. m s c) (λ s. at_lists (by_variables n m) (woven s c)) r (λ y len. entry_in n m y c (len ∙ er) ec)
    ∙ left_stepped n g (sliced_step n (left g)) (by_variables n m) r c (sided_is n (left g) on) er ec
product_is n (right g) m r c on er ec =
    sum_over-same (all_lists (length (qubits_of g))) _ _
    (λ y. ap (times_entry (gate_entry g (place_of y) (place_of (bits_at c (qubits_of g))))) (entry_in n m r (with_bits c (qubits_of g) y) er (length-with_bits c (qubits_of g) y ∙ ec)))
    ∙ right_stepped n g (sliced_step n (right g)) (by_variables n m) r c (sided_is n (right g) on) er ec

stepped_is : (n : ℕ) (t : Step) (m : Matrix) (x : Assignment) → IsOn n (gate_of t) → times_step t m (row n x) (column n x) ≡ stepped (sliced_step n t) (by_variables n m) x
stepped_is n t m x on =
    let s = sliced_step n t in
    let within = sided_within n t s (sided_is n t on) in
    product_is n t m (row n x) (column n x) on (length-first_values n (λ q. x (2 * q))) (length-first_values n (λ q. x (2 * q + 1)))
    ∙ ap (at_lists (stepped s (by_variables n m))) (woven_values n x)
    ∙ sym (at_list (2 * n) (stepped s (by_variables n m)) x (stepped-reads (2 * n) s (by_variables n m) within (reads n m)))

-- ---- the stored functions after a step
long : (n : ℕ) (x : Assignment) → length (row n x ++ column n x) ≡ n + n
long n x = length-append (row n x) (column n x) ∙ ap₂ (λ i j. i + j) (length-first_values n (λ q. x (2 * q))) (length-first_values n (λ q. x (2 * q + 1)))

-- the halved matrix, as many times doubled as it was halved, is the step's
taken_out : (n : ℕ) (t : Step) (w : Scaled) → IsOn n (gate_of t)
    → (k : ℕ) × ((x : Assignment) → doubled_quad k (by_variables n (by_position (step_matrix n w t).entries) x) ≡ stepped (sliced_step n t) (by_variables n (by_position w.entries)) x)
unfolding by_variables
taken_out n t w on =
    let raw = raw_matrix n w t in
    let parts : (x : Assignment) → raw.entries (row n x ++ column n x) ≡ times_step t (by_position w.entries) (row n x) (column n x) = λ x.
    let er = length-first_values n (λ q. x (2 * q)) in
    ap₂ (times_step t (by_position w.entries)) (take_front (row n x) (column n x) n er) (drop_front (row n x) (column n x) n er) in
    halved_out (n + n) (λ x. row n x ++ column n x) (long n) (stepped (sliced_step n t) (by_variables n (by_position w.entries))) raw.exponent raw.entries (step_matrix n w t)
    (IsHalved-halved (n + n) raw.entries raw.exponent) (λ x. parts x ∙ stepped_is n t (by_position w.entries) x on)

in_bits : (n W m : ℕ) (w : Scaled) → W ≡ suc m → FitsWidth (n + n) W w.entries → AreIn m (by_variables n (by_position w.entries))
unfolding by_variables
in_bits n W m w = values_in (n + n) (λ x. row n x ++ column n x) (long n) W m w.entries

-- ---- a step has an end
-- where the coefficients fit the width, a step may be accepted, or be refused for want of nodes
pub accepted_or_refused : (s : Standing) (t : Step) (m : ℕ) → s.rules.width ≡ suc m → AreVars (length s.order) s.order → IsOn s.input (gate_of t)
    → FitsWidth (s.input + s.input) s.rules.width (work_matrix s.input s.gates).entries → (needed s (stored_of matrix_chain (with_gate s t)) ≤ s.rules.nodes) ⊎ (s.rules.nodes ≤ needed s (work_of matrix_chain s t))
accepted_or_refused s t m wide vars on fits =
    let n = s.input in
    let w = work_matrix n s.gates in
    let IsDoubled : Scaled → ℕ → Type 0 = λ u k. (x : Assignment) → doubled_quad k (by_variables n (by_position u.entries) x) ≡ stepped (sliced_step n t) (by_variables n (by_position w.entries)) x in
    let out = taken_out n t w on in
    let halved : IsDoubled (work_matrix n (s.gates ++ t ∷ [])) out.0 = subst (λ u. IsDoubled u out.0) (sym (work_matrix-last n s.gates t)) out.1 in
    product_end matrix_chain s t (sliced_step n t) (sided_functions n t) (2 * n) m out.0 wide vars (sided_within n t (sliced_step n t) (sided_is n t on)) (in_bits n s.rules.width m w wide fits) halved

-- ---- the coefficients fit on
-- after a step that fits
pub fits_next : (n W : ℕ) (steps : List Step) (t : Step) → RawStepFits W n steps t → FitsWidth (n + n) W (work_matrix n (steps ++ t ∷ [])).entries
fits_next n W steps t fits =
    let r = raw_matrix n (work_matrix n steps) t in
    subst (λ (u : Scaled). FitsWidth (n + n) W u.entries) (sym (work_matrix-last n steps t))
    (fits_halved (n + n) W r.exponent r.entries (step_matrix n (work_matrix n steps) t) (IsHalved-halved (n + n) r.entries r.exponent) fits)

-- and at the start
pub fits_begun : (n W : ℕ) → 2 ≤ W → FitsWidth (n + n) W (work_matrix n []).entries
unfolding work_matrix
fits_begun n W wide x len = unit_fits W wide (same_bits (take n x) (drop n x))
