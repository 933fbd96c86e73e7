-- What the trace of a kept matrix says of the working matrix.
use Rattle.std.proofs.Common.{◌≡◌, ◌⊎◌, inl, inr, ℕ, ◌+◌, ◌-◌, ◌*◌, ◌^◌, ◌≤◌, ℤ, Bool, List, [], ◌∷◌, ◌++◌, length, take, drop, fold, refl, sym, ◌∙◌, ap, subst, arith}
use Rattle.std.proofs.Math.Pow.{pow_mono}
use Rattle.std.proofs.lemmas.Bool.{cases_lt}
use Rattle.std.proofs.lemmas.Int.{ints}
use Rattle.std.proofs.lemmas.List.{take-append-drop}
use Rattle.ring_omega.specs.declared.quad.Quad.{Quad}
use Rattle.ring_omega.specs.Ring.{one_quad}
use Rattle.ring_omega.specs.Weights.{weight_of, lowest_weight_form}
use Rattle.circuit_model.specs.Working.{Scaled, scaled, IntFits, QuadFits, FitsWidth}
use Rattle.circuit_model.proofs.FitLemmas.{fits_or_not}
use Rattle.circuit_model.proofs.WorkingLemmas.{IsHalved-halved}
use Rattle.comparison.specs.Scalars.{scalar_entry}
use Rattle.comparison.specs.Products.{Step, gate_of, joined, by_position, raw_matrix, step_matrix, work_matrix}
use Rattle.comparison.proofs.Sums.{sum_over_lists-same}
use Rattle.diagram_model.specs.Stores.{Diagram, IsSound}
use Rattle.slice_quad.specs.declared.quad.SliceQuad.{SliceQuad}
use Rattle.slice_quad.specs.Vectors.{vector_in}
use Rattle.slice_quad.specs.Walks.{entries_in}
use Rattle.slice_gates.specs.Shown.{ReadsBelow}
use Rattle.slice_gates.proofs.Agreeing.{vector-reads}
use Rattle.slice_gates.proofs.MatrixShown.{matrix_fits, matrix_fits_from}
use Rattle.slice_gates.proofs.Shown.{few_halves}
use Rattle.equivalence.specs.Matrices.{matrix_in}
use Rattle.diagram_ops.specs.Diagrams.{StoreAndCache}
use Rattle.unitary_update.specs.Kept.{State, ShowsMatrix}
use Rattle.fidelity.specs.Traces.{trace_of, IsTraceable, fidelity_in}
use Rattle.fidelity.specs.Widths.{IsTooWide}

-- ---- widths
int_wider : (v w : ℕ) (z : ℤ) → v ≤ w → IntFits v z → IntFits w z
int_wider v w z more h =
    let le : 2 ^ (v - 1) ≤ 2 ^ (w - 1) = pow_mono {i = v - 1} {j = w - 1} (omega (arith, more)) in
    (omega (arith, ints, h.0), omega (arith, ints, h.1))

fits_wider : (n v w : ℕ) (f : List Bool → Quad) → v ≤ w → FitsWidth n v f → FitsWidth n w f
fits_wider n v w f more h x long =
    let q = h x long in
    record { a_fits = int_wider v w _ more q.a_fits; b_fits = int_wider v w _ more q.b_fits; c_fits = int_wider v w _ more q.c_fits; d_fits = int_wider v w _ more q.d_fits }

-- a matrix is too wide where it has more than 61 qubits, or doesn't fit what is left of 63 bits
too_wide_from : (n : ℕ) (v : List Bool → Quad) → ¬ ((n ≤ 61) × FitsWidth (n + n) (63 - n) v) → IsTooWide n v
too_wide_from n v wide w two fits = elim (cases_lt 63 (n + w)) [
  | inl more ↦ more
  | inr room ↦ absurd (wide (omega (arith, two, room), fits_wider (n + n) w (63 - n) v (omega (arith, room)) fits))
]

not_too_wide : (n : ℕ) (v : List Bool → Quad) → n ≤ 61 → FitsWidth (n + n) (63 - n) v → ¬ IsTooWide n v
not_too_wide n v few fits wide = let more = wide (63 - n) (omega (arith, few)) fits in omega (arith, few, more)

pub too_wide_or_not : (n : ℕ) (v : List Bool → Quad) → IsTooWide n v ⊎ (¬ IsTooWide n v)
too_wide_or_not n v = elim (cases_lt 61 n) [
  | inl many ↦ inl (too_wide_from n v (λ h. let few = h.0 in omega (arith, many, few)))
  | inr few ↦ elim (fits_or_not (n + n) (63 - n) v) [ inl fits ↦ inr (not_too_wide n v few fits) | inr wide ↦ inl (too_wide_from n v (λ h. wide h.1)) ]
]

-- ---- the kept matrix and the working matrix
module _ (n : ℕ) (d : Diagram) (q : SliceQuad) (w : Scaled) (shown : ShowsMatrix n d q w) where
  -- they fit the same widths
  whole_list : (width : ℕ) → FitsWidth (n + n) width (λ x. w.entries (take n x ++ drop n x)) → FitsWidth (n + n) width w.entries
  whole_list width fits x long = subst (λ y. QuadFits width (w.entries y)) (take-append-drop n x) (fits x long)

  split_list : (width : ℕ) → FitsWidth (n + n) width w.entries → FitsWidth (n + n) width (λ x. w.entries (take n x ++ drop n x))
  split_list width fits x long = subst (λ y. QuadFits width (w.entries y)) (sym (take-append-drop n x)) (fits x long)

  pub traced_narrow : IsTraceable n d q → ¬ IsTooWide n w.entries
  traced_narrow h = not_too_wide n w.entries h.0 (whole_list (63 - n) (matrix_fits n (63 - n) (vector_in d q.four) (by_position w.entries) shown.entries h.1))

  pub traced_wide : IsSound d → length d.order ≡ 2 * n → ¬ IsTraceable n d q → IsTooWide n w.entries
  traced_wide sound size wide =
      let reads : ReadsBelow (2 * n) (vector_in d q.four) = subst (λ i. ReadsBelow i (vector_in d q.four)) size (vector-reads d q.four sound) in
      too_wide_from n w.entries (λ h. wide (h.0, matrix_fits_from n (63 - n) (vector_in d q.four) (by_position w.entries) shown.entries reads (split_list (63 - n) h.1)))

  -- and have one trace
  same_trace : trace_of n (matrix_in d q) ≡ trace_of n (by_position w.entries)
  unfolding entries_in
  same_trace = sum_over_lists-same n (λ x. matrix_in d q x x) (λ x. w.entries (x ++ x)) (λ x long. sym (shown.entries x x long long))

  pub overlap_shown : (t : Quad) (k m : ℕ) → t ≡ trace_of n (matrix_in d q) → k ≡ w.exponent → m ≡ n → lowest_weight_form (weight_of t) (k + 2 * m) ≡ fidelity_in n w
  overlap_shown t k m is power size = λ i. lowest_weight_form (weight_of ((is ∙ same_trace) i)) (power i + 2 * size i)

-- ---- the exponent
-- no step raises it by more than 1
raised : (n : ℕ) (w : Scaled) (s : Step) → (step_matrix n w s).exponent ≤ w.exponent + 1
raised n w s =
    let h = (IsHalved-halved (n + n) (raw_matrix n w s).entries (raw_matrix n w s).exponent).exponent_left in
    let small = few_halves (gate_of s).kind in
    omega (arith, h, small)

raised_by : (n : ℕ) (w : Scaled) (steps : List Step) → (fold (step_matrix n) w steps).exponent ≤ w.exponent + length steps
raised_by n w [] = omega arith
raised_by n w (s ∷ steps) = let next = raised_by n (step_matrix n w s) steps in let here = raised n w s in omega (arith, next, here)

pub few_powers : (n : ℕ) (steps : List Step) → (work_matrix n steps).exponent ≤ length steps
unfolding work_matrix
few_powers n steps = let h = raised_by n (scaled (joined n (scalar_entry one_quad)) 0) steps in omega (arith, h)

-- ---- what is said by the parts of a kept matrix
module _ (m : State) (d : StoreAndCache) (q : SliceQuad) (n : ℕ) (same_diagrams : d ≡ m.diagrams) (same_quad : q ≡ m.quad) (same_qubits : n ≡ m.qubits)
    (shows : ShowsMatrix m.qubits m.diagrams.store m.quad (work_matrix m.qubits m.steps)) where
  abbrev w : Scaled
  w = work_matrix m.qubits m.steps

  here : ShowsMatrix n d.store q w
  here =
      subst (λ k. ShowsMatrix k d.store q w) (sym same_qubits)
      (subst (λ (e : StoreAndCache). ShowsMatrix m.qubits e.store q w) (sym same_diagrams) (subst (λ r. ShowsMatrix m.qubits m.diagrams.store r w) (sym same_quad) shows))

  pub kept_value : (t : Quad) (k : ℕ) → t ≡ trace_of n (matrix_in d.store q) → k ≡ w.exponent → lowest_weight_form (weight_of t) (k + 2 * n) ≡ fidelity_in m.qubits w
  kept_value t k is power = overlap_shown n d.store q w here t k n is power refl ∙ ap (λ i. fidelity_in i w) same_qubits

  pub kept_narrow : IsTraceable n d.store q → ¬ IsTooWide m.qubits w.entries
  kept_narrow h = subst (λ k. ¬ IsTooWide k w.entries) same_qubits (traced_narrow n d.store q w here h)

  pub kept_wide : IsSound d.store → length d.store.order ≡ 2 * n → ¬ IsTraceable n d.store q → IsTooWide m.qubits w.entries
  kept_wide sound size wide = subst (λ k. IsTooWide k w.entries) same_qubits (traced_wide n d.store q w here sound size wide)
