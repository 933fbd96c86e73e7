-- What keeps a matrix, at its start and from step to step, and what is read of it.
use Rattle.std.proofs.Common.{◌≡◌, ℕ, zero, suc, ◌+◌, ◌*◌, ◌<◌, ◌≤◌, Bool, cond, List, [], ◌∷◌, ◌++◌, take, drop, length, All, Result, Ok, Err, sym, ◌∙◌, ap, subst, arith}
use Rattle.std.proofs.Math.Path.{ap₂}
use mathlib.Core.Path.{fun_ext}
use Rattle.std.specs.List.{range_with_len}
use Rattle.std.proofs.lemmas.List.FromFn.{length-range_with_len}
use Rattle.std.proofs.lemmas.List.{length-append}
use Rattle.ring_omega.specs.Ring.{zero_quad, one_quad}
use Rattle.gate_set.specs.Matrix.{half_power_of}
use Rattle.gate_set.specs.declared.gate.Gate.{Gate}
use Rattle.gate_set.specs.Shape.{qubits_of, IsOn}
use Rattle.circuit_model.specs.Working.{Scaled}
use Rattle.circuit_model.specs.Working as circuits
use Rattle.comparison.specs.Scalars.{scalar_entry}
use Rattle.comparison.specs.Products.{Step, gate_of, times_step, right_product, by_position, raw_matrix, step_matrix, work_matrix, RawStepFits}
use Rattle.comparison.specs.Products.Step.{left, right}
use Rattle.comparison.proofs.Working.{work_matrix-last}
use Rattle.diagram_model.specs.Functions.{Assignment, bit}
use Rattle.diagram_model.specs.Stores.{Diagram, IsSound, function_of}
use Rattle.diagram_ops.specs.Diagrams.{StoreAndCache, IsConsistent}
use Rattle.amp_dense.specs.Rules.{Settings, AreRules}
use Rattle.amp_dense.specs.declared.stop.Stop.{Stop}
use Rattle.slice_quad.specs.declared.kind.Step.{Step as SlicedStep}
use Rattle.node_store.specs.declared.node.Node.{Node}
use Rattle.slice_quad.specs.declared.four.Four.{Four}
use Rattle.slice_quad.specs.declared.quad.SliceQuad.{SliceQuad}
use Rattle.slice_quad.specs.Identities.{IsIdentity}
use Rattle.slice_quad.specs.Mix.{Vector}
use Rattle.slice_quad.specs.RowsColumns.{KeepsRowEqualsColumn}
use Rattle.slice_quad.specs.Settled.{IsSettled}
use Rattle.slice_quad.specs.Stepping.{stepped, half_of, IsStepOn}
use Rattle.slice_quad.specs.Vectors.{vector_in, FitsWidth, Stands}
use Rattle.slice_quad.specs.Walks.{entries_in}
use Rattle.slice_gates.specs.Shown.{at_lists, first_values, ReadsBelow, IsMatrixShown}
use Rattle.slice_gates.specs.declared.side.Side.TheVariants.{Rows, Columns}
use Rattle.slice_gates.specs.Sides.{woven, place_on}
use Rattle.slice_gates.specs.Stepped.{IsStepOf}
use Rattle.slice_gates.proofs.Agreeing.{length-first_values, at_list, vector-reads, stepped-reads}
use Rattle.slice_gates.proofs.Diagonal.{woven_diagonal}
use Rattle.slice_gates.proofs.GateWorks.{functions_same}
use Rattle.slice_gates.proofs.MatrixShown.{left_shown, right_shown, matrix_shown, matrix_fits, matrix_fits_from}
use Rattle.slice_gates.proofs.Moved.{length-woven, take_front, drop_front}
use Rattle.slice_gates.proofs.Shown.{few_halves}
use Rattle.step_upkeep.specs.Accepted.{IsAccepted}
use Rattle.step_upkeep.specs.Upkept.{KeepsQuad}
use Rattle.step_upkeep.proofs.Products.{HasStep, Holds, proceeded, stood}
use Rattle.step_upkeep.proofs.StepFor.{step_is}
use Rattle.unitary_update.specs.declared.accepted.MatrixStep.{MatrixStep}
use Rattle.unitary_update.specs.declared.accepted.MatrixStep.TheVariants.{Left, Right}
use Rattle.unitary_update.specs.Kept.{State, IsKept, ShowsMatrix, Steps, by_variables, matrix_chain, step_in, sliced_step}
use Rattle.unitary_update.specs.Sided.{IsSided}

-- ---- the matrix over the variables
pub values_same : (n : ℕ) (x y : Assignment) → ((i : ℕ) → x i ≡ y i) → first_values n x ≡ first_values n y
values_same n x y same = ap (first_values n) (fun_ext (λ i. same i))

-- the row's bits and the column's in turns are the values of all variables
pub woven_values : (n : ℕ) (x : Assignment) → woven (first_values n (λ q. x (2 * q))) (first_values n (λ q. x (2 * q + 1))) ≡ first_values (2 * n) x
unfolding first_values
woven_values zero x = let none : 2 * zero ≡ zero = omega arith in ap (λ k. first_values k x) (sym none)
woven_values (suc n) x =
    let y : Assignment = λ i. x (suc (suc i)) in
    let even : (q : ℕ) → 2 * suc q ≡ suc (suc (2 * q)) = λ q. omega arith in
    let odd : (q : ℕ) → 2 * suc q + 1 ≡ suc (suc (2 * q + 1)) = λ q. omega arith in
    let row = values_same n (λ q. x (2 * suc q)) (λ q. y (2 * q)) (λ q. ap x (even q)) in
    let column = values_same n (λ q. x (2 * suc q + 1)) (λ q. y (2 * q + 1)) (λ q. ap x (odd q)) in
    ap₂ (λ r c. x 0 ∷ x 1 ∷ woven r c) row column ∙ ap (λ l. x 0 ∷ x 1 ∷ l) (woven_values n y) ∙ ap (λ k. first_values k x) (sym (even n))

-- the matrix that the integers show is their vector
shown_matrix : (n : ℕ) (d : Diagram) (f : Four) (k : ℕ) (w : Scaled) → IsSound d → length d.order ≡ 2 * n → IsMatrixShown n d f k w → by_variables n (by_position w.entries) ≡ vector_in d f
unfolding by_variables
shown_matrix n d f k w sound size shown = fun_ext (λ x. at x)
  where
    reads : ReadsBelow (2 * n) (vector_in d f)
    reads = subst (λ i. ReadsBelow i (vector_in d f)) size (vector-reads d f sound)

    at : (x : Assignment) → by_variables n (by_position w.entries) x ≡ vector_in d f x
    at x =
        let row : Assignment = λ q. x (2 * q) in
        let column : Assignment = λ q. x (2 * q + 1) in
        shown.entries (first_values n row) (first_values n column) (length-first_values n row) (length-first_values n column)
        ∙ ap (at_lists (vector_in d f)) (woven_values n x) ∙ sym (at_list (2 * n) (vector_in d f) x reads)

-- ---- one step
pub sided_value : (n : ℕ) (t : Step) (s : SlicedStep) → IsSided n t s → s ≡ sliced_step n t
sided_value n (left g) s is = is.value
sided_value n (right g) s is = is.value

pub sided_within : (n : ℕ) (t : Step) (s : SlicedStep) → IsSided n t s → IsStepOn (2 * n) s
sided_within n (left g) s is = is.within
sided_within n (right g) s is = is.within

sided_half : (n : ℕ) (t : Step) (s : SlicedStep) → IsSided n t s → half_of s ≡ half_power_of (gate_of t).kind
sided_half n (left g) s is = is.half
sided_half n (right g) s is = is.half

pub one_half : (n : ℕ) (t : Step) (s : SlicedStep) → IsSided n t s → half_of s ≤ 1
one_half n t s is = let few = few_halves (gate_of t).kind in let half = sided_half n t s is in omega (arith, few, half)

-- on as many variables as the store has
pub within_store : (m n : ℕ) (t : Step) (s : SlicedStep) → m ≡ 2 * n → IsSided n t s → IsStepOn m s
within_store m n t s e is = subst (λ i. IsStepOn i s) (sym e) (sided_within n t s is)

-- each step is one on the variables
pub sided_is : (n : ℕ) (t : Step) → IsOn n (gate_of t) → IsSided n t (sliced_step n t)
sided_is n (left g) on = step_is (2 * n) Rows g on.placed (λ i d lt. let less = on.below i d lt in omega (arith, less))
sided_is n (right g) on = step_is (2 * n) Columns g on.placed (λ i d lt. let less = on.below i d lt in omega (arith, less))

module _ (n : ℕ) (d : Diagram) (q : SliceQuad) (w : Scaled) (t : Step) (shown : ShowsMatrix n d q w) (on : IsOn n (gate_of t)) where
  abbrev own_step : SlicedStep
  own_step = sliced_step n t

  abbrev own_values : Vector
  own_values = stepped (sliced_step n t) (vector_in d q.four)

  -- the product of the working matrix is the step on the integers
  product_by : (u : Step) → IsSided n u (sliced_step n u) → (r c : List Bool) → length r ≡ n → length c ≡ n → times_step u (by_position w.entries) r c ≡ stepped (sliced_step n u) (vector_in d q.four) (bit (woven r c))
  unfolding right_product
  product_by (left g) is r c er ec = left_shown n d q.four q.exponent w g (sliced_step n (left g)) r c shown is er ec
  product_by (right g) is r c er ec = right_shown n d q.four q.exponent w g (sliced_step n (right g)) r c shown is er ec

  product_shown : (r c : List Bool) → length r ≡ n → length c ≡ n → times_step t (by_position w.entries) r c ≡ own_values (bit (woven r c))
  product_shown = product_by t (sided_is n t on)

  pub shows_next : (e : Diagram) (r : SliceQuad) → IsSound e → length e.order ≡ length d.order → length d.order ≡ 2 * n → IsSettled e own_values (q.exponent + half_of own_step) r.four r.exponent → ShowsMatrix n e r (step_matrix n w t)
  shows_next e r sound same size settled =
      let k = w.exponent + half_power_of (gate_of t).kind in
      let raised : q.exponent + half_of own_step ≡ k = let over = shown.exponent in let half = sided_half n t own_step (sided_is n t on) in omega (arith, over, half) in
      matrix_shown n own_values k (times_step t (by_position w.entries)) e r.four r.exponent product_shown sound (same ∙ size) (subst (λ i. IsSettled e own_values i r.four r.exponent) raised settled)

  pub fits_shown : (width : ℕ) → FitsWidth width own_values → circuits.FitsWidth (n + n) width (raw_matrix n w t).entries
  fits_shown width fits = matrix_fits n width own_values (times_step t (by_position w.entries)) product_shown fits

  -- and only there
  pub fits_from : (width : ℕ) → IsSound d → length d.order ≡ 2 * n → circuits.FitsWidth (n + n) width (raw_matrix n w t).entries → FitsWidth width own_values
  fits_from width sound size fits =
      let before : ReadsBelow (2 * n) (vector_in d q.four) = subst (λ i. ReadsBelow i (vector_in d q.four)) size (vector-reads d q.four sound) in
      let reads = stepped-reads (2 * n) own_step (vector_in d q.four) (sided_within n t own_step (sided_is n t on)) before in
      matrix_fits_from n width own_values (times_step t (by_position w.entries)) product_shown reads fits

-- ---- the start
start_shows : (n : ℕ) (e : Diagram) (q : SliceQuad) → IsIdentity e n q → ShowsMatrix n e q (work_matrix n [])
unfolding work_matrix
start_shows n e q h = record {
  exponent = sym h.exponent;
  entries = λ r c er ec.
      let at : scalar_entry one_quad (take n (r ++ c)) (drop n (r ++ c)) ≡ scalar_entry one_quad r c = ap₂ (scalar_entry one_quad) (take_front r c n er) (drop_front r c n er) in
      at ∙ ap (λ b. cond b one_quad zero_quad) (sym (woven_diagonal n r c er ec)) ∙ sym (h.entries (bit (woven r c)));
}

-- two variables for each qubit
pub size_of_order : (order : List ℕ) (n : ℕ) → order ≡ range_with_len 0 n → length order ≡ n
size_of_order order n e = ap (λ (l : List ℕ). length l) e ∙ length-range_with_len 0 n

abbrev pub state_with : ℕ → Settings → List Step → StoreAndCache → SliceQuad → State
state_with n rules steps d q = record { qubits = n; rules = rules; steps = steps; diagrams = d; quad = q }

pub kept_start : (n : ℕ) (rules : Settings) (steps : List Step) (d : StoreAndCache) (q : SliceQuad) → n ≤ 64 → AreRules rules → steps ≡ [] → IsConsistent d
    → d.store.order ≡ range_with_len 0 (2 * n) → d.store.limit ≡ rules.nodes → d.cache.capacity ≡ rules.cache → IsIdentity d.store n q → IsKept (state_with n rules steps d q)
kept_start n rules steps d q few are none sound order limit capacity h = rw none begun
  where
    begun : IsKept (state_with n rules [] d q)
    begun = record {
      few_qubits = few;
      few_steps = omega arith;
      sound = sound;
      variables = size_of_order d.store.order (2 * n) order;
      limit = limit;
      capacity = capacity;
      stands = h.stands;
      shows = start_shows n d.store q h;
      small = let e = h.exponent in omega (arith, e);
      narrow = let w = h.width in let two = are.least_width in omega (arith, w, two);
      kept = h.kept;
    }

-- ---- the product that the integers hold
-- the entries stay where the diagrams keep them
pub shows_on : (n : ℕ) (u v : StoreAndCache) (q : SliceQuad) (w : Scaled) → KeepsQuad u q v → ShowsMatrix n u.store q w → ShowsMatrix n v.store q w
shows_on n u v q w g h = record { exponent = h.exponent; entries = λ r c er ec. h.entries r c er ec ∙ ap (λ (f : Vector). f (bit (woven r c))) (sym g.vector) }

-- and so does the kept function
pub keeps_on : (n : ℕ) (u v : StoreAndCache) (q r : SliceQuad) → KeepsQuad u q v → r.kept ≡ q.kept → KeepsRowEqualsColumn n u.store q → KeepsRowEqualsColumn n v.store r
keeps_on n u v q r g same h = ap (λ (k : Node). function_of v.store k.0) same ∙ g.function ∙ h

pub holds : (s : State) → IsKept s → Holds matrix_chain s.qubits s.rules s.steps s.diagrams s.quad
holds s h = record {
  sound = h.sound;
  limit = h.limit;
  stands = h.stands;
  narrow = h.narrow;
  function = h.kept;
  vector = sym (shown_matrix s.qubits s.diagrams.store s.quad.four s.quad.exponent (work_matrix s.qubits s.steps) h.sound.store h.variables h.shows);
}

-- ---- a step
-- the functions that it works with are those of the step on variables
pub sided_functions : (n : ℕ) (t : Step) → HasStep matrix_chain n t (sliced_step n t)
sided_functions n (left g) = functions_same (2 * n) Rows g
sided_functions n (right g) = functions_same (2 * n) Columns g

-- the step u on variables, which is the step t, came or stopped
module _ (s : State) (t : Step) (u : SlicedStep) (v : StoreAndCache) (r : SliceQuad) (accepted : ℕ) (h : IsKept s) (on : IsOn s.qubits (gate_of t)) (is : IsSided s.qubits t u) (count : accepted ≡ length s.steps) where
  abbrev Told : Result (Unit {0}) Stop → Type 0
  Told answer = IsAccepted s.rules accepted s.diagrams v u s.quad r answer

  own : (answer : Result (Unit {0}) Stop) → Told answer → IsAccepted s.rules accepted s.diagrams v (sliced_step s.qubits t) s.quad r answer
  own answer a = subst (λ (k : SlicedStep). IsAccepted s.rules accepted s.diagrams v k s.quad r answer) (sided_value s.qubits t u is) a

  pub kept_next : length s.steps < 2000000 → Told (Ok tt) → IsKept (state_with s.qubits s.rules (s.steps ++ t ∷ []) v r)
  kept_next few told = record {
    few_qubits = h.few_qubits;
    few_steps = omega (arith, long, few);
    sound = a.keeps.sound;
    variables = a.keeps.variables ∙ h.variables;
    limit = a.keeps.limit ∙ h.limit;
    capacity = a.keeps.capacity ∙ h.capacity;
    stands = a.stands;
    shows = subst (λ (m : Scaled). ShowsMatrix s.qubits v.store r m) (sym (work_matrix-last s.qubits s.steps t)) (shows_next s.qubits s.diagrams.store s.quad (work_matrix s.qubits s.steps) t h.shows on v.store r a.keeps.sound.store a.keeps.variables h.variables a.settled);
    small =
        let small = h.small in let half = one_half s.qubits t (sliced_step s.qubits t) (sided_is s.qubits t on) in let over = a.settled.halfway.exponent in
        omega (arith, half, over, small, long);
    narrow = a.narrow;
    kept = keeps_on s.qubits s.diagrams v s.quad r a.keeps a.kept h.kept;
  }
    where
      a : IsAccepted s.rules accepted s.diagrams v (sliced_step s.qubits t) s.quad r (Ok tt)
      a = own (Ok tt) told

      long : length (s.steps ++ t ∷ []) ≡ length s.steps + 1
      long = length-append {A = Step} s.steps (t ∷ [])

  pub kept_stop : (stop : Stop) → Told (Err stop) → IsKept (state_with s.qubits s.rules s.steps v r)
  kept_stop stop a = record {
    few_qubits = h.few_qubits;
    few_steps = h.few_steps;
    sound = a.keeps.sound;
    variables = a.keeps.variables ∙ h.variables;
    limit = a.keeps.limit ∙ h.limit;
    capacity = a.keeps.capacity ∙ h.capacity;
    stands = a.stands;
    shows = subst (λ (p : SliceQuad). ShowsMatrix s.qubits v.store p (work_matrix s.qubits s.steps)) (sym a.refused) (shows_on s.qubits s.diagrams v s.quad (work_matrix s.qubits s.steps) a.keeps h.shows);
    small = subst (λ (p : SliceQuad). p.exponent ≤ length s.steps) (sym a.refused) h.small;
    narrow = subst (λ (p : SliceQuad). length p.four.a ≤ s.rules.width) (sym a.refused) h.narrow;
    kept = keeps_on s.qubits s.diagrams v s.quad r a.keeps a.kept h.kept;
  }

  pub step_came : length s.steps < 2000000 → Told (Ok tt) → Steps s t (Ok tt) (state_with s.qubits s.rules (s.steps ++ t ∷ []) v r)
  step_came few told =
      proceeded matrix_chain RawStepFits s.qubits s.rules s.steps s.diagrams s.quad (holds s h) t (sliced_step s.qubits t) (sided_functions s.qubits t) accepted count v r (own (Ok tt) told)
      (fits_shown s.qubits s.diagrams.store s.quad (work_matrix s.qubits s.steps) t h.shows on s.rules.width) (holds (state_with s.qubits s.rules (s.steps ++ t ∷ []) v r) (kept_next few told))

  pub step_stopped : (stop : Stop) → Told (Err stop) → Steps s t (Err stop) (state_with s.qubits s.rules s.steps v r)
  step_stopped stop told =
      stood matrix_chain RawStepFits s.qubits s.rules s.steps s.diagrams s.quad (holds s h) t (sliced_step s.qubits t) (sided_functions s.qubits t) accepted count v r stop (own (Err stop) told)
      (fits_from s.qubits s.diagrams.store s.quad (work_matrix s.qubits s.steps) t h.shows on s.rules.width h.sound.store h.variables)

-- ---- what is read
pub entry_is : (s : State) (r c x : List Bool) → IsKept s → length r ≡ s.qubits → length c ≡ s.qubits → x ≡ woven r c → entries_in s.diagrams.store s.quad.four x ≡ (work_matrix s.qubits s.steps).entries (r ++ c)
unfolding entries_in
entry_is s r c x h er ec e = ap (λ (l : List Bool). vector_in s.diagrams.store s.quad.four (bit l)) e ∙ sym (h.shows.entries r c er ec)

pub woven_long : (s : State) (r c x : List Bool) → IsKept s → length r ≡ s.qubits → length c ≡ s.qubits → x ≡ woven r c → length x ≡ length s.diagrams.store.order
woven_long s r c x h er ec e =
    ap (λ (l : List Bool). length l) e ∙ length-woven r c (er ∙ sym ec) ∙ ap (λ i. 2 * i) er ∙ sym h.variables

-- ---- on which variables a step acts
pub rows_below : (n : ℕ) (m : MatrixStep) (g : Gate) → m ≡ Left g → IsOn n (gate_of (step_in m)) → All (λ q. place_on Rows q < 2 * n) (qubits_of g)
rows_below n m g e on =
    let here : IsOn n g = subst (λ (k : MatrixStep). IsOn n (gate_of (step_in k))) e on in
    λ i d lt. let less = here.below i d lt in omega (arith, less)

pub columns_below : (n : ℕ) (m : MatrixStep) (g : Gate) → m ≡ Right g → IsOn n (gate_of (step_in m)) → All (λ q. place_on Columns q < 2 * n) (qubits_of g)
columns_below n m g e on =
    let here : IsOn n g = subst (λ (k : MatrixStep). IsOn n (gate_of (step_in k))) e on in
    λ i d lt. let less = here.below i d lt in omega (arith, less)

pub sided_left : (n : ℕ) (m : MatrixStep) (g : Gate) (s : SlicedStep) → m ≡ Left g → IsStepOf (2 * n) Rows g s → IsSided n (step_in m) s
sided_left n m g s e is = subst (λ (k : MatrixStep). IsSided n (step_in k) s) (sym e) is

pub sided_right : (n : ℕ) (m : MatrixStep) (g : Gate) (s : SlicedStep) → m ≡ Right g → IsStepOf (2 * n) Columns g s → IsSided n (step_in m) s
sided_right n m g s e is = subst (λ (k : MatrixStep). IsSided n (step_in k) s) (sym e) is
