-- After a step on either side, the four are the working matrix.
use Rattle.std.proofs.Common.{◌≡◌, ℕ, ◌+◌, ◌*◌, Bool, List, ◌++◌, take, drop, length, sym, ◌∙◌, ap, subst, arith}
use Rattle.std.proofs.Math.Path.{ap₂}
use Rattle.std.proofs.lemmas.List.{length-take-le, length-drop, length-append}
use Rattle.bit_lists.specs.Lists.{all_lists, place_of, bits_at, with_bits}
use Rattle.gate_set.specs.declared.gate.Gate.{Gate}
use Rattle.gate_set.specs.Matrix.{times_entry}
use Rattle.gate_set.specs.Shape.{qubits_of, gate_entry}
use Rattle.circuit_model.specs.Working.{Scaled, scaled, halved}
use Rattle.circuit_model.specs.Working as circuits
use Rattle.circuit_model.proofs.SumLemmas.{sum_over-same, length-with_bits}
use Rattle.circuit_model.proofs.VectorLemmas.{applied-same}
use Rattle.circuit_model.proofs.WorkingLemmas.{IsHalved-halved}
use Rattle.diagram_model.specs.Functions.{bit}
use Rattle.diagram_model.specs.Stores.{Diagram, IsSound}
use Rattle.slice_quad.specs.declared.four.Four.{Four}
use Rattle.slice_quad.specs.Mix.{Vector}
use Rattle.slice_quad.specs.Settled.{IsSettled}
use Rattle.slice_quad.specs.Vectors.{vector_in, FitsWidth}
use Rattle.slice_gates.specs.declared.side.Side.TheVariants.{Rows, Columns}
use Rattle.slice_quad.specs.declared.kind.Step.{Step}
use Rattle.slice_gates.specs.Shown.{at_lists, first_values, ReadsBelow, IsMatrixShown}
use Rattle.slice_gates.specs.Sides.{Matrix, woven, by_position, joined, left_product, right_product}
use Rattle.slice_quad.specs.Stepping.{stepped}
use Rattle.slice_gates.specs.Stepped.{IsStepOf}
use Rattle.slice_gates.proofs.Halvings.{halved-of_same, halved_once}
use Rattle.slice_gates.proofs.Matrices.{left_stepped, right_stepped}
use Rattle.slice_gates.proofs.Moved.{halved-moved, length-woven, rewoven, rewoven-covers, unwoven, take_front, drop_front}
use Rattle.slice_gates.proofs.Agreeing.{length-first_values, at_list}
use Rattle.slice_gates.proofs.Shown.{halved_from, fits_quad, quad_fits}

pub left_shown : (n : ℕ) (d : Diagram) (f : Four) (k : ℕ) (w : Scaled) (g : Gate) (s : Step) (r c : List Bool) → IsMatrixShown n d f k w → IsStepOf (2 * n) Rows g s → length r ≡ n → length c ≡ n
    → left_product g (by_position w.entries) r c ≡ stepped s (vector_in d f) (bit (woven r c))
left_shown n d f k w g s r c shown is er ec =
    applied-same g (λ y. w.entries (y ++ c)) (λ y. at_lists (vector_in d f) (woven y c)) r (λ y len. shown.entries y c (len ∙ er) ec)
    ∙ left_stepped n g s (vector_in d f) r c is er ec

pub right_shown : (n : ℕ) (d : Diagram) (f : Four) (k : ℕ) (w : Scaled) (g : Gate) (s : Step) (r c : List Bool) → IsMatrixShown n d f k w → IsStepOf (2 * n) Columns g s → length r ≡ n → length c ≡ n
    → right_product g (by_position w.entries) r c ≡ stepped s (vector_in d f) (bit (woven r c))
right_shown n d f k w g s r c shown is er ec =
    sum_over-same (all_lists (length (qubits_of g))) _ _
    (λ y. ap (times_entry (gate_entry g (place_of y) (place_of (bits_at c (qubits_of g))))) (shown.entries r (with_bits c (qubits_of g) y) er (length-with_bits c (qubits_of g) y ∙ ec)))
    ∙ right_stepped n g s (vector_in d f) r c is er ec

-- a working matrix whose product is the step's vector, halved
pub matrix_shown : (n : ℕ) (v : Vector) (m : ℕ) (p : Matrix) (e : Diagram) (q : Four) (j : ℕ) → ((r c : List Bool) → length r ≡ n → length c ≡ n → p r c ≡ v (bit (woven r c)))
    → IsSound e → length e.order ≡ 2 * n → IsSettled e v m q j → IsMatrixShown n e q j (halved (n + n) (joined n p) m)
matrix_shown n v m p e q j same sound size settled =
    let parts : (x : List Bool) → length x ≡ n + n → (length (take n x) ≡ n) × (length (drop n x) ≡ n) = λ x len. (length-take-le n x (omega (arith, len)), length-drop n x ∙ omega (arith, len)) in
    let long : (x : List Bool) → length x ≡ n + n → length (rewoven n x) ≡ 2 * n = λ x len. length-woven (take n x) (drop n x) ((parts x len).0 ∙ sym (parts x len).1) ∙ ap (λ i. 2 * i) (parts x len).0 in
    let ours = halved-moved (n + n) (2 * n) (rewoven n) (at_lists v) m (scaled (at_lists (vector_in e q)) j) long (rewoven-covers n) (halved_from (2 * n) e v m q j sound size settled) in
    let theirs = halved-of_same (n + n) (joined n p) (λ x. at_lists v (rewoven n x)) m (halved (n + n) (joined n p) m) (λ x len. sym (same (take n x) (drop n x) (parts x len).0 (parts x len).1)) (IsHalved-halved (n + n) (joined n p) m) in
    let both = halved_once (n + n) (λ x. at_lists v (rewoven n x)) m (halved (n + n) (joined n p) m) (scaled (λ x. at_lists (vector_in e q) (rewoven n x)) j) theirs ours in
    record {
      exponent = both.0;
      entries = λ r c er ec.
          let here : rewoven n (r ++ c) ≡ woven r c = ap₂ woven (take_front r c n er) (drop_front r c n er) in
          both.1 (r ++ c) (length-append r c ∙ ap₂ (λ a b. a + b) er ec) ∙ ap (at_lists (vector_in e q)) here;
    }

-- a matrix fits by positions where its vector does by assignments
pub matrix_fits : (n width : ℕ) (v : Vector) (p : Matrix) → ((r c : List Bool) → length r ≡ n → length c ≡ n → p r c ≡ v (bit (woven r c))) → FitsWidth width v → circuits.FitsWidth (n + n) width (joined n p)
matrix_fits n width v p same fits x len =
    subst (circuits.QuadFits width) (sym (same (take n x) (drop n x) (length-take-le n x (omega (arith, len))) (length-drop n x ∙ omega (arith, len))))
    (fits_quad width v (bit (woven (take n x) (drop n x))) fits)

-- and only there
pub matrix_fits_from : (n width : ℕ) (v : Vector) (p : Matrix) → ((r c : List Bool) → length r ≡ n → length c ≡ n → p r c ≡ v (bit (woven r c))) → ReadsBelow (2 * n) v → circuits.FitsWidth (n + n) width (joined n p) → FitsWidth width v
matrix_fits_from n width v p same reads fits z x =
    let l = first_values (2 * n) x in
    let h = unwoven n l (length-first_values (2 * n) x) in
    let r = h.0 in let c = h.1 in
    let here : joined n p (r ++ c) ≡ v x =
    ap₂ p (take_front r c n h.2) (drop_front r c n h.2) ∙ same r c h.2 h.3 ∙ ap (at_lists v) h.4 ∙ sym (at_list (2 * n) v x reads) in
    quad_fits width (v x) z (subst (circuits.QuadFits width) here (fits (r ++ c) (length-append r c ∙ ap₂ (λ a b. a + b) h.2 h.3)))
