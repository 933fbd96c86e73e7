-- After a step, the four are the working vector of one gate more.
use Rattle.std.proofs.Common.{◌≡◌, ℕ, ◌+◌, ◌≤◌, Bool, List, length, refl, sym, ◌∙◌, ap, subst, arith}
use mathlib.Core.Path.{fun_ext}
use Rattle.ring_omega.specs.declared.quad.Quad.{Quad}
use Rattle.ring_omega.specs.Ring.{product_of, times_power}
use Rattle.ring_omega.proofs.RingLemmas.{quad_eq}
use Rattle.gate_set.specs.declared.gate.Gate.{Gate}
use Rattle.gate_set.specs.declared.kind.Kind.{Kind}
use Rattle.gate_set.specs.declared.kind.Kind.TheVariants.{Id, X, Y, Z, H, S, Sdg, T, Tdg, RxP, RxM, RyP, RyM, Cx, Cz, Swap, Ccx, Cswap, Phase}
use Rattle.gate_set.specs.Matrix.{half_power_of}
use Rattle.circuit_model.specs.Product.{applied}
use Rattle.circuit_model.specs.Working.{Scaled, scaled, two, IsHalved, halved, raw, step}
use Rattle.circuit_model.specs.Working as circuits
use Rattle.circuit_model.proofs.VectorLemmas.{applied-same}
use Rattle.circuit_model.proofs.WorkingLemmas.{IsHalved-halved}
use Rattle.diagram_model.specs.Functions.{Assignment, Function, bit}
use Rattle.diagram_model.specs.Stores.{Diagram, IsSound, function_of}
use Rattle.diagram_ops.specs.Diagrams.{StoreAndCache}
use Rattle.diagram_ops.specs.Made.{IsPrefixOfSome}
use Rattle.slice_vec.specs.Growing.{Grows}
use Rattle.slice_vec.proofs.Growing.{grows_wider}
use Rattle.slice_vec.specs.Slices.{IsEven, AreEven, value_at}
use Rattle.slice_vec.specs.Slices as slices
use Rattle.slice_quad.specs.declared.coord.Coord.{Coord}
use Rattle.slice_quad.specs.declared.coord.Coord.TheVariants.{A, B, C, D}
use Rattle.slice_quad.specs.declared.four.Four.{Four}
use Rattle.slice_quad.specs.Fours.{nodes_of}
use Rattle.slice_quad.specs.Mix.{Vector}
use Rattle.slice_quad.specs.Settled.{IsHalfway, IsSettled, doubled}
use Rattle.slice_quad.specs.declared.quad.SliceQuad.{SliceQuad}
use Rattle.slice_quad.specs.Stepping.{work_functions, IsWork}
use Rattle.slice_quad.specs.Stops.{OnWidth, QuadStopIs}
use Rattle.slice_quad.specs.Vectors.{vector_in, FitsWidth}
use Rattle.slice_quad.specs.declared.stop.QuadStop.{QuadStop}
use Rattle.slice_quad.specs.declared.stop.QuadStop.TheVariants as quads
use Rattle.slice_quad.specs.Turns.{coordinate}
use Rattle.slice_gates.specs.declared.side.Side.TheVariants.{State}
use Rattle.slice_quad.specs.declared.kind.Step.{Step}
use Rattle.slice_gates.proofs.Weaving.{on_state}
use Rattle.slice_quad.specs.Stepping.{stepped, half_of}
use Rattle.slice_gates.specs.Stepped.{step_for, IsStepOf}
use Rattle.slice_gates.specs.GateWork.{gate_work, IsGateWork}
use Rattle.slice_gates.proofs.GateWorks.{work_gate}
use Rattle.slice_gates.specs.Shown.{at_lists, first_values, ReadsBelow, IsShown, Shows, by_values}
use Rattle.slice_gates.proofs.Agreeing.{length-first_values, at_list, vector-reads, stepped-reads}
use Rattle.slice_gates.proofs.Doubles.{doubled_quad, two-is, times_power-two}
use Rattle.slice_gates.proofs.Halvings.{halved-of_same, halved_once}

-- an integer of the four is a coordinate of their vector
coordinate-in : (d : Diagram) (f : Four) (z : Coord) (x : Assignment) → coordinate z (vector_in d f x) ≡ value_at d (nodes_of f z) x
coordinate-in d f A x = refl
coordinate-in d f B x = refl
coordinate-in d f C x = refl
coordinate-in d f D x = refl

taken : (d : Diagram) (v : Vector) (k : ℕ) (f : Four) (j : ℕ) (h : IsHalfway d v k f j) (x : Assignment) → v x ≡ times_power two h.times (vector_in d f x)
taken d v k f j h x =
    quad_eq (v x) (doubled_quad h.times (vector_in d f x)) (h.values A x) (h.values B x) (h.values C x) (h.values D x)
    ∙ sym (times_power-two h.times (vector_in d f x))

-- the coordinates of twice a quadruple
even_coordinate : (q p : Quad) (z : Coord) → product_of q two ≡ p → IsEven (coordinate z p)
unfolding doubled
even_coordinate q p A e = (q.a, sym (ap (λ (r : Quad). r.a) e) ∙ ap (λ (r : Quad). r.a) (two-is q))
even_coordinate q p B e = (q.b, sym (ap (λ (r : Quad). r.b) e) ∙ ap (λ (r : Quad). r.b) (two-is q))
even_coordinate q p C e = (q.c, sym (ap (λ (r : Quad). r.c) e) ∙ ap (λ (r : Quad). r.c) (two-is q))
even_coordinate q p D e = (q.d, sym (ap (λ (r : Quad). r.d) e) ∙ ap (λ (r : Quad). r.d) (two-is q))

-- settled over assignments is halved over lists
pub halved_from : (n : ℕ) (d : Diagram) (v : Vector) (k : ℕ) (f : Four) (j : ℕ) → IsSound d → length d.order ≡ n → IsSettled d v k f j
    → IsHalved n (at_lists v) k (scaled (at_lists (vector_in d f)) j)
halved_from n d v k f j sound size h = record {
  times = h.halfway.times;
  exponent_left = h.halfway.exponent;
  taken_out = λ x len. taken d v k f j h.halfway (bit x);
  ended = λ two_left all. h.ended two_left (λ z x.
      let reads = vector-reads d f sound in
      let l = first_values (length d.order) x in
      let same : vector_in d f x ≡ vector_in d f (bit l) = at_list (length d.order) (vector_in d f) x reads in
      let half = all l (length-first_values (length d.order) x ∙ size) in
      subst IsEven (coordinate-in d f z x) (even_coordinate half.0 (vector_in d f x) z (half.1 ∙ sym same)));
}

-- the gate's matrix times the working vector is the step on the four
pub raw_shown : (n : ℕ) (d : Diagram) (f : Four) (k : ℕ) (w : Scaled) (g : Gate) (s : Step) → IsShown n d f k w → IsStepOf n State g s
    → (x : List Bool) → length x ≡ n → applied g w.entries x ≡ stepped s (vector_in d f) (bit x)
raw_shown n d f k w g s shown is x len =
    applied-same g w.entries (at_lists (vector_in d f)) x (λ y len'. shown.entries y (len' ∙ len)) ∙ sym (on_state g (at_lists (vector_in d f)) x) ∙ is.applied_is (vector_in d f) x len

pub step_shown : (n : ℕ) (d : Diagram) (f : Four) (k : ℕ) (w : Scaled) (g : Gate) (s : Step) (e : Diagram) (r : Four) (j : ℕ)
    → IsShown n d f k w → IsStepOf n State g s → IsSound e → length e.order ≡ n → IsSettled e (stepped s (vector_in d f)) (k + half_of s) r j
    → IsShown n e r j (step n w g)
step_shown n d f k w g s e r j shown is sound size settled =
    let v = stepped s (vector_in d f) in
    let m = w.exponent + half_power_of g.kind in
    let raised : k + half_of s ≡ m = omega (arith, shown.exponent, is.half) in
    let ours : IsHalved n (at_lists v) m (scaled (at_lists (vector_in e r)) j) = subst (λ i. IsHalved n (at_lists v) i (scaled (at_lists (vector_in e r)) j)) raised (halved_from n e v (k + half_of s) r j sound size settled) in
    let theirs = halved-of_same n (applied g w.entries) (at_lists v) m (step n w g) (λ x len. sym (raw_shown n d f k w g s shown is x len)) (IsHalved-halved n (applied g w.entries) m) in
    let both = halved_once n (at_lists v) m (step n w g) (scaled (at_lists (vector_in e r)) j) theirs ours in
    record { exponent = both.0; entries = both.1 }

-- ---- the width
pub fits_quad : (width : ℕ) (v : Vector) (x : Assignment) → FitsWidth width v → circuits.QuadFits width (v x)
fits_quad width v x h = record {
  a_fits = ((h A x).low, (h A x).high);
  b_fits = ((h B x).low, (h B x).high);
  c_fits = ((h C x).low, (h C x).high);
  d_fits = ((h D x).low, (h D x).high);
}

pub quad_fits : (width : ℕ) (q : Quad) (z : Coord) → circuits.QuadFits width q → slices.IsWithin width (coordinate z q)
quad_fits width q A h = record { low = h.a_fits.0; high = h.a_fits.1 }
quad_fits width q B h = record { low = h.b_fits.0; high = h.b_fits.1 }
quad_fits width q C h = record { low = h.c_fits.0; high = h.c_fits.1 }
quad_fits width q D h = record { low = h.d_fits.0; high = h.d_fits.1 }

-- raw fits on lists where the step's vector does on assignments
pub fits_shown : (n width : ℕ) (d : Diagram) (f : Four) (k : ℕ) (w : Scaled) (g : Gate) (s : Step) → IsShown n d f k w → IsStepOf n State g s
    → FitsWidth width (stepped s (vector_in d f)) → circuits.FitsWidth n width (raw g w).entries
fits_shown n width d f k w g s shown is fits x len =
    subst (circuits.QuadFits width) (sym (raw_shown n d f k w g s shown is x len)) (fits_quad width (stepped s (vector_in d f)) (bit x) fits)

-- and only there
pub fits_from : (n width : ℕ) (d : Diagram) (f : Four) (k : ℕ) (w : Scaled) (g : Gate) (s : Step) → IsSound d → length d.order ≡ n → IsShown n d f k w → IsStepOf n State g s
    → circuits.FitsWidth n width (raw g w).entries → FitsWidth width (stepped s (vector_in d f))
fits_from n width d f k w g s sound size shown is fits z x =
    let v = stepped s (vector_in d f) in
    let before : ReadsBelow n (vector_in d f) = subst (λ i. ReadsBelow i (vector_in d f)) size (vector-reads d f sound) in
    let reads = stepped-reads n s (vector_in d f) is.within before in
    let l = first_values n x in
    let len = length-first_values n x in
    let same : applied g w.entries l ≡ v x = raw_shown n d f k w g s shown is l len ∙ sym (at_list n v x reads) in
    quad_fits width (v x) z (subst (circuits.QuadFits width) same (fits l len))

-- where the step refused for its width, raw doesn't fit
pub unfit_shown : (n width : ℕ) (d : Diagram) (f : Four) (k : ℕ) (w : Scaled) (g : Gate) (s : Step) → IsSound d → length d.order ≡ n → IsShown n d f k w → IsStepOf n State g s
    → (why : QuadStop) → OnWidth (¬ FitsWidth width (stepped s (vector_in d f))) why → OnWidth (¬ circuits.FitsWidth n width (raw g w).entries) why
unfit_shown n width d f k w g s sound size shown is quads.Width unfit = λ fits. unfit (fits_from n width d f k w g s sound size shown is fits)
unfit_shown n width d f k w g s sound size shown is (quads.Full held) h = h
unfit_shown n width d f k w g s sound size shown is quads.OutOfMemory h = h

-- ---- the work functions
-- the four's vector, by the values of the variables
shown_vector : (n : ℕ) (d : Diagram) (f : Four) (k : ℕ) (w : Scaled) → IsSound d → length d.order ≡ n → IsShown n d f k w → by_values n w.entries ≡ vector_in d f
unfolding by_values
shown_vector n d f k w sound size shown =
    let reads : ReadsBelow n (vector_in d f) = subst (λ i. ReadsBelow i (vector_in d f)) size (vector-reads d f sound) in
    fun_ext (λ x. shown.entries (first_values n x) (length-first_values n x) ∙ sym (at_list n (vector_in d f) x reads))

-- the work functions of the step are those of the gate
work_same : (d : Diagram) (q : SliceQuad) (w : Scaled) (g : Gate) (s : Step) → IsSound d → Shows d q w → IsStepOf (length d.order) State g s
    → work_functions (length q.four.a) (function_of d q.kept.0) s (vector_in d q.four) ≡ gate_work (length d.order) (length q.four.a) (function_of d q.kept.0) g w.entries
unfolding gate_work
work_same d q w g s sound shown is =
    ap (λ (t : Step). work_functions (length q.four.a) (function_of d q.kept.0) t (vector_in d q.four)) is.value
    ∙ ap (λ (v : Vector). work_functions (length q.four.a) (function_of d q.kept.0) (step_for (length d.order) State g) v) (sym (shown_vector (length d.order) d q.four q.exponent w sound refl shown))
    ∙ work_gate (length d.order) State g (length q.four.a) (function_of d q.kept.0) (by_values (length d.order) w.entries)

gate_wanted : (d : Diagram) (q : SliceQuad) (w : Scaled) (g : Gate) (s : Step) → IsSound d → Shows d q w → IsStepOf (length d.order) State g s → (p : Function) → IsWork d s q p → IsGateWork d q g w.entries p
gate_wanted d q w g s sound shown is p h = subst (λ (fs : List Function). IsPrefixOfSome d.order fs p) (work_same d q w g s sound shown is) h

pub gate_grows : (u v : StoreAndCache) (q : SliceQuad) (w : Scaled) (g : Gate) (s : Step) → IsSound u.store → Shows u.store q w → IsStepOf (length u.store.order) State g s → Grows u (IsWork u.store s q) v → Grows u (IsGateWork u.store q g w.entries) v
gate_grows u v q w g s sound shown is k = grows_wider u v (IsWork u.store s q) (IsGateWork u.store q g w.entries) (gate_wanted u.store q w g s sound shown is) k

pub gate_stops : (d e : Diagram) (q : SliceQuad) (w : Scaled) (g : Gate) (s : Step) → IsSound d → Shows d q w → IsStepOf (length d.order) State g s → (why : QuadStop) → QuadStopIs e (IsWork d s q) why → QuadStopIs e (IsGateWork d q g w.entries) why
gate_stops d e q w g s sound shown is quads.Width h = h
gate_stops d e q w g s sound shown is (quads.Full held) h =
    (h.0, record { full = h.1.full; missing = h.1.missing; is = gate_wanted d q w g s sound shown is h.1.missing h.1.is; none = h.1.none })
gate_stops d e q w g s sound shown is quads.OutOfMemory h = h

-- the step, on as many variables as the store has
pub step_at : (m n : ℕ) (g : Gate) (s : Step) → m ≡ n → IsStepOf m State g s → IsStepOf n State g s
step_at m n g s e h = subst (λ i. IsStepOf i State g s) e h

-- a gate adds at most one root
pub few_halves : (k : Kind) → half_power_of k ≤ 1
few_halves Id = omega arith
few_halves X = omega arith
few_halves Y = omega arith
few_halves Z = omega arith
few_halves H = omega arith
few_halves S = omega arith
few_halves Sdg = omega arith
few_halves T = omega arith
few_halves Tdg = omega arith
few_halves RxP = omega arith
few_halves RxM = omega arith
few_halves RyP = omega arith
few_halves RyM = omega arith
few_halves Cx = omega arith
few_halves Cz = omega arith
few_halves Swap = omega arith
few_halves Ccx = omega arith
few_halves Cswap = omega arith
few_halves (Phase j) = omega arith

pub one_half : (n : ℕ) (g : Gate) (s : Step) → IsStepOf n State g s → half_of s ≤ 1
one_half n g s is = let few = few_halves g.kind in let half = is.half in omega (arith, few, half)

pub shows_next : (d e : Diagram) (q r : SliceQuad) (w : Scaled) (g : Gate) (s : Step) → Shows d q w → IsStepOf (length d.order) State g s → IsSound e → e.order ≡ d.order → IsSettled e (stepped s (vector_in d q.four)) (q.exponent + half_of s) r.four r.exponent → Shows e r (step (length d.order) w g)
shows_next d e q r w g s shown is sound same settled =
    let size : length e.order ≡ length d.order = ap (λ (l : List ℕ). length l) same in
    subst (λ i. IsShown i e r.four r.exponent (step (length d.order) w g)) (sym size)
    (step_shown (length d.order) d q.four q.exponent w g s e r.four r.exponent shown is sound size settled)
