-- Vectors read the variables of their store alone, and steps the variables that they have beside.
use Rattle.std.proofs.Common.{◌≡◌, ℕ, zero, suc, ◌+◌, ◌*◌, ◌-◌, ◌^◌, ◌≤◌, pos, ◌-ℤ◌, Bool, true, false, cond, eqb, List, [], ◌∷◌, length, refl, ◌∙◌, ap, arith}
use Rattle.std.specs.Prelude.{◌&&◌, ◌==◌}
use Rattle.std.proofs.Math.Path.{ap₂}
use Rattle.diagram_ops.specs.Connectives.{number}
use Rattle.ring_omega.specs.declared.quad.Quad.{Quad}
use Rattle.ring_omega.specs.Ring.{sum_of}
use Rattle.ring_omega.proofs.RingLemmas.{quad_eq}
use Rattle.gate_set.specs.Matrix.{times_entry}
use Rattle.diagram_model.specs.Functions.{Assignment, put, bit}
use Rattle.diagram_model.specs.Nodes.{value}
use Rattle.diagram_model.specs.Stores.{Diagram, IsSound, function_of}
use Rattle.diagram_model.proofs.Sizes.{walk-agree}
use Rattle.diagram_model.proofs.Values.{below-order}
use Rattle.slice_vec.specs.Digits.{Digits, low_sum, slice_value}
use Rattle.slice_vec.specs.Slices.{digits_of, bit_node, value_at}
use Rattle.slice_quad.specs.declared.four.Four.{Four}
use Rattle.slice_quad.specs.Mix.{Vector, all_true, elsewhere, mixed}
use Rattle.slice_quad.specs.Exchange.{exchanged}
use Rattle.slice_quad.specs.Fours.{true_places}
use Rattle.slice_quad.specs.Vectors.{vector_in}
use Rattle.slice_quad.specs.declared.kind.Step.{Step}
use Rattle.slice_quad.specs.declared.kind.Step.TheVariants as steps
use Rattle.slice_quad.specs.Stepping.{stepped, mix_with, IsStepOn}
use Rattle.slice_gates.specs.Shown.{first_values, AgreeBelow, ReadsBelow}

-- ---- a list for each assignment
pub length-first_values : (n : ℕ) (x : Assignment) → length (first_values n x) ≡ n
unfolding first_values
length-first_values zero x = refl
length-first_values (suc n) x = ap suc (length-first_values n (λ i. x (suc i)))

pub first_values-agree : (n : ℕ) (x : Assignment) → AgreeBelow n x (bit (first_values n x))
unfolding first_values
first_values-agree zero x i less = absurd (omega arith)
first_values-agree (suc n) x zero less = refl
first_values-agree (suc n) x (suc i) less = first_values-agree n (λ j. x (suc j)) i (omega arith)

pub at_list : (n : ℕ) (v : Vector) (x : Assignment) → ReadsBelow n v → v x ≡ v (bit (first_values n x))
at_list n v x reads = reads x (bit (first_values n x)) (first_values-agree n x)

-- ---- integers in a store
low_sum-agree : (n : ℕ) (s : Digits) (x y : Assignment) → ((i : ℕ) → s i x ≡ s i y) → low_sum n s x ≡ low_sum n s y
unfolding low_sum
low_sum-agree zero s x y same = refl
low_sum-agree (suc n) s x y same = ap₂ (λ a b. a + 2 ^ n * number b) (low_sum-agree n s x y same) (same n)

value-agree : (m : ℕ) (s : Digits) (x y : Assignment) → ((i : ℕ) → s i x ≡ s i y) → slice_value m s x ≡ slice_value m s y
unfolding slice_value
value-agree m s x y same = ap₂ (λ a b. pos a -ℤ pos (2 ^ m * number b)) (low_sum-agree m s x y same) (same m)

node-agree : (d : Diagram) (n : ℕ) (x y : Assignment) → IsSound d → AgreeBelow (length d.order) x y → function_of d n x ≡ function_of d n y
unfolding function_of value
node-agree d n x y sound same =
    ap (λ m. eqb m 1) (walk-agree d.slots d.order x y n (λ v h. same v (below-order (length d.order) d.order v sound.diagram.order h)))

pub integer-agree : (d : Diagram) (ns : List ℕ) (x y : Assignment) → IsSound d → AgreeBelow (length d.order) x y → value_at d ns x ≡ value_at d ns y
unfolding digits_of
integer-agree d ns x y sound same = value-agree (length ns - 1) (digits_of d ns) x y (λ i. node-agree d (bit_node ns i) x y sound same)

pub vector-reads : (d : Diagram) (f : Four) → IsSound d → ReadsBelow (length d.order) (vector_in d f)
vector-reads d f sound x y same =
    quad_eq _ _ (integer-agree d f.a x y sound same) (integer-agree d f.b x y sound same) (integer-agree d f.c x y sound same) (integer-agree d f.d x y sound same)

-- ---- steps
put-agree : (n : ℕ) (x y : Assignment) (v : ℕ) (b c : Bool) → b ≡ c → AgreeBelow n x y → AgreeBelow n (put x v b) (put y v c)
put-agree n x y v b c e same i less = ap₂ (cond (eqb i v)) e (same i less)

all_true-agree : (cs : List Bool) (k : ℕ) (x y : Assignment) → AgreeBelow (k + length cs) x y → all_true (true_places k cs) x ≡ all_true (true_places k cs) y
unfolding all_true
all_true-agree [] k x y same = refl
all_true-agree (true ∷ cs) k x y same = ap₂ (λ a b. a && b) (same k (omega arith)) (all_true-agree cs (1 + k) x y (λ i less. same i (omega arith)))
all_true-agree (false ∷ cs) k x y same = all_true-agree cs (1 + k) x y (λ i less. same i (omega arith))

controls-agree : (n : ℕ) (cs : List Bool) (x y : Assignment) → length cs ≤ n → AgreeBelow n x y → all_true (true_places 0 cs) x ≡ all_true (true_places 0 cs) y
controls-agree n cs x y len same = all_true-agree cs 0 x y (λ i less. same i (omega arith))

pub stepped-reads : (n : ℕ) (s : Step) (v : Vector) → IsStepOn n s → ReadsBelow n v → ReadsBelow n (stepped s v)
unfolding mixed exchanged
stepped-reads n (steps.Mix cs t rows half) v on reads x y same =
    let target = same t on.2 in
    let entry = (mix_with cs t rows half).rows in
    let out = λ (q : Quad). elsewhere (half == 1) q in
    let low = reads (put x t false) (put y t false) (put-agree n x y t false false refl same) in
    let high = reads (put x t true) (put y t true) (put-agree n x y t true true refl same) in
    ap₂ (λ c r. cond c r (out (v x))) (controls-agree n cs x y on.1 same)
    (ap₂ sum_of
    (ap₂ times_entry (ap (λ r. entry r false) target) low)
    (ap₂ times_entry (ap (λ r. entry r true) target) high))
    ∙ ap (λ q. cond (all_true (true_places 0 cs) y) (sum_of (times_entry (entry (y t) false) (v (put y t false))) (times_entry (entry (y t) true) (v (put y t true)))) (out q)) (reads x y same)
stepped-reads n (steps.Exchange cs first second) v on reads x y same =
    let moved = reads (put (put x second (x first)) first (x second)) (put (put y second (y first)) first (y second))
    (put-agree n (put x second (x first)) (put y second (y first)) first (x second) (y second) (same second on.2) (put-agree n x y second (x first) (y first) (same first on.1) same)) in
    ap₂ (λ c r. cond c r (v x)) (controls-agree n cs x y on.0 same) moved ∙ ap (cond (all_true (true_places 0 cs) y) _) (reads x y same)
