-- After all steps the working matrix has the values of U·V†.
use Rattle.std.proofs.Common.{◌≡◌, ℕ, ◌+◌, ◌*◌, nat_le, refl, sym, ◌∙◌, ap, subst, Bool, true, false, cond, List, [], ◌∷◌, ◌++◌, map, length, take, drop, All, arith}
use Rattle.std.proofs.Math.Path.{ap₂}
use Rattle.std.specs.List.{fold}
use Rattle.std.proofs.lemmas.List.{append_assoc, append-nil, length-append, length-drop, length-take-le}
use Rattle.std.proofs.Math.Seq.{take-append_seam, drop-append_seam}
use Rattle.std.proofs.lemmas.List.Sums.{fold-append, sum_by_push, sum_by-cons}
use Rattle.ring_omega.specs.declared.quad.Quad.{Quad}
use Rattle.ring_omega.specs.Ring.{one_quad, product_of, times_power, root_of_two}
use Rattle.ring_omega.specs.Value.{SameValue}
use Rattle.ring_omega.proofs.LowestLemmas.{times_power-product_of, times_power-add}
use Rattle.bit_lists.specs.Lists.{all_lists, place_of, bits_at, with_bits}
use Rattle.gate_set.specs.declared.gate.Gate.{Gate}
use Rattle.gate_set.specs.Matrix.{times_entry, half_power_of}
use Rattle.gate_set.specs.Shape.{IsOn, qubits_of, gate_entry}
use Rattle.gate_set.specs.Circuits.{inverse_gate, inverse_gates}
use Rattle.gate_set.proofs.MatrixLemmas.{IsOn-inverse}
use Rattle.circuit_model.specs.Product.{basis_state, amp, exponent}
use Rattle.circuit_model.specs.Working.{Scaled, scaled, HasValues}
use Rattle.circuit_model.proofs.SumLemmas.{sum_over-same, length-with_bits}
use Rattle.circuit_model.proofs.VectorLemmas.{applied-same}
use Rattle.circuit_model.proofs.WorkingLemmas.{halved-HasValues}
use Rattle.comparison.specs.Scalars.{Matrix, comparison, compared, scalar_entry}
use Rattle.comparison.specs.Products.{right_product, Step, gate_of, times_step, joined, by_position, raw_matrix, step_matrix, work_matrix}
use Rattle.comparison.specs.Products.Step.{left, right}
use Rattle.comparison.specs.Steps.{mixed, steps_of}
use Rattle.comparison.proofs.Linear.{run, amp-run, times_entry-product}
use Rattle.comparison.proofs.Undo.{heads, inverse_gates-cons, rooted-run, run-append}
use Rattle.comparison.proofs.Columns.{gate_before}
use Rattle.comparison.proofs.ScalarTest.{rooted-sum_over}
use Rattle.gate_set.specs.declared.entry.Entry.{Entry}
use Rattle.gate_set.specs.declared.entry.Entry.TheVariants.{Zero, Omega, Root2}
use Rattle.ring_omega.specs.Ring.{omega_unit}
use Rattle.ring_omega.proofs.RingLaws.{times_power-zero, times_power-exchange}

abbrev roots : ℕ → Quad → Quad
roots m q = times_power root_of_two m q

-- ---- a step reads entries on n qubits only, and a power of the root of two goes through it
pub times_step-same : (n : ℕ) (s : Step) (a b : Matrix) (r c : List Bool) → ((r c : List Bool) → length r ≡ n → length c ≡ n → a r c ≡ b r c) → length r ≡ n → length c ≡ n
    → times_step s a r c ≡ times_step s b r c
unfolding right_product
times_step-same n (left g) a b r c h lr lc = applied-same g (λ s. a s c) (λ s. b s c) r (λ y ly. h y c (ly ∙ lr) lc)
times_step-same n (right g) a b r c h lr lc =
    sum_over-same (all_lists (length (qubits_of g))) _ _
    (λ y. ap (times_entry (gate_entry g (place_of y) (place_of (bits_at c (qubits_of g))))) (h r (with_bits c (qubits_of g) y) lr (length-with_bits c (qubits_of g) y ∙ lc)))

times_entry-rooted : (m : ℕ) (e : Entry) (q : Quad) → roots m (times_entry e q) ≡ times_entry e (roots m q)
times_entry-rooted m Zero q = times_power-zero root_of_two m
times_entry-rooted m (Omega j) q = times_power-exchange root_of_two omega_unit m j q
times_entry-rooted m Root2 q = times_power-product_of root_of_two m q

times_step-rooted : (m : ℕ) (s : Step) (a : Matrix) (r c : List Bool) → roots m (times_step s a r c) ≡ times_step s (λ r c. roots m (a r c)) r c
unfolding right_product
times_step-rooted m (left g) a r c = sym (rooted-run m (g ∷ []) (λ s. a s c) r)
times_step-rooted m (right g) a r c =
    rooted-sum_over m (all_lists (length (qubits_of g))) (λ y. times_entry (gate_entry g (place_of y) (place_of (bits_at c (qubits_of g)))) (a r (with_bits c (qubits_of g) y)))
    ∙ sum_over-same (all_lists (length (qubits_of g))) _ _
    (λ y. times_entry-rooted m (gate_entry g (place_of y) (place_of (bits_at c (qubits_of g)))) (a r (with_bits c (qubits_of g) y)))

-- ---- the gates whose product the matrix is
abbrev with_step : List Gate → Step → List Gate
with_step gates (left g) = gates ++ g ∷ []
with_step gates (right g) = g ∷ gates

abbrev product_matrix : List Gate → Matrix
product_matrix gates r c = amp gates c r

step-product : (n : ℕ) (s : Step) (gates : List Gate) (r c : List Bool) → IsOn n (gate_of s) → length r ≡ n → length c ≡ n
    → times_step s (product_matrix gates) r c ≡ product_matrix (with_step gates s) r c
unfolding right_product
step-product n (left g) gates r c on lr lc =
    applied-same g (λ s. amp gates c s) (run gates (basis_state c)) r (λ y ly. amp-run gates c y)
    ∙ ap (λ u. u r) (sym (run-append gates (g ∷ []) (basis_state c)))
    ∙ sym (amp-run (gates ++ g ∷ []) c r)
step-product n (right g) gates r c on lr lc =
    sum_over-same (all_lists (length (qubits_of g))) _ _
    (λ y.
    times_entry-product (gate_entry g (place_of y) (place_of (bits_at c (qubits_of g)))) (amp gates (with_bits c (qubits_of g) y) r)
    ∙ ap (product_of (times_entry (gate_entry g (place_of y) (place_of (bits_at c (qubits_of g)))) one_quad)) (amp-run gates (with_bits c (qubits_of g) y) r))
    ∙ sym (gate_before n g gates c r on lc lr)
    ∙ sym (amp-run (g ∷ gates) c r)

step-exponent : (s : Step) (gates : List Gate) → exponent (with_step gates s) ≡ exponent gates + half_power_of (gate_of s).kind
step-exponent (left g) gates = sum_by_push (λ (g : Gate). half_power_of g.kind) gates g
step-exponent (right g) gates = sum_by-cons (λ (g : Gate). half_power_of g.kind) g gates ∙ omega arith

-- ---- rows and columns of a joined list
pub take-joined : (n : ℕ) (r c : List Bool) → length r ≡ n → take n (r ++ c) ≡ r
take-joined n r c len = ap (λ k. take k (r ++ c)) (sym len) ∙ take-append_seam r c

pub drop-joined : (n : ℕ) (r c : List Bool) → length r ≡ n → drop n (r ++ c) ≡ c
drop-joined n r c len = ap (λ k. drop k (r ++ c)) (sym len) ∙ drop-append_seam r c

-- ---- one step keeps the values
abbrev HasProduct : ℕ → Scaled → List Gate → Type 0
HasProduct n w gates = HasValues (n + n) w (joined n (product_matrix gates)) (exponent gates)

step-HasProduct : (n : ℕ) (w : Scaled) (s : Step) (gates : List Gate) → IsOn n (gate_of s) → HasProduct n w gates → HasProduct n (step_matrix n w s) (with_step gates s)
step-HasProduct n w s gates on h =
    halved-HasValues (n + n) (raw_matrix n w s).entries (raw_matrix n w s).exponent (joined n (product_matrix (with_step gates s))) (exponent (with_step gates s))
    (λ x len. subst (λ k. SameValue ((raw_matrix n w s).entries x) (raw_matrix n w s).exponent (joined n (product_matrix (with_step gates s)) x) k) (sym (step-exponent s gates)) (raw_value x len))
  where
    d : ℕ
    d = half_power_of (gate_of s).kind

    e : ℕ
    e = exponent gates

    entry_value : (r c : List Bool) → length r ≡ n → length c ≡ n → roots e (by_position w.entries r c) ≡ roots w.exponent (product_matrix gates r c)
    entry_value r c lr lc =
        h (r ++ c) (length-append r c ∙ ap₂ (λ i j. i + j) lr lc)
        ∙ ap₂ (λ y z. roots w.exponent (product_matrix gates y z)) (take-joined n r c lr) (drop-joined n r c lr)

    middle : (r c : List Bool) → length r ≡ n → length c ≡ n → roots e (times_step s (by_position w.entries) r c) ≡ roots w.exponent (product_matrix (with_step gates s) r c)
    middle r c lr lc =
        times_step-rooted e s (by_position w.entries) r c
        ∙ times_step-same n s (λ r c. roots e (by_position w.entries r c)) (λ r c. roots w.exponent (product_matrix gates r c)) r c entry_value lr lc
        ∙ sym (times_step-rooted w.exponent s (product_matrix gates) r c)
        ∙ ap (roots w.exponent) (step-product n s gates r c on lr lc)

    raw_value : (x : List Bool) → length x ≡ n + n → SameValue ((raw_matrix n w s).entries x) (raw_matrix n w s).exponent (joined n (product_matrix (with_step gates s)) x) (e + d)
    raw_value x len =
        let r = take n x in
        let c = drop n x in
        times_power-add root_of_two d e (times_step s (by_position w.entries) r c)
        ∙ ap (roots d) (middle r c (length-take-le n x (omega arith)) (length-drop n x ∙ omega arith))
        ∙ sym (times_power-add root_of_two d w.exponent (product_matrix (with_step gates s) r c))

-- ---- all steps
abbrev StepsOn : ℕ → List Step → Type 0
StepsOn n [] = Unit {0}
StepsOn n (s ∷ steps) = IsOn n (gate_of s) × StepsOn n steps

steps-HasProduct : (n : ℕ) (steps : List Step) (w : Scaled) (gates : List Gate) → StepsOn n steps → HasProduct n w gates
    → HasProduct n (fold (step_matrix n) w steps) (fold with_step gates steps)
steps-HasProduct n [] w gates on h = h
steps-HasProduct n (s ∷ steps) w gates on h = steps-HasProduct n steps (step_matrix n w s) (with_step gates s) on.1 (step-HasProduct n w s gates on.0 h)

-- one step more
pub work_matrix-last : (n : ℕ) (steps : List Step) (s : Step) → work_matrix n (steps ++ s ∷ []) ≡ step_matrix n (work_matrix n steps) s
unfolding work_matrix
work_matrix-last n steps s = fold-append (step_matrix n) _ steps (s ∷ [])

-- the working matrix of any steps has the values of their product
pub work_matrix-HasProduct : (n : ℕ) (steps : List Step) → StepsOn n steps → HasProduct n (work_matrix n steps) (fold with_step [] steps)
unfolding work_matrix amp
work_matrix-HasProduct n steps on = steps-HasProduct n steps (scaled (joined n (scalar_entry one_quad)) 0) [] on (λ x len. refl)

-- ---- the steps of two circuits
gates-lefts : (us pre : List Gate) → fold with_step pre (map left us) ≡ pre ++ us
gates-lefts [] pre = sym (append-nil pre)
gates-lefts (u ∷ us) pre = gates-lefts us (pre ++ u ∷ []) ∙ append_assoc pre (u ∷ []) us

gates-rights : (vs pre : List Gate) → fold with_step pre (map (λ v. right (inverse_gate v)) vs) ≡ inverse_gates vs ++ pre
gates-rights [] pre = refl
gates-rights (v ∷ vs) pre =
    gates-rights vs (inverse_gate v ∷ pre) ∙ sym (append_assoc (inverse_gates vs) (inverse_gate v ∷ []) pre)
    ∙ ap (λ l. l ++ pre) (sym (inverse_gates-cons v vs))

gates-mixed : (m p i j : ℕ) (us vs pre : List Gate) → fold with_step pre (mixed m p i j us vs) ≡ inverse_gates vs ++ (pre ++ us)
gates-mixed m p i j [] [] pre = sym (append-nil pre)
gates-mixed m p i j (u ∷ us) [] pre = gates-lefts (u ∷ us) pre
gates-mixed m p i j [] (v ∷ vs) pre = gates-rights (v ∷ vs) pre ∙ ap (λ l. inverse_gates (v ∷ vs) ++ l) (sym (append-nil pre))
gates-mixed m p i j (u ∷ us) (v ∷ vs) pre =
    by (nat_le (i * p) (j * m)) (gates-mixed m p (i + 1) j us (v ∷ vs) (pre ++ u ∷ [])) (gates-mixed m p i (j + 1) (u ∷ us) vs (inverse_gate v ∷ pre))
  where
    whole : List Gate
    whole = inverse_gates (v ∷ vs) ++ (pre ++ u ∷ us)

    by : (b : Bool)
        → fold with_step (pre ++ u ∷ []) (mixed m p (i + 1) j us (v ∷ vs)) ≡ inverse_gates (v ∷ vs) ++ ((pre ++ u ∷ []) ++ us)
        → fold with_step (inverse_gate v ∷ pre) (mixed m p i (j + 1) (u ∷ us) vs) ≡ inverse_gates vs ++ (inverse_gate v ∷ (pre ++ u ∷ us))
        → fold with_step pre (cond b (left u ∷ mixed m p (i + 1) j us (v ∷ vs)) (right (inverse_gate v) ∷ mixed m p i (j + 1) (u ∷ us) vs)) ≡ whole
    by true l r = l ∙ ap (λ k. inverse_gates (v ∷ vs) ++ k) (append_assoc pre (u ∷ []) us)
    by false l r = r ∙ sym (append_assoc (inverse_gates vs) (inverse_gate v ∷ []) (pre ++ u ∷ us)) ∙ ap (λ k. k ++ (pre ++ u ∷ us)) (sym (inverse_gates-cons v vs))

-- the product of all steps is that of the inverse of V and then U
gates-steps_of : (us vs : List Gate) → fold with_step [] (steps_of us vs) ≡ comparison us vs
gates-steps_of us vs = gates-mixed (length us) (length vs) 0 0 us vs []

StepsOn-lefts : (n : ℕ) (us : List Gate) → All (IsOn n) us → StepsOn n (map left us)
StepsOn-lefts n [] on = tt
StepsOn-lefts n (u ∷ us) on = let (here, rest) = heads n u us on in (here, StepsOn-lefts n us rest)

StepsOn-rights : (n : ℕ) (vs : List Gate) → All (IsOn n) vs → StepsOn n (map (λ v. right (inverse_gate v)) vs)
StepsOn-rights n [] on = tt
StepsOn-rights n (v ∷ vs) on = let (here, rest) = heads n v vs on in (IsOn-inverse n v here, StepsOn-rights n vs rest)

StepsOn-mixed : (n m p i j : ℕ) (us vs : List Gate) → All (IsOn n) us → All (IsOn n) vs → StepsOn n (mixed m p i j us vs)
StepsOn-mixed n m p i j [] [] on_us on_vs = tt
StepsOn-mixed n m p i j (u ∷ us) [] on_us on_vs = StepsOn-lefts n (u ∷ us) on_us
StepsOn-mixed n m p i j [] (v ∷ vs) on_us on_vs = StepsOn-rights n (v ∷ vs) on_vs
StepsOn-mixed n m p i j (u ∷ us) (v ∷ vs) on_us on_vs =
    let (on_u, rest_us) = heads n u us on_us in
    let (on_v, rest_vs) = heads n v vs on_vs in
    by (nat_le (i * p) (j * m)) (on_u, StepsOn-mixed n m p (i + 1) j us (v ∷ vs) rest_us on_vs) (IsOn-inverse n v on_v, StepsOn-mixed n m p i (j + 1) (u ∷ us) vs on_us rest_vs)
  where
    by : (b : Bool) → StepsOn n (left u ∷ mixed m p (i + 1) j us (v ∷ vs)) → StepsOn n (right (inverse_gate v) ∷ mixed m p i (j + 1) (u ∷ us) vs)
        → StepsOn n (cond b (left u ∷ mixed m p (i + 1) j us (v ∷ vs)) (right (inverse_gate v) ∷ mixed m p i (j + 1) (u ∷ us) vs))
    by true l r = l
    by false l r = r

-- after all steps of two circuits the working matrix has the values of U·V†
pub work_matrix-value : (n : ℕ) (us vs : List Gate) (r c : List Bool) → All (IsOn n) us → All (IsOn n) vs → length r ≡ n → length c ≡ n
    → SameValue ((work_matrix n (steps_of us vs)).entries (r ++ c)) (work_matrix n (steps_of us vs)).exponent (compared us vs r c) (exponent (comparison us vs))
work_matrix-value n us vs r c on_us on_vs lr lc =
    let w = work_matrix n (steps_of us vs) in
    let h : HasProduct n w (comparison us vs) = subst (HasProduct n w) (gates-steps_of us vs) (work_matrix-HasProduct n (steps_of us vs) (StepsOn-mixed n (length us) (length vs) 0 0 us vs on_us on_vs)) in
    h (r ++ c) (length-append r c ∙ ap₂ (λ i j. i + j) lr lc)
    ∙ ap₂ (λ y z. roots w.exponent (compared us vs y z)) (take-joined n r c lr) (drop-joined n r c lr)
