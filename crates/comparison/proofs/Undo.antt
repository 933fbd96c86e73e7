-- A gate and its inverse undo each other.
use Rattle.std.proofs.Common.{◌≡◌, ℕ, zero, suc, ◌+◌, ◌*◌, ◌^◌, ◌<◌, refl, sym, ◌∙◌, ap, subst, Bool, true, false, cond, nat_eq, List, [], ◌∷◌, ◌++◌, length, length-append, map, reverse, All, arith}
use Rattle.std.proofs.Math.Path.{ap₂}
use Rattle.std.proofs.lemmas.List.{reverse-append, map-append}
use Rattle.std.proofs.lemmas.List.Sums.{fold-append, sum_by_push, sum_by-cons}
use Rattle.std.proofs.lemmas.Bool.Decides.{Decides-like, Decides-eqb, same_from_decides}
use Rattle.std.specs.Bool.{Decides}
use Rattle.ring_omega.specs.declared.quad.Quad.{Quad}
use Rattle.ring_omega.specs.Ring.{zero_quad, one_quad, product_of, conjugate_of, times_power, root_of_two}
use Rattle.ring_omega.proofs.RingLaws.{product_of-comm, product_of-assoc, times_power-factor}
use Rattle.ring_omega.proofs.LowestLemmas.{times_power-add}
use Rattle.bit_lists.specs.Lists.{all_lists, place_of, bits_at, with_bits}
use Rattle.bit_lists.proofs.Places.{place_of-below}
use Rattle.bit_lists.proofs.OrderLemmas.{same_place}
use Rattle.gate_set.specs.declared.gate.Gate.{Gate}
use Rattle.gate_set.specs.declared.kind.Kind.{Kind}
use Rattle.gate_set.specs.declared.kind.Kind.TheVariants.{Id, X, Y, Z, H, S, Sdg, T, Tdg, RxP, RxM, RyP, RyM, Cx, Cz, Swap, Ccx, Cswap, Phase}
use Rattle.gate_set.specs.Matrix.{arity_of, half_power_of, inverse_of, IsKind}
use Rattle.gate_set.specs.Shape.{IsOn, qubits_of}
use Rattle.gate_set.specs.Circuits.{inverse_gate, inverse_gates}
use Rattle.gate_set.specs.Unitary.{entry_value, sum_below, row_product, identity_entry}
use Rattle.gate_set.proofs.MatrixLemmas.{arity_of-inverse_of, IsKind-inverse, IsOn-inverse}
use Rattle.gate_set.proofs.UnitaryLemmas.{unitary, adjoint, halves}
use Rattle.circuit_model.specs.Product.{sum_over, applied, same_bits, exponent}
use Rattle.circuit_model.proofs.SumLemmas.{sum_over-same, length-bits_at}
use Rattle.circuit_model.proofs.VectorLemmas.{applied-same, same_bits-refl, same_bits-true}
use Rattle.comparison.proofs.Sums.{zero-product_of, sum_over-exchange, product-sum_over, sum_over-product, sum_over_lists-same, sum_over-places, sum_below-same, pick}
use Rattle.comparison.proofs.Linear.{term, applied-terms, run, run-same, run-scaled}
use Rattle.comparison.proofs.Bits.{AreApart, apart, with_bits-twice, bits_at-with_bits, with_bits-bits_at}

-- ---- inverses of inverses
pub inverse_of-twice : (k : Kind) → IsKind k → inverse_of (inverse_of k) ≡ k
inverse_of-twice Id h = refl
inverse_of-twice X h = refl
inverse_of-twice Y h = refl
inverse_of-twice Z h = refl
inverse_of-twice H h = refl
inverse_of-twice S h = refl
inverse_of-twice Sdg h = refl
inverse_of-twice T h = refl
inverse_of-twice Tdg h = refl
inverse_of-twice RxP h = refl
inverse_of-twice RxM h = refl
inverse_of-twice RyP h = refl
inverse_of-twice RyM h = refl
inverse_of-twice Cx h = refl
inverse_of-twice Cz h = refl
inverse_of-twice Swap h = refl
inverse_of-twice Ccx h = refl
inverse_of-twice Cswap h = refl
inverse_of-twice (Phase zero) h = refl
inverse_of-twice (Phase (suc zero)) h = refl
inverse_of-twice (Phase (suc (suc zero))) h = refl
inverse_of-twice (Phase (suc (suc (suc zero)))) h = refl
inverse_of-twice (Phase (suc (suc (suc (suc zero))))) h = refl
inverse_of-twice (Phase (suc (suc (suc (suc (suc zero)))))) h = refl
inverse_of-twice (Phase (suc (suc (suc (suc (suc (suc zero))))))) h = refl
inverse_of-twice (Phase (suc (suc (suc (suc (suc (suc (suc zero)))))))) h = refl
inverse_of-twice (Phase (suc (suc (suc (suc (suc (suc (suc (suc j))))))))) h = absurd (omega (arith, h))

pub inverse_gate-twice : (g : Gate) → IsKind g.kind → inverse_gate (inverse_gate g) ≡ g
inverse_gate-twice g h = let again : Kind → Gate = λ k. record { kind = k; on = g.on; extra = g.extra } in ap again (inverse_of-twice g.kind h)

-- ---- the matrix of the inverse kind times the matrix
pub inverse-times : (m : ℕ) (k : Kind) (r s : ℕ) → IsKind k → r < 2 ^ (m + arity_of k) → s < 2 ^ (m + arity_of k)
    → sum_below (2 ^ (m + arity_of k)) (λ y. product_of (entry_value m (inverse_of k) r y) (entry_value m k y s)) ≡ cond (nat_eq r s) (times_power root_of_two (2 * half_power_of k) one_quad) zero_quad
unfolding row_product identity_entry
inverse-times m k r s h lr ls =
    let l = inverse_of k in
    let hl : IsKind l = IsKind-inverse k in
    let size : 2 ^ (m + arity_of l) ≡ 2 ^ (m + arity_of k) = ap (λ n. 2 ^ (m + n)) (arity_of-inverse_of k) in
    let adjoint_l = adjoint m l hl in
    sum_below-same (2 ^ (m + arity_of k)) _ _
    (λ y lt.
    ap (λ i. product_of (entry_value m l r y) (entry_value m i y s)) (sym (inverse_of-twice k h))
    ∙ ap (product_of (entry_value m l r y)) (adjoint_l.transposed y s (subst (λ n. y < n) (sym size) lt) (subst (λ n. s < n) (sym size) ls)))
    ∙ ap (λ n. sum_below n (λ y. product_of (entry_value m l r y) (conjugate_of (entry_value m l s y)))) (sym size)
    ∙ unitary m l hl r s (subst (λ n. r < n) (sym size) lr) (subst (λ n. s < n) (sym size) ls)
    ∙ ap (λ i. cond (nat_eq r s) (times_power root_of_two (2 * i) one_quad) zero_quad) (adjoint m k h).same_half_power

-- ---- equal places
pub Decides-same_bits : (x y : List Bool) → Decides (same_bits x y) (x ≡ y)
Decides-same_bits x y = (same_bits-true x y, λ e. ap (λ z. same_bits x z) (sym e) ∙ same_bits-refl x)

pub same_bits-places : (x y : List Bool) → length x ≡ length y → nat_eq (place_of x) (place_of y) ≡ same_bits x y
same_bits-places x y len =
    same_from_decides _ _
    (Decides-like {P = place_of x ≡ place_of y} (nat_eq (place_of x) (place_of y)) (same_place x y len) (λ e. ap place_of e) (Decides-eqb (place_of x) (place_of y)))
    (Decides-same_bits x y)

chosen-product : (b : Bool) (p q : Quad) → product_of (cond b p zero_quad) q ≡ cond b (product_of p q) zero_quad
chosen-product true p q = refl
chosen-product false p q = zero-product_of q

-- ---- one gate
pub qubit_count : (n : ℕ) (g : Gate) → IsOn n g → length (qubits_of g) ≡ length g.extra + arity_of g.kind
qubit_count n g on = length-append g.extra g.on ∙ ap (λ i. length g.extra + i) on.placed.count

pub apart_of : (n : ℕ) (g : Gate) → IsOn n g → AreApart n (qubits_of g)
apart_of n g on = apart n (qubits_of g) on.below on.placed.different

-- a gate's terms after another gate on the same qubits
terms_after : (n : ℕ) (g : Gate) (v : List Bool → Quad) (x y : List Bool) → length x ≡ n → AreApart n (qubits_of g) → length y ≡ length (qubits_of g)
    → applied g v (with_bits x (qubits_of g) y) ≡ sum_over (all_lists (length (qubits_of g))) (λ z. product_of (entry_value (length g.extra) g.kind (place_of y) (place_of z)) (v (with_bits x (qubits_of g) z)))
unfolding term
terms_after n g v x y len a ly =
    applied-terms g v (with_bits x (qubits_of g) y)
    ∙ sum_over_lists-same (length (qubits_of g)) _ _
    (λ z lz.
    ap₂ (λ l m. product_of (entry_value (length g.extra) g.kind (place_of l) (place_of z)) (v m)) (bits_at-with_bits n x (qubits_of g) y len a ly) (with_bits-twice n x (qubits_of g) y z a ly lz))

-- the inverse gate undoes the gate, but for the factors 1/√2 that both leave out
pub undo_gate : (n : ℕ) (g : Gate) (v : List Bool → Quad) (x : List Bool) → length x ≡ n → IsOn n g
    → applied (inverse_gate g) (applied g v) x ≡ times_power root_of_two (2 * half_power_of g.kind) (v x)
unfolding term
undo_gate n g v x len on =
    let m = length g.extra in
    let k = g.kind in
    let l = inverse_of k in
    let all = all_lists (length (qubits_of g)) in
    let a = apart_of n g on in
    let r = bits_at x (qubits_of g) in
    let lr : length r ≡ length (qubits_of g) = length-bits_at x (qubits_of g) in
    let size : 2 ^ length (qubits_of g) ≡ 2 ^ (m + arity_of k) = ap (λ n. 2 ^ n) (qubit_count n g on) in
    let f : List Bool → Quad = λ z. v (with_bits x (qubits_of g) z) in
    let root = times_power root_of_two (2 * half_power_of k) one_quad in
    let small : (z : List Bool) → length z ≡ length (qubits_of g) → place_of z < 2 ^ (m + arity_of k) = λ z lz. subst (λ n. place_of z < n) (ap (λ n. 2 ^ n) lz ∙ size) (place_of-below z) in
    applied-terms (inverse_gate g) (applied g v) x
    ∙ sum_over_lists-same (length (qubits_of g)) _ _
    (λ y ly.
    ap (product_of (entry_value m l (place_of r) (place_of y))) (terms_after n g v x y len a ly)
    ∙ product-sum_over (entry_value m l (place_of r) (place_of y)) all (λ z. product_of (entry_value m k (place_of y) (place_of z)) (f z)))
    ∙ sum_over-exchange all all (λ y z. product_of (entry_value m l (place_of r) (place_of y)) (product_of (entry_value m k (place_of y) (place_of z)) (f z)))
    ∙ sum_over_lists-same (length (qubits_of g)) _ _
    (λ z lz.
    sum_over-same all _ _ (λ y. sym (product_of-assoc (entry_value m l (place_of r) (place_of y)) (entry_value m k (place_of y) (place_of z)) (f z)))
    ∙ sym (sum_over-product all (λ y. product_of (entry_value m l (place_of r) (place_of y)) (entry_value m k (place_of y) (place_of z))) (f z))
    ∙ ap (λ q. product_of q (f z))
    (sum_over-places (length (qubits_of g)) (λ j. product_of (entry_value m l (place_of r) j) (entry_value m k j (place_of z)))
    ∙ ap (λ n. sum_below n (λ j. product_of (entry_value m l (place_of r) j) (entry_value m k j (place_of z)))) size
    ∙ inverse-times m k (place_of r) (place_of z) on.placed.power (small r lr) (small z lz)
    ∙ ap (λ b. cond b root zero_quad) (same_bits-places r z (lr ∙ sym lz)))
    ∙ chosen-product (same_bits r z) root (f z))
    ∙ pick (length (qubits_of g)) r (λ z. product_of root (f z)) lr
    ∙ ap (λ y. product_of root (v y)) (with_bits-bits_at x (qubits_of g))
    ∙ product_of-comm root (v x) ∙ sym (times_power-factor root_of_two (2 * half_power_of k) (v x))

-- and the gate undoes its inverse
pub redo_gate : (n : ℕ) (g : Gate) (v : List Bool → Quad) (x : List Bool) → length x ≡ n → IsOn n g
    → applied g (applied (inverse_gate g) v) x ≡ times_power root_of_two (2 * half_power_of g.kind) (v x)
redo_gate n g v x len on =
    ap (λ h. applied h (applied (inverse_gate g) v) x) (sym (inverse_gate-twice g on.placed.power))
    ∙ undo_gate n (inverse_gate g) v x len (IsOn-inverse n g on)
    ∙ ap (λ h. times_power root_of_two (2 * h) (v x)) (halves g.kind)

-- ---- a run of gates
pub inverse_gates-cons : (g : Gate) (gates : List Gate) → inverse_gates (g ∷ gates) ≡ inverse_gates gates ++ inverse_gate g ∷ []
inverse_gates-cons g gates = reverse-append (inverse_gate g ∷ []) (map inverse_gate gates)

pub inverse_gates-last : (gates : List Gate) (g : Gate) → inverse_gates (gates ++ g ∷ []) ≡ inverse_gate g ∷ inverse_gates gates
inverse_gates-last gates g = ap reverse (map-append inverse_gate gates (g ∷ [])) ∙ reverse-append (map inverse_gate gates) (inverse_gate g ∷ [])

pub exponent-inverse_gates : (gates : List Gate) → exponent (inverse_gates gates) ≡ exponent gates
exponent-inverse_gates [] = refl
exponent-inverse_gates (g ∷ gates) =
    let h = λ (g : Gate). half_power_of g.kind in
    ap exponent (inverse_gates-cons g gates) ∙ sum_by_push h (inverse_gates gates) (inverse_gate g)
    ∙ omega (arith, exponent-inverse_gates gates, halves g.kind, sum_by-cons h g gates)

pub run-append : (gates more : List Gate) (v : List Bool → Quad) → run (gates ++ more) v ≡ run more (run gates v)
run-append gates more v = fold-append (λ u g. applied g u) v gates more

-- a power of the root of two goes through gates
pub rooted-run : (n : ℕ) (gates : List Gate) (v : List Bool → Quad) (x : List Bool) → run gates (λ y. times_power root_of_two n (v y)) x ≡ times_power root_of_two n (run gates v x)
rooted-run n gates v x =
    let one = times_power root_of_two n one_quad in
    let factor : (q : Quad) → times_power root_of_two n q ≡ product_of one q = λ q. times_power-factor root_of_two n q ∙ product_of-comm q one in
    run-same gates (λ y. times_power root_of_two n (v y)) (λ y. product_of one (v y)) x (λ y len. factor (v y)) ∙ run-scaled gates one v x ∙ sym (factor (run gates v x))

pub heads : (n : ℕ) (g : Gate) (gates : List Gate) → All (IsOn n) (g ∷ gates) → IsOn n g × All (IsOn n) gates
heads n g gates all = (all 0 g (omega arith), λ k d lt. all (suc k) d (omega arith))

-- the inverse gates undo the gates
pub undo : (n : ℕ) (gates : List Gate) (v : List Bool → Quad) (x : List Bool) → length x ≡ n → All (IsOn n) gates
    → run (inverse_gates gates) (run gates v) x ≡ times_power root_of_two (2 * exponent gates) (v x)
undo n [] v x len all = refl
undo n (g ∷ gates) v x len all =
    let (here, rest) = heads n g gates all in
    let h = half_power_of g.kind in
    let both : 2 * exponent (g ∷ gates) ≡ 2 * h + 2 * exponent gates = omega (arith, sum_by-cons (λ (g : Gate). half_power_of g.kind) g gates) in
    ap (λ l. run l (run gates (applied g v)) x) (inverse_gates-cons g gates)
    ∙ ap (λ u. u x) (run-append (inverse_gates gates) (inverse_gate g ∷ []) (run gates (applied g v)))
    ∙ applied-same (inverse_gate g) (run (inverse_gates gates) (run gates (applied g v))) (λ y. times_power root_of_two (2 * exponent gates) (applied g v y)) x (λ y len'. undo n gates (applied g v) y (len' ∙ len) rest)
    ∙ rooted-run (2 * exponent gates) (inverse_gate g ∷ []) (applied g v) x
    ∙ ap (times_power root_of_two (2 * exponent gates)) (undo_gate n g v x len here)
    ∙ sym (times_power-add root_of_two (2 * exponent gates) (2 * h) (v x))
    ∙ ap (λ m. times_power root_of_two m (v x)) (sym both)

-- and the gates undo the inverse gates
pub redo : (n : ℕ) (gates : List Gate) (v : List Bool → Quad) (x : List Bool) → length x ≡ n → All (IsOn n) gates
    → run gates (run (inverse_gates gates) v) x ≡ times_power root_of_two (2 * exponent gates) (v x)
redo n [] v x len all = refl
redo n (g ∷ gates) v x len all =
    let (here, rest) = heads n g gates all in
    let h = half_power_of g.kind in
    let inner = run (inverse_gates gates) v in
    let both : 2 * exponent (g ∷ gates) ≡ 2 * exponent gates + 2 * h = omega (arith, sum_by-cons (λ (g : Gate). half_power_of g.kind) g gates) in
    ap (λ l. run gates (applied g (run l v)) x) (inverse_gates-cons g gates)
    ∙ ap (λ u. run gates (applied g u) x) (run-append (inverse_gates gates) (inverse_gate g ∷ []) v)
    ∙ run-same gates (applied g (applied (inverse_gate g) inner)) (λ y. times_power root_of_two (2 * h) (inner y)) x (λ y len'. redo_gate n g inner y (len' ∙ len) here)
    ∙ rooted-run (2 * h) gates inner x
    ∙ ap (times_power root_of_two (2 * h)) (redo n gates v x len rest)
    ∙ sym (times_power-add root_of_two (2 * h) (2 * exponent gates) (v x))
    ∙ ap (λ m. times_power root_of_two m (v x)) (sym both)
