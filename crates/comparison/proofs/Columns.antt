-- The column of a gate's matrix, and the conjugate transpose of a product.
use Rattle.std.proofs.Common.{◌≡◌, ℕ, ◌+◌, ◌^◌, ◌<◌, refl, sym, ◌∙◌, ap, subst, Bool, true, false, cond, ◌&&◌, List, [], ◌∷◌, length, All}
use Rattle.std.proofs.Math.Path.{ap₂}
use Rattle.std.proofs.lemmas.Bool.Decides.{Decides-like, Decides-and, same_from_decides}
use Rattle.ring_omega.specs.declared.quad.Quad.{Quad}
use Rattle.ring_omega.specs.Ring.{zero_quad, one_quad, sum_of, product_of, conjugate_of}
use Rattle.ring_omega.proofs.RingLaws.{conjugate_of-product, conjugate_of-sum}
use Rattle.bit_lists.specs.Lists.{all_lists, place_of, bits_at, with_bits}
use Rattle.bit_lists.proofs.Places.{place_of-below}
use Rattle.gate_set.specs.declared.gate.Gate.{Gate}
use Rattle.gate_set.specs.Matrix.{arity_of}
use Rattle.gate_set.specs.Shape.{IsOn, qubits_of}
use Rattle.gate_set.specs.Circuits.{inverse_gate, inverse_gates}
use Rattle.gate_set.specs.Unitary.{entry_value}
use Rattle.gate_set.proofs.UnitaryLemmas.{adjoint}
use Rattle.circuit_model.specs.Product.{sum_over, applied, basis_state, same_bits}
use Rattle.circuit_model.proofs.SumLemmas.{sum_over-same, length-with_bits, length-bits_at}
use Rattle.comparison.proofs.Sums.{sum_over_lists-same, pick}
use Rattle.comparison.proofs.Linear.{term, applied-terms, run, run-same, run-sum_over, run-scaled, product_of-chosen}
use Rattle.comparison.proofs.Bits.{AreApart, with_bits-twice, bits_at-with_bits, with_bits-bits_at}
use Rattle.comparison.proofs.Undo.{qubit_count, apart_of, Decides-same_bits, inverse_gates-cons, run-append, heads}

-- ---- where two basis states meet at a gate
-- x with the gate's bits set to y is c where y is what c has there and x is c elsewhere
meets : (n : ℕ) (qs : List ℕ) (x c y : List Bool) → AreApart n qs → length x ≡ n → length y ≡ length qs
    → same_bits (with_bits x qs y) c ≡ (same_bits (bits_at c qs) y && same_bits (with_bits x qs (bits_at c qs)) c)
meets n qs x c y a lx ly =
    same_from_decides _ _
    (Decides-same_bits (with_bits x qs y) c)
    (Decides-like {P = (bits_at c qs ≡ y) × (with_bits x qs (bits_at c qs) ≡ c)} _ back there
    (Decides-and _ _ (Decides-same_bits (bits_at c qs) y) (Decides-same_bits (with_bits x qs (bits_at c qs)) c)))
  where
    there : with_bits x qs y ≡ c → (bits_at c qs ≡ y) × (with_bits x qs (bits_at c qs) ≡ c)
    there e =
        let read : bits_at c qs ≡ y = ap (λ z. bits_at z qs) (sym e) ∙ bits_at-with_bits n x qs y lx a ly in
        (read, ap (with_bits x qs) read ∙ e)

    back : (bits_at c qs ≡ y) × (with_bits x qs (bits_at c qs) ≡ c) → with_bits x qs y ≡ c
    back both = ap (with_bits x qs) (sym both.0) ∙ both.1

flipped : (x y : List Bool) → same_bits x y ≡ same_bits y x
flipped x y = same_from_decides _ _ (Decides-same_bits x y) (Decides-like {P = y ≡ x} _ sym sym (Decides-same_bits y x))

-- x is c elsewhere
elsewhere : (n : ℕ) (qs : List ℕ) (x c : List Bool) → AreApart n qs
    → same_bits (with_bits x qs (bits_at c qs)) c ≡ same_bits (with_bits c qs (bits_at x qs)) x
elsewhere n qs x c a =
    same_from_decides _ _
    (Decides-same_bits (with_bits x qs (bits_at c qs)) c)
    (Decides-like {P = with_bits c qs (bits_at x qs) ≡ x} _ (turn c x) (turn x c) (Decides-same_bits (with_bits c qs (bits_at x qs)) x))
  where
    turn : (u w : List Bool) → with_bits u qs (bits_at w qs) ≡ w → with_bits w qs (bits_at u qs) ≡ u
    turn u w e =
        ap (λ z. with_bits z qs (bits_at u qs)) (sym e)
        ∙ with_bits-twice n u qs (bits_at w qs) (bits_at u qs) a (length-bits_at w qs) (length-bits_at u qs)
        ∙ with_bits-bits_at u qs

chosen_both : (a b : Bool) (q : Quad) → cond (a && b) q zero_quad ≡ cond a (cond b q zero_quad) zero_quad
chosen_both true b q = refl
chosen_both false b q = refl

-- a gate on a basis state is a column of its matrix
pub column : (n : ℕ) (g : Gate) (c x : List Bool) → IsOn n g → length c ≡ n → length x ≡ n
    → applied g (basis_state c) x ≡ sum_over (all_lists (length (qubits_of g))) (λ y. product_of (entry_value (length g.extra) g.kind (place_of y) (place_of (bits_at c (qubits_of g)))) (basis_state (with_bits c (qubits_of g) y) x))
unfolding term
column n g c x on lc lx =
    let qs = qubits_of g in
    let a = apart_of n g on in
    let e = λ (r s : List Bool). entry_value (length g.extra) g.kind (place_of r) (place_of s) in
    let b = same_bits (with_bits x qs (bits_at c qs)) c in
    let b' = same_bits (with_bits c qs (bits_at x qs)) x in
    let same : b ≡ b' = elsewhere n qs x c a in
    applied-terms g (basis_state c) x
    ∙ sum_over_lists-same (length qs) _ _
    (λ y ly.
    ap (λ t. product_of (e (bits_at x qs) y) (cond t one_quad zero_quad)) (meets n qs x c y a lx ly)
    ∙ product_of-chosen (e (bits_at x qs) y) (same_bits (bits_at c qs) y && b) ∙ chosen_both (same_bits (bits_at c qs) y) b (e (bits_at x qs) y))
    ∙ pick (length qs) (bits_at c qs) (λ y. cond b (e (bits_at x qs) y) zero_quad) (length-bits_at c qs)
    ∙ ap (λ t. cond t (e (bits_at x qs) (bits_at c qs)) zero_quad) same
    ∙ sym (pick (length qs) (bits_at x qs) (λ y. cond b' (e y (bits_at c qs)) zero_quad) (length-bits_at x qs))
    ∙ sum_over_lists-same (length qs) _ _
    (λ y ly.
    sym
    (ap (λ t. product_of (e y (bits_at c qs)) (cond t one_quad zero_quad)) (flipped x (with_bits c qs y) ∙ meets n qs c x y a lc ly)
    ∙ product_of-chosen (e y (bits_at c qs)) (same_bits (bits_at x qs) y && b') ∙ chosen_both (same_bits (bits_at x qs) y) b' (e y (bits_at c qs))))

-- so a gate before others multiplies their product from the right
pub gate_before : (n : ℕ) (g : Gate) (gates : List Gate) (c x : List Bool) → IsOn n g → length c ≡ n → length x ≡ n
    → run gates (applied g (basis_state c)) x
    ≡ sum_over (all_lists (length (qubits_of g))) (λ y. product_of (entry_value (length g.extra) g.kind (place_of y) (place_of (bits_at c (qubits_of g)))) (run gates (basis_state (with_bits c (qubits_of g) y)) x))
gate_before n g gates c x on lc lx =
    let e = λ (y : List Bool). entry_value (length g.extra) g.kind (place_of y) (place_of (bits_at c (qubits_of g))) in
    let all = all_lists (length (qubits_of g)) in
    run-same gates (applied g (basis_state c)) (λ z. sum_over all (λ y. product_of (e y) (basis_state (with_bits c (qubits_of g) y) z))) x (λ z len. column n g c z on lc (len ∙ lx))
    ∙ run-sum_over gates all (λ y z. product_of (e y) (basis_state (with_bits c (qubits_of g) y) z)) x
    ∙ sum_over-same all _ _ (λ y. run-scaled gates (e y) (basis_state (with_bits c (qubits_of g) y)) x)

-- ---- conjugates
conjugate-sum_over : (xs : List (List Bool)) (f : List Bool → Quad) → conjugate_of (sum_over xs f) ≡ sum_over xs (λ x. conjugate_of (f x))
unfolding conjugate_of
conjugate-sum_over [] f = refl
conjugate-sum_over (x ∷ xs) f = conjugate_of-sum (f x) (sum_over xs f) ∙ ap (sum_of (conjugate_of (f x))) (conjugate-sum_over xs f)

conjugate-basis : (x c : List Bool) → basis_state c x ≡ conjugate_of (basis_state x c)
unfolding conjugate_of
conjugate-basis x c = ap (λ t. cond t one_quad zero_quad) (flipped x c) ∙ by (same_bits c x)
  where
    by : (b : Bool) → cond b one_quad zero_quad ≡ conjugate_of (cond b one_quad zero_quad)
    by true = refl
    by false = refl

-- the product of the inverse gates is the conjugate transpose
pub adjoint_run : (n : ℕ) (gates : List Gate) (r c : List Bool) → All (IsOn n) gates → length r ≡ n → length c ≡ n
    → run (inverse_gates gates) (basis_state c) r ≡ conjugate_of (run gates (basis_state r) c)
unfolding term
adjoint_run n [] r c all lr lc = conjugate-basis r c
adjoint_run n (g ∷ gates) r c all lr lc =
    let (on, rest) = heads n g gates all in
    let k = g.kind in
    let lists = all_lists (length (qubits_of g)) in
    let m = length g.extra in
    let size : 2 ^ length (qubits_of g) ≡ 2 ^ (m + arity_of k) = ap (λ n. 2 ^ n) (qubit_count n g on) in
    let small : (z : List Bool) → length z ≡ length (qubits_of g) → place_of z < 2 ^ (m + arity_of k) = λ z lz. subst (λ i. place_of z < i) (ap (λ i. 2 ^ i) lz ∙ size) (place_of-below z) in
    let row = bits_at r (qubits_of g) in
    ap (λ l. run l (basis_state c) r) (inverse_gates-cons g gates)
    ∙ ap (λ u. u r) (run-append (inverse_gates gates) (inverse_gate g ∷ []) (basis_state c))
    ∙ applied-terms (inverse_gate g) (run (inverse_gates gates) (basis_state c)) r
    ∙ sum_over_lists-same (length (qubits_of g)) _ _
    (λ y ly.
    ap₂ product_of
    ((adjoint m k on.placed.power).transposed (place_of row) (place_of y) (small row (length-bits_at r (qubits_of g))) (small y ly))
    (adjoint_run n gates (with_bits r (qubits_of g) y) c rest (length-with_bits r (qubits_of g) y ∙ lr) lc)
    ∙ sym (conjugate_of-product (entry_value m k (place_of y) (place_of row)) (run gates (basis_state (with_bits r (qubits_of g) y)) c)))
    ∙ sym (conjugate-sum_over lists (λ y. product_of (entry_value m k (place_of y) (place_of row)) (run gates (basis_state (with_bits r (qubits_of g) y)) c)))
    ∙ ap conjugate_of (sym (gate_before n g gates r c on lr lc))
