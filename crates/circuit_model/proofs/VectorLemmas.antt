-- Lists with an entry for each basis state, and gates on them.
use Rattle.std.proofs.Common.{◌≡◌, ℕ, suc, ◌+◌, ◌-◌, ◌*◌, ◌^◌, ◌<◌, refl, sym, ◌∙◌, ap, subst, Bool, true, false, cond, nat_eq, List, [], ◌∷◌, map, length, get_or, set, replicate, arith}
use Rattle.std.proofs.Math.Path.{ap₂}
use Rattle.std.proofs.lemmas.List.{length-map, get_or-map, length-set, length-replicate, get_or-replicate, get_or-set_same, get_or-set_other}
use Rattle.std.proofs.lemmas.Nat.{pow_pos}
use Rattle.std.proofs.Math.Dec.{eqb-suc-zero}
use Rattle.ring_omega.specs.declared.quad.Quad.{Quad}
use Rattle.ring_omega.specs.Ring.{zero_quad, one_quad}
use Rattle.bit_lists.specs.Lists.{all_lists, place_of, bits_at, with_bits}
use Rattle.bit_lists.proofs.Places.{listed, length-all_lists, get_or-all_lists, place_of-below}
use Rattle.bit_lists.proofs.OrderLemmas.{same_place}
use Rattle.gate_set.specs.declared.gate.Gate.{Gate}
use Rattle.gate_set.specs.Matrix.{times_entry}
use Rattle.gate_set.specs.Shape.{qubits_of, gate_entry}
use Rattle.circuit_model.specs.Product.{applied, basis_state, same_bits}
use Rattle.circuit_model.specs.Vector.{at}
use Rattle.circuit_model.proofs.SumLemmas.{sum_over-same, length-with_bits}

map-same : {A B : Type 0} (f g : A → B) (xs : List A) (d : A) → ((i : ℕ) → i < length xs → f (get_or xs i d) ≡ g (get_or xs i d)) → map f xs ≡ map g xs
map-same f g [] d h = refl
map-same f g (x ∷ xs) d h = ap₂ (λ y ys. y ∷ ys) (h 0 (omega arith)) (map-same f g xs d (λ i lt. h (suc i) (omega arith)))

pub map-all_lists_same : {B : Type 0} (n : ℕ) (f g : List Bool → B) → ((x : List Bool) → length x ≡ n → f x ≡ g x) → map f (all_lists n) ≡ map g (all_lists n)
map-all_lists_same n f g h = map-same f g (all_lists n) [] (λ i lt. h _ (listed n i [] (omega (arith, length-all_lists n))).0)

-- a gate reads the vector at lists of the same length only
pub applied-same : (g : Gate) (v w : List Bool → Quad) (x : List Bool) → ((y : List Bool) → length y ≡ length x → v y ≡ w y) → applied g v x ≡ applied g w x
unfolding applied
applied-same g v w x h =
    sum_over-same (all_lists (length (qubits_of g))) _ _
    (λ y. ap (times_entry (gate_entry g (place_of (bits_at x (qubits_of g))) (place_of y))) (h (with_bits x (qubits_of g) y) (length-with_bits x (qubits_of g) y)))

pub at-map : (n : ℕ) (v : List Bool → Quad) (x : List Bool) → length x ≡ n → at (map v (all_lists n)) x ≡ v x
at-map n v x len =
    let below : place_of x < length (all_lists n) = subst (λ k. place_of x < k) (ap (λ k. 2 ^ k) len ∙ sym (length-all_lists n)) (place_of-below x) in
    get_or-map v (all_lists n) (place_of x) [] zero_quad below ∙ ap v (get_or-all_lists n x [] len)

-- the entries after a gate, from a list of the entries before
pub after : (n : ℕ) (g : Gate) (v : List Bool → Quad) (state : List Quad) → state ≡ map v (all_lists n) → map (applied g (at state)) (all_lists n) ≡ map (applied g v) (all_lists n)
after n g v state e =
    map-all_lists_same n _ _
    (λ x len. applied-same g (at state) v x (λ y len'. ap (λ s. at s y) e ∙ at-map n v y (len' ∙ len)))

-- the basis state of all zeros stands at place 0
pub basis_state-zeros : (x : List Bool) → basis_state (replicate (length x) false) x ≡ cond (nat_eq (place_of x) 0) one_quad zero_quad
basis_state-zeros [] = refl
basis_state-zeros (false ∷ x) =
    let here : place_of x ≡ 0 * 2 ^ length x + place_of x = omega arith in
    basis_state-zeros x ∙ ap (λ p. cond (nat_eq p 0) one_quad zero_quad) here
basis_state-zeros (true ∷ x) =
    let k = 2 ^ length x - 1 + place_of x in
    let here : suc k ≡ 1 * 2 ^ length x + place_of x = omega (arith, pow_pos (length x)) in
    ap (λ b. cond b one_quad zero_quad) (sym (eqb-suc-zero k)) ∙ ap (λ p. cond (nat_eq p 0) one_quad zero_quad) here

pub length-map-all_lists : {B : Type 0} (n : ℕ) (f : List Bool → B) → length (map f (all_lists n)) ≡ 2 ^ n
length-map-all_lists n f = length-map (all_lists n) f ∙ length-all_lists n

-- ---- the basis state as a list
pub same_bits-refl : (x : List Bool) → same_bits x x ≡ true
same_bits-refl [] = refl
same_bits-refl (true ∷ x) = same_bits-refl x
same_bits-refl (false ∷ x) = same_bits-refl x

pub same_bits-true : (x y : List Bool) → same_bits x y ≡ true → x ≡ y
same_bits-true [] [] e = refl
same_bits-true [] (b ∷ y) e = cc
same_bits-true (true ∷ x) [] e = cc
same_bits-true (false ∷ x) [] e = cc
same_bits-true (true ∷ x) (true ∷ y) e = ap (λ z. true ∷ z) (same_bits-true x y e)
same_bits-true (false ∷ x) (false ∷ y) e = ap (λ z. false ∷ z) (same_bits-true x y e)
same_bits-true (true ∷ x) (false ∷ y) e = cc
same_bits-true (false ∷ x) (true ∷ y) e = cc

same_lists : (ps qs : List Quad) (d : Quad) → length ps ≡ length qs → ((i : ℕ) → i < length ps → get_or ps i d ≡ get_or qs i d) → ps ≡ qs
same_lists [] [] d e h = refl
same_lists [] (q ∷ qs) d e h = absurd (omega arith)
same_lists (p ∷ ps) [] d e h = absurd (omega arith)
same_lists (p ∷ ps) (q ∷ qs) d e h = ap₂ (λ x xs. x ∷ xs) (h 0 (omega arith)) (same_lists ps qs d (omega arith) (λ i lt. h (suc i) (omega arith)))

-- 1 at the input's place, and 0 elsewhere
abbrev one_at : List Bool → List Quad
one_at input = set (replicate (2 ^ length input) zero_quad) (place_of input) one_quad

length-one_at : (input : List Bool) → length (one_at input) ≡ 2 ^ length input
length-one_at input = length-set (replicate (2 ^ length input) zero_quad) (place_of input) one_quad ∙ length-replicate (2 ^ length input) zero_quad

get_or-one_at : (input x : List Bool) (i : ℕ) → i < 2 ^ length input → length x ≡ length input → place_of x ≡ i → (b : Bool) → same_bits x input ≡ b → get_or (one_at input) i zero_quad ≡ cond b one_quad zero_quad
get_or-one_at input x i lt len at true t =
    let here : i ≡ place_of input = sym at ∙ ap place_of (same_bits-true x input t) in
    let room : place_of input < length (replicate (2 ^ length input) zero_quad) = omega (arith, length-replicate (2 ^ length input) zero_quad) in
    ap (λ k. get_or (one_at input) k zero_quad) here ∙ get_or-set_same (replicate (2 ^ length input) zero_quad) (place_of input) one_quad zero_quad room
get_or-one_at input x i lt len at false t =
    let elsewhere : i ≡ place_of input → ⊥ = λ e.
    let same : true ≡ false = sym (same_bits-refl input) ∙ ap (λ y. same_bits y input) (sym (same_place x input len (at ∙ e))) ∙ t in
    cc in
    get_or-set_other (replicate (2 ^ length input) zero_quad) (place_of input) i one_quad zero_quad elsewhere ∙ get_or-replicate (2 ^ length input) i zero_quad zero_quad lt

pub basis_list : (input : List Bool) → set (replicate (2 ^ length input) zero_quad) (place_of input) one_quad ≡ map (basis_state input) (all_lists (length input))
basis_list input =
    let n = length input in
    same_lists (one_at input) (map (basis_state input) (all_lists n)) zero_quad (length-one_at input ∙ sym (length-map-all_lists n (basis_state input)))
    (λ i h.
    let lt : i < 2 ^ n = omega (arith, length-one_at input) in
    let x = get_or (all_lists n) i [] in
    let here = listed n i [] lt in
    let within : i < length (all_lists n) = omega (arith, length-all_lists n) in
    get_or-one_at input x i lt here.0 here.1 (same_bits x input) refl ∙ sym (get_or-map (basis_state input) (all_lists n) i [] zero_quad within))
