-- How many nodes are always enough for a step: it has few work functions, each with a bounded number of nodes.
use Rattle.std.proofs.Common.{◌≡◌, ℕ, zero, suc, ◌+◌, ◌*◌, ◌-◌, ◌^◌, ◌<◌, ◌≤◌, Bool, true, false, cond, List, [], ◌∷◌, ◌++◌, length, map, take, set, replicate, refl, sym, ◌∙◌, ap, subst, arith, length-append}
use Rattle.std.specs.List.{fold, flat_map}
use Rattle.std.proofs.Math.Nat.{mul-le-mul_right, mul-suc, suc-mul}
use Rattle.std.proofs.lemmas.List.{length-map, length-take-le}
use Rattle.std.proofs.lemmas.Nat.{pow_pos}
use Rattle.gate_set.specs.declared.gate.Gate.{Gate}
use Rattle.gate_set.specs.Matrix.{arity_of}
use Rattle.gate_set.specs.Shape.{IsPlaced, qubits_of, arity_with}
use Rattle.gate_set.proofs.MatrixLemmas.{arity_of-few}
use Rattle.diagram_model.specs.Functions.{Function}
use Rattle.diagram_model.specs.Size.{size}
use Rattle.diagram_model.proofs.Counting.{size-bound}
use Rattle.slice_vec.specs.Digits.{Digits, fixed, flipped, one_carry, carry}
use Rattle.slice_vec.specs.Slices.{first_bits}
use Rattle.slice_quad.specs.declared.coord.Coord.{Coord}
use Rattle.slice_quad.specs.declared.coord.Coord.TheVariants.{A, B, C, D}
use Rattle.slice_quad.specs.Bits.{bits_of}
use Rattle.slice_quad.specs.Exchange.{Exchange, exchange_parts, exchange_functions, crossing_functions, exchange_work}
use Rattle.slice_quad.specs.Fours.{true_places}
use Rattle.slice_quad.specs.Mix.{Mix, Vector, Coordinates, from_target, term, negates, signed_term, raw}
use Rattle.slice_quad.specs.Work.{conjunctions, gate_functions, term_functions, coordinate_functions, mix_functions}
use Rattle.slice_gates.specs.declared.side.Side.{Side}
use Rattle.slice_gates.specs.Sides.{place_on}
use Rattle.slice_gates.specs.GateWork.{mix_on, exchange_on, functions_on}
use Rattle.slice_gates.specs.Stepped.{exchanges, controls_for}
use Rattle.slice_gates.proofs.GateWorks.{controls_same}

-- ---- lists of functions
-- as many as there are bits
bits_count : (w : ℕ) (s : Digits) → length (first_bits w s) ≡ w
unfolding first_bits
bits_count zero s = refl
bits_count (suc w) s = ap suc (bits_count w s)

-- so many for each item at most
each_count : {X : Type 0} (f : X → List Function) (m : ℕ) → ((x : X) → length (f x) ≤ m) → (xs : List X) → length (flat_map f xs) ≤ length xs * m
each_count f m each [] = omega arith
each_count f m each (x ∷ xs) =
    let both = length-append (f x) (flat_map f xs) in
    let more = suc-mul (length xs) m in
    let here = each x in
    let rest = each_count f m each xs in
    omega (arith, both, more, here, rest)

four_count : (f : Coord → List Function) (m : ℕ) → ((z : Coord) → length (f z) ≤ m) → length (flat_map f (A ∷ B ∷ C ∷ D ∷ [])) ≤ 4 * m
four_count f m each = each_count f m each (A ∷ B ∷ C ∷ D ∷ [])

-- six parts, and one function between them
six_parts : (a b d e f : List Function) (c : Function) → length (a ++ (b ++ (c ∷ (d ++ (e ++ f))))) ≡ length a + length b + 1 + length d + length e + length f
six_parts a b d e f c =
    let first = length-append a (b ++ (c ∷ (d ++ (e ++ f)))) in
    let second = length-append b (c ∷ (d ++ (e ++ f))) in
    let third = length-append d (e ++ f) in
    let fourth = length-append e f in
    omega (arith, first, second, third, fourth)

seven_parts : (a b c d e f g : List Function) → length (a ++ (b ++ (c ++ (d ++ (e ++ (f ++ g)))))) ≡ length a + length b + length c + length d + length e + length f + length g
seven_parts a b c d e f g =
    let first = length-append a (b ++ (c ++ (d ++ (e ++ (f ++ g))))) in
    let second = length-append b (c ++ (d ++ (e ++ (f ++ g)))) in
    let third = length-append c (d ++ (e ++ (f ++ g))) in
    let fourth = length-append d (e ++ (f ++ g)) in
    let fifth = length-append e (f ++ g) in
    let sixth = length-append f g in
    omega (arith, first, second, third, fourth, fifth, sixth)

-- ---- a step with one target
conjunctions_count : (done cs : List ℕ) → length (conjunctions done cs) ≡ length cs
unfolding conjunctions
conjunctions_count done [] = refl
conjunctions_count done (c ∷ cs) = ap suc (conjunctions_count (done ++ c ∷ []) cs)

-- the controls' variables and conjunctions
controls_count : (f : ℕ → Function) (cs : List ℕ) → length (map f cs ++ conjunctions [] cs) ≡ length cs + length cs
controls_count f cs =
    let both = length-append (map f cs) (conjunctions [] cs) in
    let variables = length-map cs f in
    let fronts = conjunctions_count [] cs in
    omega (arith, both, variables, fronts)

gate_count : (m : Mix) → length (gate_functions m) ≡ 2 + 2 * length m.controls
unfolding gate_functions
gate_count m = let both = controls_count (λ c. λ x. x c) m.controls in omega (arith, both)

term_count : (w : ℕ) (m : Mix) (q : Coordinates) (z : Coord) (s : Bool) → length (term_functions w m q z s) ≡ 5 * w + 5
unfolding term_functions
term_count w m q z s =
    let sum = six_parts (first_bits w (from_target m q z s)) (first_bits w (term m q z s)) (first_bits (w + 1) (flipped (negates m z s) (term m q z s)))
    (first_bits (w + 2) (one_carry (negates m z s) (term m q z s))) (first_bits (w + 1) (signed_term m q z s)) (negates m z s) in
    let a = bits_count w (from_target m q z s) in
    let b = bits_count w (term m q z s) in
    let d = bits_count (w + 1) (flipped (negates m z s) (term m q z s)) in
    let e = bits_count (w + 2) (one_carry (negates m z s) (term m q z s)) in
    let f = bits_count (w + 1) (signed_term m q z s) in
    omega (arith, sum, a, b, d, e, f)

coordinate_count : (w : ℕ) (m : Mix) (q : Coordinates) (z : Coord) → length (coordinate_functions w m q z) ≤ 15 * w + 15
unfolding coordinate_functions
coordinate_count w m q z =
    let sum = seven_parts (first_bits w (q z)) (first_bits w (fixed m.target false (q z))) (first_bits w (fixed m.target true (q z)))
    (term_functions w m q z false) (term_functions w m q z true)
    (first_bits (w + 3) (carry (signed_term m q z false) (signed_term m q z true))) (first_bits (w + 2) (raw m q z)) in
    let a = bits_count w (q z) in
    let b = bits_count w (fixed m.target false (q z)) in
    let c = bits_count w (fixed m.target true (q z)) in
    let d = term_count w m q z false in
    let e = term_count w m q z true in
    let f = bits_count (w + 3) (carry (signed_term m q z false) (signed_term m q z true)) in
    let g = bits_count (w + 2) (raw m q z) in
    omega (arith, sum, a, b, c, d, e, f, g)

mix_count : (w : ℕ) (m : Mix) (q : Coordinates) → length (mix_functions w m q) ≤ 60 * w + 62 + 2 * length m.controls
unfolding mix_functions
mix_count w m q =
    let both = length-append (gate_functions m) (flat_map (coordinate_functions w m q) (A ∷ B ∷ C ∷ D ∷ [])) in
    let gate = gate_count m in
    let four = four_count (coordinate_functions w m q) (15 * w + 15) (coordinate_count w m q) in
    omega (arith, both, gate, four)

-- ---- an exchange
crossing_count : (e : Exchange) → length (crossing_functions e) ≡ 2 + 2 * length e.controls
unfolding crossing_functions
crossing_count e = let both = controls_count (λ c. λ x. x c) e.controls in omega (arith, both)

exchange_count : (w : ℕ) (e : Exchange) (a : Digits) → length (exchange_functions w e a) ≤ 11 * w
unfolding exchange_functions
exchange_count w e a = each_count (first_bits w) w (λ s. let count = bits_count w s in omega (arith, count)) (exchange_parts e a)

crossed_count : (w : ℕ) (e : Exchange) (q : Coordinates) → length (exchange_work w e q) ≤ 60 * w + 62 + 2 * length e.controls
unfolding exchange_work
crossed_count w e q =
    let both = length-append (crossing_functions e) (flat_map (λ z. exchange_functions w e (q z)) (A ∷ B ∷ C ∷ D ∷ [])) in
    let variables = crossing_count e in
    let four = four_count (λ z. exchange_functions w e (q z)) (11 * w) (λ z. exchange_count w e (q z)) in
    omega (arith, both, variables, four)

-- ---- how many controls a gate has
-- one place more is true at most
places_set : (cs : List Bool) (k c : ℕ) → length (true_places k (set cs c true)) ≤ length (true_places k cs) + 1
places_set [] k c = omega arith
places_set (true ∷ cs) k zero = omega arith
places_set (false ∷ cs) k zero = omega arith
places_set (true ∷ cs) k (suc c) = let rest = places_set cs (1 + k) c in omega (arith, rest)
places_set (false ∷ cs) k (suc c) = places_set cs (1 + k) c

places_none : (n k : ℕ) → length (true_places k (replicate n false)) ≡ 0
places_none zero k = refl
places_none (suc n) k = places_none n (1 + k)

places_folded : (on : List ℕ) (cs : List Bool) (k : ℕ) → length (true_places k (fold (λ ds q. set ds q true) cs on)) ≤ length (true_places k cs) + length on
places_folded [] cs k = omega arith
places_folded (q ∷ on) cs k =
    let rest = places_folded on (set cs q true) k in
    let one = places_set cs k q in
    omega (arith, rest, one)

places_for : (n : ℕ) (on : List ℕ) → length (true_places 0 (controls_for n on)) ≤ length on
unfolding controls_for
places_for n on =
    let all = places_folded on (replicate n false) 0 in
    let none = places_none n 0 in
    omega (arith, all, none)

-- at most eleven, whatever the kind and the side
controls_few : (n i : ℕ) (side : Side) (g : Gate) → IsPlaced g.kind g.extra g.on → i ≤ arity_with g → length (true_places 0 (controls_for n (take i (map (place_on side) (qubits_of g))))) ≤ 11
controls_few n i side g placed within =
    let all : length (qubits_of g) ≡ length g.extra + arity_of g.kind = length-append g.extra g.on ∙ ap (λ k. length g.extra + k) placed.count in
    let mapped : length (map (place_on side) (qubits_of g)) ≡ length (qubits_of g) = length-map (qubits_of g) (place_on side) in
    let taken : length (take i (map (place_on side) (qubits_of g))) ≡ i = length-take-le i (map (place_on side) (qubits_of g)) (omega (arith, within, mapped, all)) in
    let places = places_for n (take i (map (place_on side) (qubits_of g))) in
    let few = arity_of-few g.kind in
    omega (arith, taken, places, few, within, placed.few)

-- ---- the work functions of a gate, on the variables of a side
module _ (n w : ℕ) (side : Side) (g : Gate) (q : Coordinates) (placed : IsPlaced g.kind g.extra g.on) where
  mix_few : length (mix_functions w (mix_on n side g) q) ≤ 60 * w + 84
  mix_few =
      let all = mix_count w (mix_on n side g) q in
      let few = subst (λ (cs : List ℕ). length cs ≤ 11) (sym (controls_same n side g 1)) (controls_few n (arity_with g - 1) side g placed (omega arith)) in
      omega (arith, all, few)

  pair_few : length (exchange_work w (exchange_on n side g) q) ≤ 60 * w + 84
  pair_few =
      let all = crossed_count w (exchange_on n side g) q in
      let few = subst (λ (cs : List ℕ). length cs ≤ 11) (sym (controls_same n side g 2)) (controls_few n (arity_with g - 2) side g placed (omega arith)) in
      omega (arith, all, few)

  gate_few : length (functions_on n side g w q) ≤ 60 * w + 84
  gate_few = by (exchanges g.kind)
    where
      by : (b : Bool) → length (cond b (exchange_work w (exchange_on n side g) q) (mix_functions w (mix_on n side g) q)) ≤ 60 * w + 84
      by true = pair_few
      by false = mix_few

-- they are few, beside any kept function
pub work_few : (n w : ℕ) (side : Side) (kept : Function) (g : Gate) (v : Vector) → IsPlaced g.kind g.extra g.on → length (kept ∷ functions_on n side g w (bits_of v)) ≤ 64 * (w + 2) + 130
work_few n w side kept g v placed = let few = gate_few n w side g (bits_of v) placed in omega (arith, few)

-- ---- enough nodes
-- below as many functions as c, each by fewer than p nodes
too_few : (l c p r z nodes : ℕ) → l ≤ c → 1 ≤ c → p ≡ suc r → z ≤ l * r → c * p ≤ nodes → nodes ≤ z → ⊥
too_few l c p r z nodes few some next bound limit lacks =
    let less : l * r ≤ c * r = mul-le-mul_right r few in
    let spread : c * p ≡ c * r + c = ap (λ (m : ℕ). c * m) next ∙ mul-suc c r in
    omega (arith, less, spread, bound, limit, lacks, some)

-- a step's work functions need fewer nodes than these, over so many variables
pub enough_nodes : (w variables nodes : ℕ) (vs : List ℕ) (fs : List Function) → length fs ≤ 64 * (w + 2) + 130 → length vs ≡ variables
    → (64 * (w + 2) + 130) * 2 ^ variables ≤ nodes → ¬ (nodes ≤ size (length vs) vs fs)
enough_nodes w variables nodes vs fs few long limit lacks =
    let same : 2 ^ length vs ≡ 2 ^ variables = ap (λ (m : ℕ). 2 ^ m) long in
    let some : 0 < 2 ^ variables = pow_pos variables in
    let next : 2 ^ variables ≡ suc (2 ^ length vs - 1) = omega (arith, same, some) in
    too_few (length fs) (64 * (w + 2) + 130) (2 ^ variables) (2 ^ length vs - 1) (size (length vs) vs fs) nodes few (omega arith) next (size-bound (length vs) vs fs) limit lacks
