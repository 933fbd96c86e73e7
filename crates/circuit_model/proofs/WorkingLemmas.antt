-- The working vector has the values of the product.
use Rattle.std.proofs.Common.{◌≡◌, ℕ, zero, suc, ◌+◌, ◌^◌, ◌<◌, refl, sym, ◌∙◌, ap, subst, Bool, true, false, ◌&&◌, cond, List, [], ◌∷◌, length, get_or, arith, ◌+ℤ◌, ◌-ℤ◌, ◌≤◌, ◌++◌}
use Rattle.std.specs.List.{fold, list_all}
use Rattle.std.proofs.lemmas.Int.{ints}
use Rattle.std.proofs.lemmas.Bool.{and_parts, and_from}
use Rattle.std.proofs.lemmas.List.Sums.{fold-append}
use Rattle.ring_omega.specs.declared.quad.Quad.{Quad}
use Rattle.ring_omega.specs.Ring.{quad, sum_of, product_of, times_power, omega_unit, root_of_two}
use Rattle.ring_omega.specs.Lowest.{is_even}
use Rattle.ring_omega.proofs.RingLemmas.{quad_eq, times_root-is}
use Rattle.ring_omega.proofs.RingLaws.{times_power-sum_of, times_power-exchange, times_power-zero}
use Rattle.ring_omega.proofs.LowestLemmas.{times_power-root_cancel, times_power-product_of, times_power-times_power, times_power-add}
use Rattle.ring_omega.proofs.LowestFormLemmas.{half-of_even, is_even-of_double}
use Rattle.bit_lists.specs.Lists.{all_lists, place_of, bits_at, with_bits}
use Rattle.bit_lists.proofs.Places.{listed, get_or-all_lists, length-all_lists, place_of-below}
use Rattle.gate_set.specs.declared.gate.Gate.{Gate}
use Rattle.gate_set.specs.declared.entry.Entry.{Entry}
use Rattle.gate_set.specs.declared.entry.Entry.TheVariants.{Zero, Omega, Root2}
use Rattle.gate_set.specs.declared.kind.Kind.{Kind}
use Rattle.gate_set.specs.declared.kind.Kind.TheVariants.{Id, X, Y, Z, H, S, Sdg, T, Tdg, RxP, RxM, RyP, RyM, Cx, Cz, Swap, Ccx, Cswap, Phase}
use Rattle.gate_set.specs.Matrix.{times_entry, half_power_of}
use Rattle.gate_set.specs.Shape.{qubits_of, gate_entry}
use Rattle.circuit_model.specs.Product.{sum_over, applied, basis_state, amp, exponent}
use Rattle.circuit_model.specs.Working.{Scaled, scaled, two, IsHalved, is_even_quad, half_quad, all_even, halved, raw, step, work, HasValues}
use Rattle.circuit_model.proofs.SumLemmas.{sum_over-same}
use Rattle.circuit_model.proofs.VectorLemmas.{applied-same}

-- ---- a power of the root of two goes through a gate
rooted : ℕ → Quad → Quad
rooted n q = times_power root_of_two n q

rooted-entry : (n : ℕ) (e : Entry) (q : Quad) → rooted n (times_entry e q) ≡ times_entry e (rooted n q)
unfolding rooted
rooted-entry n Zero q = times_power-zero root_of_two n
rooted-entry n (Omega j) q = times_power-exchange root_of_two omega_unit n j q
rooted-entry n Root2 q = times_power-product_of root_of_two n q

rooted-sum_over : (n : ℕ) (ys : List (List Bool)) (f : List Bool → Quad) → rooted n (sum_over ys f) ≡ sum_over ys (λ y. rooted n (f y))
unfolding rooted
rooted-sum_over n [] f = times_power-zero root_of_two n
rooted-sum_over n (y ∷ ys) f = times_power-sum_of root_of_two n (f y) (sum_over ys f) ∙ ap (sum_of (rooted n (f y))) (rooted-sum_over n ys f)

rooted-applied : (n : ℕ) (g : Gate) (v : List Bool → Quad) (x : List Bool) → rooted n (applied g v x) ≡ applied g (λ y. rooted n (v y)) x
unfolding applied
rooted-applied n g v x =
    rooted-sum_over n (all_lists (length (qubits_of g))) _
    ∙ sum_over-same (all_lists (length (qubits_of g))) _ _ (λ y. rooted-entry n (gate_entry g (place_of (bits_at x (qubits_of g))) (place_of y)) (v (with_bits x (qubits_of g) y)))

raw-HasValues : (n : ℕ) (g : Gate) (w : Scaled) (v : List Bool → Quad) (k : ℕ) → HasValues n w v k → HasValues n (raw g w) (applied g v) (k + half_power_of g.kind)
unfolding rooted
raw-HasValues n g w v k h x len =
    let d = half_power_of g.kind in
    let j = w.exponent in
    let middle : rooted k (applied g w.entries x) ≡ rooted j (applied g v x) =
    rooted-applied k g w.entries x
    ∙ applied-same g (λ y. rooted k (w.entries y)) (λ y. rooted j (v y)) x (λ y len'. h y (len' ∙ len))
    ∙ sym (rooted-applied j g v x) in
    times_power-add root_of_two d k (applied g w.entries x) ∙ ap (times_power root_of_two d) middle ∙ sym (times_power-add root_of_two d j (applied g v x))

-- ---- a factor of 2 is two roots of two
doubled : Quad → Quad
doubled q = quad (q.a +ℤ q.a) (q.b +ℤ q.b) (q.c +ℤ q.c) (q.d +ℤ q.d)

two_roots : (q : Quad) → times_power root_of_two 2 q ≡ doubled q
unfolding doubled
two_roots q =
    let once = quad (q.b -ℤ q.d) (q.a +ℤ q.c) (q.b +ℤ q.d) (q.c -ℤ q.a) in
    ap (λ r. product_of r root_of_two) (times_root-is q) ∙ times_root-is once
    ∙ quad_eq (quad (once.b -ℤ once.d) (once.a +ℤ once.c) (once.b +ℤ once.d) (once.c -ℤ once.a)) (doubled q) (omega (arith, ints)) (omega (arith, ints)) (omega (arith, ints)) (omega (arith, ints))

doubled-half_quad : (q : Quad) → is_even_quad q ≡ true → doubled (half_quad q) ≡ q
unfolding doubled is_even_quad half_quad
doubled-half_quad q t =
    let (ta, t1) = and_parts (is_even q.a) (is_even q.b && (is_even q.c && is_even q.d)) t in
    let (tb, t2) = and_parts (is_even q.b) (is_even q.c && is_even q.d) t1 in
    let (tc, td) = and_parts (is_even q.c) (is_even q.d) t2 in
    quad_eq (doubled (half_quad q)) q (half-of_even q.a ta) (half-of_even q.b tb) (half-of_even q.c tc) (half-of_even q.d td)

-- where all entries are even, the one at x is
pub even_at : (n : ℕ) (v : List Bool → Quad) → all_even n v ≡ true → (x : List Bool) → length x ≡ n → is_even_quad (v x) ≡ true
unfolding all_even
even_at n v t x len =
    let below : place_of x < length (all_lists n) = subst (λ k. place_of x < k) (ap (λ k. 2 ^ k) len ∙ sym (length-all_lists n)) (place_of-below x) in
    ap (λ y. is_even_quad (v y)) (sym (get_or-all_lists n x [] len)) ∙ all_at (all_lists n) (place_of x) below t
  where
    all_at : (xs : List (List Bool)) (i : ℕ) → i < length xs → list_all (λ x. is_even_quad (v x)) xs ≡ true → is_even_quad (v (get_or xs i [])) ≡ true
    all_at [] i lt t = absurd (omega arith)
    all_at (y ∷ xs) zero lt t = (and_parts (is_even_quad (v y)) (list_all (λ x. is_even_quad (v x)) xs) t).0
    all_at (y ∷ xs) (suc i) lt t = all_at xs i (omega arith) (and_parts (is_even_quad (v y)) (list_all (λ x. is_even_quad (v x)) xs) t).1

once_halved : (n : ℕ) (v : List Bool → Quad) (k : ℕ) (a : List Bool → Quad) (e : ℕ) → all_even n v ≡ true
    → HasValues n (scaled v (suc (suc k))) a e → HasValues n (scaled (λ x. half_quad (v x)) k) a e
once_halved n v k a e t h x len =
    let u = half_quad (v x) in
    let twice : times_power root_of_two 2 u ≡ v x = two_roots u ∙ doubled-half_quad (v x) (even_at n v t x len) in
    let both : times_power root_of_two e (times_power root_of_two 2 u) ≡ times_power root_of_two (suc (suc k)) (a x) = ap (times_power root_of_two e) twice ∙ h x len in
    times_power-root_cancel 2 (times_power root_of_two e u) (times_power root_of_two k (a x)) (times_power-times_power root_of_two 2 e u ∙ both)

pub halved-HasValues : (n : ℕ) (v : List Bool → Quad) (k : ℕ) (a : List Bool → Quad) (e : ℕ) → HasValues n (scaled v k) a e → HasValues n (halved n v k) a e
unfolding halved
halved-HasValues n v zero a e h = h
halved-HasValues n v (suc zero) a e h = h
halved-HasValues n v (suc (suc k)) a e h =
    by_test (all_even n v) refl (λ h'. halved-HasValues n (λ x. half_quad (v x)) k a e h')
  where
    by_test : (b : Bool) → all_even n v ≡ b
        → (HasValues n (scaled (λ x. half_quad (v x)) k) a e → HasValues n (halved n (λ x. half_quad (v x)) k) a e)
        → HasValues n (cond b (halved n (λ x. half_quad (v x)) k) (scaled v (suc (suc k)))) a e
    by_test true t more = more (once_halved n v k a e t h)
    by_test false t more = h

-- ---- halving ends where it should
product_of-two : (q : Quad) → product_of q two ≡ doubled q
unfolding product_of doubled
product_of-two q = quad_eq _ _ (omega (arith, ints)) (omega (arith, ints)) (omega (arith, ints)) (omega (arith, ints))

even_test : (p q : Quad) → product_of p two ≡ q → is_even_quad q ≡ true
unfolding doubled is_even_quad
even_test p q e =
    let f : doubled p ≡ q = sym (product_of-two p) ∙ e in
    let a = is_even-of_double q.a p.a (sym (ap (λ (r : Quad). r.a) f)) in
    let b = is_even-of_double q.b p.b (sym (ap (λ (r : Quad). r.b) f)) in
    let c = is_even-of_double q.c p.c (sym (ap (λ (r : Quad). r.c) f)) in
    let d = is_even-of_double q.d p.d (sym (ap (λ (r : Quad). r.d) f)) in
    and_from _ _ a (and_from _ _ b (and_from _ _ c d))

all_even-from : (n : ℕ) (v : List Bool → Quad) → ((x : List Bool) → length x ≡ n → is_even_quad (v x) ≡ true) → all_even n v ≡ true
unfolding all_even
all_even-from n v h = from (all_lists n) (λ i lt. h _ (listed n i [] (omega (arith, length-all_lists n))).0)
  where
    from : (xs : List (List Bool)) → ((i : ℕ) → i < length xs → is_even_quad (v (get_or xs i [])) ≡ true) → list_all (λ x. is_even_quad (v x)) xs ≡ true
    from [] h = refl
    from (x ∷ xs) h = and_from _ _ (h 0 (omega arith)) (from xs (λ i lt. h (suc i) (omega arith)))

once_more : (n : ℕ) (v : List Bool → Quad) (k : ℕ) (w : Scaled) → all_even n v ≡ true → IsHalved n (λ x. half_quad (v x)) k w → IsHalved n v (suc (suc k)) w
once_more n v k w t h = record {
  times = suc h.times;
  exponent_left = omega (arith, h.exponent_left);
  taken_out = λ x len.
      sym (doubled-half_quad (v x) (even_at n v t x len)) ∙ sym (product_of-two (half_quad (v x))) ∙ ap (λ q. product_of q two) (h.taken_out x len);
  ended = h.ended;
}

pub IsHalved-halved : (n : ℕ) (v : List Bool → Quad) (k : ℕ) → IsHalved n v k (halved n v k)
unfolding halved
IsHalved-halved n v zero = record { times = 0; exponent_left = refl; taken_out = λ x len. refl; ended = λ le. absurd (omega arith) }
IsHalved-halved n v (suc zero) = record { times = 0; exponent_left = refl; taken_out = λ x len. refl; ended = λ le. absurd (omega arith) }
IsHalved-halved n v (suc (suc k)) = by_test (all_even n v) refl (IsHalved-halved n (λ x. half_quad (v x)) k)
  where
    by_test : (b : Bool) → all_even n v ≡ b → IsHalved n (λ x. half_quad (v x)) k (halved n (λ x. half_quad (v x)) k)
        → IsHalved n v (suc (suc k)) (cond b (halved n (λ x. half_quad (v x)) k) (scaled v (suc (suc k))))
    by_test true t h = once_more n v k (halved n (λ x. half_quad (v x)) k) t h
    by_test false t h = record {
      times = 0;
      exponent_left = omega arith;
      taken_out = λ x len. refl;
      ended = λ le all.
          let even : all_even n v ≡ true = all_even-from n v (λ x len. even_test (all x len).0 (v x) (all x len).1) in
          let both : true ≡ false = sym even ∙ t in
          cc;
    }

-- ---- a run of gates, from any vector
run-HasValues : (n : ℕ) (gates : List Gate) (w : Scaled) (a : List Bool → Quad) (e : ℕ) → HasValues n w a e
    → HasValues n (fold (step n) w gates) (fold (λ v g. applied g v) a gates) (fold (λ s g. s + half_power_of g.kind) e gates)
run-HasValues n [] w a e h = h
run-HasValues n (g ∷ gates) w a e h =
    run-HasValues n gates (step n w g) (applied g a) (e + half_power_of g.kind)
    (halved-HasValues n (raw g w).entries (raw g w).exponent (applied g a) (e + half_power_of g.kind) (raw-HasValues n g w a e h))

pub work-HasValues : (gates : List Gate) (input : List Bool) → HasValues (length input) (work gates input) (amp gates input) (exponent gates)
unfolding work amp
work-HasValues gates input = run-HasValues (length input) gates (scaled (basis_state input) 0) (basis_state input) 0 (λ x len. refl)

-- ---- one gate more
pub work-last : (gates : List Gate) (g : Gate) (input : List Bool) → work (gates ++ g ∷ []) input ≡ step (length input) (work gates input) g
unfolding work
work-last gates g input = fold-append (step (length input)) (scaled (basis_state input) 0) gates (g ∷ [])

halved_exponent : (n : ℕ) (v : List Bool → Quad) (k : ℕ) → (halved n v k).exponent ≤ k
unfolding halved
halved_exponent n v zero = omega arith
halved_exponent n v (suc zero) = omega arith
halved_exponent n v (suc (suc k)) = by_test (all_even n v) (halved_exponent n (λ x. half_quad (v x)) k)
  where
    by_test : (b : Bool) → (halved n (λ x. half_quad (v x)) k).exponent ≤ k → (cond b (halved n (λ x. half_quad (v x)) k) (scaled v (suc (suc k)))).exponent ≤ suc (suc k)
    by_test true h = omega arith
    by_test false h = omega arith

half_power_of-small : (k : Kind) → half_power_of k ≤ 1
half_power_of-small Id = omega arith
half_power_of-small X = omega arith
half_power_of-small Y = omega arith
half_power_of-small Z = omega arith
half_power_of-small H = omega arith
half_power_of-small S = omega arith
half_power_of-small Sdg = omega arith
half_power_of-small T = omega arith
half_power_of-small Tdg = omega arith
half_power_of-small RxP = omega arith
half_power_of-small RxM = omega arith
half_power_of-small RyP = omega arith
half_power_of-small RyM = omega arith
half_power_of-small Cx = omega arith
half_power_of-small Cz = omega arith
half_power_of-small Swap = omega arith
half_power_of-small Ccx = omega arith
half_power_of-small Cswap = omega arith
half_power_of-small (Phase j) = omega arith

-- a gate raises the exponent by at most 1
pub step_exponent : (n : ℕ) (w : Scaled) (g : Gate) → (step n w g).exponent ≤ w.exponent + 1
step_exponent n w g = omega (arith, halved_exponent n (raw g w).entries (raw g w).exponent, half_power_of-small g.kind)
