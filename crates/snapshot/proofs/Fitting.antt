-- A vector whose coefficients fit a width is determined by that many bits of each.
use Rattle.std.proofs.Common.{◌≡◌, ◌≢◌, ℕ, zero, suc, ◌*◌, ◌/◌, ◌%◌, ◌^◌, ◌-◌, ◌<◌, ◌≤◌, ℤ, pos, negsuc, ◌+ℤ◌, Bool, true, false, eqb, List, ◌++◌, map, length, take, drop, get_or, refl, sym, ◌∙◌, ap, subst, arith, eq-eqb, eqb-true, length-append}
use Rattle.std.specs.Prelude.{◌≤ℤ◌, ◌<ℤ◌, neg_ℤ}
use Rattle.std.specs.List.{range_with_len}
use Rattle.std.proofs.lemmas.Bool.{false≢true}
use Rattle.std.proofs.lemmas.Int.{ints}
use Rattle.std.proofs.lemmas.List.{take_at, drop_at}
use Rattle.std.proofs.lemmas.List.FromFn.{get_or-map-range_with_len, length-map-range_with_len}
use mathlib.Core.Path.{fun_ext}
use Rattle.ring_omega.proofs.RingLemmas.{quad_eq}
use Rattle.diagram_model.specs.Functions.{Assignment}
use Rattle.diagram_ops.specs.Connectives.{number}
use Rattle.slice_vec.proofs.DigitLemmas.{twice}
use Rattle.slice_vec.proofs.Ranges.{InRange}
use Rattle.slice_quad.specs.declared.coord.Coord.{Coord}
use Rattle.slice_quad.specs.declared.coord.Coord.TheVariants.{A, B, C, D}
use Rattle.slice_quad.specs.Bits.{int_bit, bits_of}
use Rattle.slice_quad.specs.Mix.{Vector}
use Rattle.slice_quad.specs.Turns.{coordinate}
use Rattle.slice_quad.specs.Vectors.{FitsWidth}
use Rattle.slice_quad.proofs.BitLemmas.{is_odd, half_down, bit_down, bit_is}
use Rattle.snapshot.specs.Numbers.{never}
use Rattle.snapshot.specs.Snapshots.{Snapshot, bits_in, all_bits}

-- ---- integers
-- an integer is its lowest bit and twice its half, rounded down
up_halved : (n : ℕ) (b : Bool) → eqb (n % 2) 1 ≡ b → pos n ≡ pos (number b) +ℤ (pos (n / 2) +ℤ pos (n / 2))
up_halved n true e = let at = eqb-true (n % 2) 1 e in omega (arith, ints, at)
up_halved n false e = let ne : n % 2 ≢ 1 = λ at. false≢true (sym e ∙ eq-eqb (n % 2) 1 at) in omega (arith, ints, ne)

down_halved : (n : ℕ) (b : Bool) → eqb (n % 2) 0 ≡ b → negsuc n ≡ pos (number b) +ℤ (negsuc (n / 2) +ℤ negsuc (n / 2))
down_halved n true e = let at = eqb-true (n % 2) 0 e in omega (arith, ints, at)
down_halved n false e = let ne : n % 2 ≢ 0 = λ at. false≢true (sym e ∙ eq-eqb (n % 2) 0 at) in omega (arith, ints, ne)

halved : (v : ℤ) → v ≡ pos (number (is_odd v)) +ℤ (half_down v +ℤ half_down v)
halved (pos n) = up_halved n (eqb (n % 2) 1) refl
halved (negsuc n) = down_halved n (eqb (n % 2) 0) refl

half_between : (v h : ℤ) (b p q : ℕ) → b ≤ 1 → v ≡ pos b +ℤ (h +ℤ h) → q ≡ 2 * p → neg_ℤ (pos q) ≤ℤ v → v <ℤ pos q → (neg_ℤ (pos p) ≤ℤ h) × (h <ℤ pos p)
half_between v h b p q few e two low high = (omega (arith, ints), omega (arith, ints))

number_few : (b : Bool) → number b ≤ 1
number_few true = omega arith
number_few false = omega arith

half_range : (m : ℕ) (v : ℤ) → InRange (suc m) v → InRange m (half_down v)
half_range m v h =
    let two : 2 ^ suc m ≡ 2 * 2 ^ m = omega (arith, twice m 1) in
    let r = half_between v (half_down v) (number (is_odd v)) (2 ^ m) (2 ^ suc m) (number_few (is_odd v)) (halved v) two h.low h.high in
    record { low = r.0; high = r.1 }

-- 0 and -1
one_bit_tells : (y z : ℤ) → InRange 0 y → InRange 0 z → is_odd y ≡ is_odd z → y ≡ z
one_bit_tells (pos n) (pos m) hy hz e = let a = hy.high in let b = hz.high in omega (arith, ints, a, b)
one_bit_tells (pos n) (negsuc m) hy hz e = absurd (let a = hy.high in let b = hz.low in
    let en : n ≡ 0 = omega (arith, ints, a) in let em : m ≡ 0 = omega (arith, ints, b) in
    false≢true (ap (λ i. eqb (i % 2) 1) (sym en) ∙ e ∙ ap (λ i. eqb (i % 2) 0) em))
one_bit_tells (negsuc n) (pos m) hy hz e = absurd (let a = hy.low in let b = hz.high in
    let en : n ≡ 0 = omega (arith, ints, a) in let em : m ≡ 0 = omega (arith, ints, b) in
    false≢true (sym (ap (λ i. eqb (i % 2) 0) (sym en) ∙ e ∙ ap (λ i. eqb (i % 2) 1) em)))
one_bit_tells (negsuc n) (negsuc m) hy hz e = let a = hy.low in let b = hz.low in omega (arith, ints, a, b)

down_tells : (m : ℕ) (y z : ℤ) → InRange m y → InRange m z → ((i : ℕ) → i ≤ m → bit_down i y ≡ bit_down i z) → y ≡ z
unfolding bit_down
down_tells zero y z hy hz same = one_bit_tells y z hy hz (same 0 (omega arith))
down_tells (suc m) y z hy hz same =
    let low : is_odd y ≡ is_odd z = same 0 (omega arith) in
    let half : half_down y ≡ half_down z = down_tells m (half_down y) (half_down z) (half_range m y hy) (half_range m z hz) (λ i le. same (suc i) (omega (arith, le))) in
    halved y ∙ ap (λ b. pos (number b) +ℤ (half_down y +ℤ half_down y)) low ∙ ap (λ h. pos (number (is_odd z)) +ℤ (h +ℤ h)) half ∙ sym (halved z)

-- integers of m + 1 bits with the same bits are the same
pub bits_tell : (m : ℕ) (y z : ℤ) → InRange m y → InRange m z → ((i : ℕ) → i ≤ m → int_bit i y ≡ int_bit i z) → y ≡ z
bits_tell m y z hy hz same = down_tells m y z hy hz (λ i le. sym (bit_is i y) ∙ same i le ∙ bit_is i z)

-- ---- vectors
vectors_tell : (w : ℕ) (v u : Vector) → 1 ≤ w → FitsWidth w v → FitsWidth w u → ((z : Coord) (i : ℕ) → i < w → bits_of v z i ≡ bits_of u z i) → v ≡ u
unfolding bits_of
vectors_tell w v u some fv fu same = fun_ext (λ x. quad_eq (v x) (u x) (at A x) (at B x) (at C x) (at D x))
  where
    at : (z : Coord) (x : Assignment) → coordinate z (v x) ≡ coordinate z (u x)
    at z x =
        bits_tell (w - 1) (coordinate z (v x)) (coordinate z (u x)) (record { low = (fv z x).low; high = (fv z x).high }) (record { low = (fu z x).low; high = (fu z x).high })
        (λ i le. ap (λ f. f x) (same z i (omega (arith, le, some))))

bit_at : (v : Vector) (z : Coord) (w i : ℕ) → i < w → get_or (map (bits_of v z) (range_with_len 0 w)) i never ≡ bits_of v z i
bit_at v z w i lt = get_or-map-range_with_len (bits_of v z) 0 w i i never lt (omega arith)

-- the same list of bits
one_coordinate : (w : ℕ) (v u : Vector) (z : Coord) → map (bits_of v z) (range_with_len 0 w) ≡ map (bits_of u z) (range_with_len 0 w) → (i : ℕ) → i < w → bits_of v z i ≡ bits_of u z i
one_coordinate w v u z e i lt = sym (bit_at v z w i lt) ∙ ap (λ l. get_or l i never) e ∙ bit_at u z w i lt

-- lists of the same length one before the other
front_same : {X : Type 0} (xs ys us vs : List X) → length xs ≡ length us → xs ++ ys ≡ us ++ vs → xs ≡ us
front_same xs ys us vs e same = sym (take_at xs ys (length us) e) ∙ ap (take (length us)) same ∙ take_at us vs (length us) refl

rest_same : {X : Type 0} (xs ys us vs : List X) → length xs ≡ length us → xs ++ ys ≡ us ++ vs → ys ≡ vs
rest_same xs ys us vs e same = sym (drop_at xs ys (length us) e) ∙ ap (drop (length us)) same ∙ drop_at us vs (length us) refl

bits_long : (s : Snapshot) (z : Coord) → length (bits_in s z) ≡ s.width
bits_long s z = length-map-range_with_len (bits_of s.vector z) 0 s.width

-- vectors of one width with the same bits
pub vector_told : (s t : Snapshot) → s.width ≡ t.width → 1 ≤ t.width → FitsWidth s.width s.vector → FitsWidth t.width t.vector → all_bits s ≡ all_bits t → s.vector ≡ t.vector
vector_told s t e some fs ft same =
    vectors_tell t.width s.vector t.vector some (subst (λ w. FitsWidth w s.vector) e fs) ft (λ z. one_coordinate t.width s.vector t.vector z (ap (λ w. map (bits_of s.vector z) (range_with_len 0 w)) (sym e) ∙ each z))
  where
    long : (z : Coord) → length (bits_in s z) ≡ length (bits_in t z)
    long z = bits_long s z ∙ e ∙ sym (bits_long t z)

    long_two : length (bits_in s A ++ bits_in s B) ≡ length (bits_in t A ++ bits_in t B)
    long_two = let a = long A in let b = long B in omega (arith, a, b, length-append (bits_in s A) (bits_in s B), length-append (bits_in t A) (bits_in t B))

    long_three : length (bits_in s A ++ bits_in s B ++ bits_in s C) ≡ length (bits_in t A ++ bits_in t B ++ bits_in t C)
    long_three = let a = long_two in let c = long C in omega (arith, a, c, length-append (bits_in s A ++ bits_in s B) (bits_in s C), length-append (bits_in t A ++ bits_in t B) (bits_in t C))

    three : bits_in s A ++ bits_in s B ++ bits_in s C ≡ bits_in t A ++ bits_in t B ++ bits_in t C
    three = front_same (bits_in s A ++ bits_in s B ++ bits_in s C) (bits_in s D) (bits_in t A ++ bits_in t B ++ bits_in t C) (bits_in t D) long_three same

    two : bits_in s A ++ bits_in s B ≡ bits_in t A ++ bits_in t B
    two = front_same (bits_in s A ++ bits_in s B) (bits_in s C) (bits_in t A ++ bits_in t B) (bits_in t C) long_two three

    each : (z : Coord) → bits_in s z ≡ bits_in t z
    each A = front_same (bits_in s A) (bits_in s B) (bits_in t A) (bits_in t B) (long A) two
    each B = rest_same (bits_in s A) (bits_in s B) (bits_in t A) (bits_in t B) (long A) two
    each C = rest_same (bits_in s A ++ bits_in s B) (bits_in s C) (bits_in t A ++ bits_in t B) (bits_in t C) long_two three
    each D = rest_same (bits_in s A ++ bits_in s B ++ bits_in s C) (bits_in s D) (bits_in t A ++ bits_in t B ++ bits_in t C) (bits_in t D) long_three same

-- snapshots are the same where their parts are
pub snapshot_told : (s t : Snapshot) → s.order ≡ t.order → s.exponent ≡ t.exponent → s.width ≡ t.width → s.vector ≡ t.vector → s ≡ t
snapshot_told s t o k w v =
    ap (λ i. snapshot i s.exponent s.width s.vector) o ∙ ap (λ i. snapshot t.order i s.width s.vector) k ∙ ap (λ i. snapshot t.order t.exponent i s.vector) w ∙ ap (snapshot t.order t.exponent t.width) v
  where
    snapshot : List ℕ → ℕ → ℕ → Vector → Snapshot
    snapshot o k w v = record { order = o; exponent = k; width = w; vector = v }
