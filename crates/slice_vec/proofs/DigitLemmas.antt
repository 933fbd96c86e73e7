-- The values of sums, negations, choices and cofactors.
use Rattle.std.proofs.Common.{◌≡◌, ℕ, zero, suc, ◌+◌, ◌*◌, ◌^◌, pos, ◌+ℤ◌, ◌-ℤ◌, neg_ℤ, Bool, true, false, cond, inl, inr, refl, sym, ◌∙◌, ap, arith}
use Rattle.std.specs.Prelude.{◌&&◌, not}
use Rattle.std.proofs.lemmas.Int.{ints}
use Rattle.std.proofs.lemmas.Bool.{cases_Bool}
use mathlib.Core.Path.{fun_ext}
use Rattle.diagram_model.specs.Functions.{Assignment, Function, fix, put}
use Rattle.diagram_ops.specs.Connectives.{number}
use Rattle.diagram_ops.specs.Flips.{exchanged}
use Rattle.slice_vec.specs.Digits.{Digits, low_sum, slice_value, IsSteady, xor, majority_bit, odd_bit, majority, odd, carry, sum, xor_of, and_of, less, flipped, one_carry, negated, choice, chosen, fixed, turned}
use Rattle.diagram_ops.proofs.Cases.{of_three, of_two}

-- one place of a sum, p times
full_adder : (p : ℕ) (a b c : Bool) → p * number a + p * number b + p * number c ≡ p * number (odd_bit a b c) + 2 * (p * number (majority_bit a b c))
full_adder p true true true = omega arith
full_adder p true true false = omega arith
full_adder p true false true = omega arith
full_adder p true false false = omega arith
full_adder p false true true = omega arith
full_adder p false true false = omega arith
full_adder p false false true = omega arith
full_adder p false false false = omega arith

pub twice : (n z : ℕ) → 2 ^ suc n * z ≡ 2 * (2 ^ n * z)
twice n z = grind arith

-- the low bits of a sum, with the carry
pub low_sum-sum : (n : ℕ) (a b : Digits) (x : Assignment) → low_sum n a x + low_sum n b x ≡ low_sum n (sum a b) x + 2 ^ n * number (carry a b n x)
unfolding low_sum carry sum odd majority
low_sum-sum zero a b x = omega arith
low_sum-sum (suc n) a b x =
    let h = low_sum-sum n a b x in
    let f = full_adder (2 ^ n) (a n x) (b n x) (carry a b n x) in
    let t = twice n (number (majority_bit (a n x) (b n x) (carry a b n x))) in
    omega (arith, h, f, t)

-- the top place of a sum, p times, where both signs are repeated
top_place : (p : ℕ) (a b c : Bool) → p * number (majority_bit a b c) + p * number (odd_bit a b (majority_bit a b c)) ≡ p * number a + p * number b
top_place p true true true = omega arith
top_place p true true false = omega arith
top_place p true false true = omega arith
top_place p true false false = omega arith
top_place p false true true = omega arith
top_place p false true false = omega arith
top_place p false false true = omega arith
top_place p false false false = omega arith

-- a sign that is repeated
repeat_sign : (p : ℕ) (l : ℕ) (b : Bool) → pos (l + p * number b) -ℤ pos (2 * (p * number b)) ≡ pos l -ℤ pos (p * number b)
repeat_sign p l b = omega (arith, ints)

pub value-wider : (m : ℕ) (s : Digits) (x : Assignment) → s (suc m) ≡ s m → slice_value (suc m) s x ≡ slice_value m s x
unfolding slice_value low_sum
value-wider m s x e =
    let sign : s (suc m) x ≡ s m x = ap (λ (f : Function). f x) e in
    let t = twice m (number (s m x)) in
    ap (λ b. pos (low_sum m s x + 2 ^ m * number (s m x)) -ℤ pos (2 ^ suc m * number b)) sign
    ∙ ap (λ k. pos (low_sum m s x + 2 ^ m * number (s m x)) -ℤ pos k) t
    ∙ repeat_sign (2 ^ m) (low_sum m s x) (s m x)

-- the value is the same at each place from which on the bits are the same
pub value-steady : (e m k : ℕ) (s : Digits) (x : Assignment) → IsSteady m s → e + m ≡ k → slice_value k s x ≡ slice_value m s x
value-steady zero m k s x steady h = ap (λ j. slice_value j s x) (omega (arith, h))
value-steady (suc e) m k s x steady h =
    ap (λ j. slice_value j s x) (let g : k ≡ suc (e + m) = omega (arith, h) in g)
    ∙ value-wider (e + m) s x (steady (e + m) (omega arith)) ∙ value-steady e m (e + m) s x steady refl

top_value : (p la lb ls : ℕ) (a b c : Bool) → la + lb ≡ ls + p * number (majority_bit a b c) → pos ls -ℤ pos (p * number (odd_bit a b (majority_bit a b c))) ≡ (pos la -ℤ pos (p * number a)) +ℤ (pos lb -ℤ pos (p * number b))
top_value p la lb ls a b c h = let t = top_place p a b c in omega (arith, ints, h, t)

at_point : (f g : Function) (x : Assignment) → f ≡ g → f x ≡ g x
at_point f g x e = ap (λ (w : Function). w x) e

-- Where both are steady from bit k on, the sum with one more bit has the sum of the values.
pub value-sum : (k : ℕ) (a b : Digits) (x : Assignment) → IsSteady k a → IsSteady k b → slice_value (suc k) (sum a b) x ≡ slice_value (suc k) a x +ℤ slice_value (suc k) b x
unfolding slice_value carry sum odd majority
value-sum k a b x sa sb =
    let ea = at_point (a (suc k)) (a k) x (sa k (omega arith)) in
    let eb = at_point (b (suc k)) (b k) x (sb k (omega arith)) in
    let h = low_sum-sum (suc k) a b x in
    let c = carry a b k x in
    let t = top_value (2 ^ suc k) (low_sum (suc k) a x) (low_sum (suc k) b x) (low_sum (suc k) (sum a b) x) (a k x) (b k x) c h in
    ap (λ w. pos (low_sum (suc k) (sum a b) x) -ℤ pos (2 ^ suc k * number (odd_bit w (b (suc k) x) (majority_bit (a k x) (b k x) c)))) ea
    ∙ ap (λ w. pos (low_sum (suc k) (sum a b) x) -ℤ pos (2 ^ suc k * number (odd_bit (a k x) w (majority_bit (a k x) (b k x) c)))) eb
    ∙ t
    ∙ ap (λ w. (pos (low_sum (suc k) a x) -ℤ pos (2 ^ suc k * number w)) +ℤ (pos (low_sum (suc k) b x) -ℤ pos (2 ^ suc k * number (b k x)))) (sym ea)
    ∙ ap (λ w. (pos (low_sum (suc k) a x) -ℤ pos (2 ^ suc k * number (a (suc k) x))) +ℤ (pos (low_sum (suc k) b x) -ℤ pos (2 ^ suc k * number w))) (sym eb)

-- a sum is steady one bit later
carry_again : (a b c : Bool) → odd_bit a b (majority_bit a b (majority_bit a b c)) ≡ odd_bit a b (majority_bit a b c)
carry_again = of_three (λ a b c. odd_bit a b (majority_bit a b (majority_bit a b c)) ≡ odd_bit a b (majority_bit a b c)) refl refl refl refl refl refl refl refl

steady_step : (a b c : Function) → odd a b (majority a b (majority a b c)) ≡ odd a b (majority a b c)
unfolding odd majority
steady_step a b c = fun_ext (λ x. carry_again (a x) (b x) (c x))

pub steady-sum : (k : ℕ) (a b : Digits) → IsSteady k a → IsSteady k b → IsSteady (suc k) (sum a b)
unfolding sum carry
steady-sum k a b sa sb zero le = absurd (omega (arith, le))
steady-sum k a b sa sb (suc i) le =
    let ea = sa i (omega (arith, le)) in
    let eb = sb i (omega (arith, le)) in
    let ea2 : a (suc (suc i)) ≡ a i = sa (suc i) (omega (arith, le)) ∙ ea in
    let eb2 : b (suc (suc i)) ≡ b i = sb (suc i) (omega (arith, le)) ∙ eb in
    let c = carry a b i in
    ap (λ (w : Function). odd w (b (suc (suc i))) (majority (a (suc i)) (b (suc i)) (majority (a i) (b i) c))) ea2
    ∙ ap (λ (w : Function). odd (a i) w (majority (a (suc i)) (b (suc i)) (majority (a i) (b i) c))) eb2
    ∙ ap (λ (w : Function). odd (a i) (b i) (majority w (b (suc i)) (majority (a i) (b i) c))) ea
    ∙ ap (λ (w : Function). odd (a i) (b i) (majority (a i) w (majority (a i) (b i) c))) eb
    ∙ steady_step (a i) (b i) c
    ∙ sym (ap (λ (w : Function). odd w (b (suc i)) (majority (a i) (b i) c)) ea ∙ ap (λ (w : Function). odd (a i) w (majority (a i) (b i) c)) eb)

-- one place of the flipped bits plus 1, p times
half_adder : (p : ℕ) (f g : Bool) → p * number f + p * number g ≡ p * number (xor f g) + 2 * (p * number (f && g))
half_adder p true true = omega arith
half_adder p true false = omega arith
half_adder p false true = omega arith
half_adder p false false = omega arith

low_sum-negated : (m : ℕ) (n : Function) (a : Digits) (x : Assignment) → low_sum m (negated n a) x + 2 ^ m * number (one_carry n a m x) ≡ low_sum m (flipped n a) x + number (n x)
unfolding low_sum one_carry negated xor_of and_of
low_sum-negated zero n a x = omega arith
low_sum-negated (suc m) n a x =
    let h = low_sum-negated m n a x in
    let f = half_adder (2 ^ m) (flipped n a m x) (one_carry n a m x) in
    let t = twice m (number (flipped n a m x && one_carry n a m x)) in
    omega (arith, h, f, t)

flip_place : (p : ℕ) (a : Bool) → p * number (xor a true) + p * number a ≡ p
flip_place p true = omega arith
flip_place p false = omega arith

xor_off : (a : Bool) → xor a false ≡ a
xor_off true = refl
xor_off false = refl

low_sum-flipped : (m : ℕ) (n : Function) (a : Digits) (x : Assignment) → n x ≡ true → low_sum m (flipped n a) x + low_sum m a x + 1 ≡ 2 ^ m
unfolding low_sum flipped xor_of and_of
low_sum-flipped zero n a x on = omega arith
low_sum-flipped (suc m) n a x on =
    let h = low_sum-flipped m n a x on in
    let f = ap (λ b. 2 ^ m * number (xor (a m x) b) + 2 ^ m * number (a m x)) on ∙ flip_place (2 ^ m) (a m x) in
    let t = twice m 1 in
    omega (arith, h, f, t)

neg_place : (p : ℕ) (a c : Bool) → p * number (xor (xor a true) (xor a true && c)) + p * number (xor a true && c) + p * number a ≡ p
neg_place p true true = omega arith
neg_place p true false = omega arith
neg_place p false true = omega arith
neg_place p false false = omega arith

neg_value : (p ls lf la : ℕ) (a c : Bool) → ls + p * number (xor a true && c) ≡ lf + 1 → lf + la + 1 ≡ p → pos ls -ℤ pos (p * number (xor (xor a true) (xor a true && c))) ≡ neg_ℤ (pos la -ℤ pos (p * number a))
neg_value p ls lf la a c h g = let t = neg_place p a c in omega (arith, ints, h, g, t)

-- where n is false nothing changes
one_carry_off : (n : Function) (a : Digits) (x : Assignment) (i : ℕ) → n x ≡ false → one_carry n a i x ≡ false
unfolding one_carry xor_of and_of
one_carry_off n a x zero off = off
one_carry_off n a x (suc i) off = ap (λ b. flipped n a i x && b) (one_carry_off n a x i off) ∙ and_off (flipped n a i x)
  where
    and_off : (b : Bool) → (b && false) ≡ false
    and_off true = refl
    and_off false = refl

negated_off : (n : Function) (a : Digits) (x : Assignment) (i : ℕ) → n x ≡ false → negated n a i x ≡ a i x
unfolding negated flipped xor_of and_of
negated_off n a x i off = ap (λ b. xor (xor (a i x) b) (one_carry n a i x)) off ∙ ap (λ b. xor (xor (a i x) false) b) (one_carry_off n a x i off) ∙ xor_off (xor (a i x) false) ∙ xor_off (a i x)

low_sum_same : (m : ℕ) (a b : Digits) (x : Assignment) → ((i : ℕ) → a i x ≡ b i x) → low_sum m a x ≡ low_sum m b x
unfolding low_sum
low_sum_same zero a b x same = refl
low_sum_same (suc m) a b x same = ap (λ l. l + 2 ^ m * number (a m x)) (low_sum_same m a b x same) ∙ ap (λ c. low_sum m b x + 2 ^ m * number c) (same m)

pub value_same : (m : ℕ) (a b : Digits) (x : Assignment) → ((i : ℕ) → a i x ≡ b i x) → slice_value m a x ≡ slice_value m b x
unfolding slice_value
value_same m a b x same = ap (λ l. pos l -ℤ pos (2 ^ m * number (a m x))) (low_sum_same m a b x same) ∙ ap (λ c. pos (low_sum m b x) -ℤ pos (2 ^ m * number c)) (same m)

less_off : (b c : Bool) → c ≡ false → (c && not b) ≡ c
less_off b c e = ap (λ d. d && not b) e ∙ sym e

less_on_flip : (b c : Bool) → (c && not b) ≡ (xor b true && c)
less_on_flip = of_two (λ b c. (c && not b) ≡ (xor b true && c)) refl refl refl refl

-- the next carry is the carry where the bit is false
pub one_carry-less : (n : Function) (a : Digits) (i : ℕ) → less (one_carry n a i) (a i) ≡ one_carry n a (suc i)
unfolding less one_carry flipped xor_of and_of
one_carry-less n a i = fun_ext (λ x. elim (cases_Bool (n x)) [
  | inl on ↦ less_on_flip (a i x) (one_carry n a i x) ∙ ap (λ b. xor (a i x) b && one_carry n a i x) (sym on)
  | inr off ↦ less_off (a i x) (one_carry n a i x) (one_carry_off n a x i off) ∙ one_carry_off n a x i off ∙ sym (one_carry_off n a x (suc i) off)
])

value-negated_on : (k : ℕ) (n : Function) (a : Digits) (x : Assignment) → IsSteady k a → n x ≡ true → slice_value (suc k) (negated n a) x ≡ neg_ℤ (slice_value (suc k) a x)
unfolding slice_value negated one_carry flipped xor_of and_of
value-negated_on k n a x sa on =
    let ea = at_point (a (suc k)) (a k) x (sa k (omega arith)) in
    let p = 2 ^ suc k in
    let ls = low_sum (suc k) (negated n a) x in
    let lf = low_sum (suc k) (flipped n a) x in
    let la = low_sum (suc k) a x in
    let c = one_carry n a k x in
    let h : ls + p * number (xor (a k x) true && c) ≡ lf + 1 = ap (λ b. ls + p * number (xor (a k x) b && c)) (sym on) ∙ low_sum-negated (suc k) n a x ∙ ap (λ b. lf + number b) on in
    let g = low_sum-flipped (suc k) n a x on in
    ap (λ w. pos ls -ℤ pos (p * number (xor (xor w (n x)) (xor (a k x) (n x) && c)))) ea
    ∙ ap (λ b. pos ls -ℤ pos (p * number (xor (xor (a k x) b) (xor (a k x) b && c)))) on
    ∙ neg_value p ls lf la (a k x) c h g
    ∙ ap (λ w. neg_ℤ (pos la -ℤ pos (p * number w))) (sym ea)

-- Where a is steady from bit k on, its negation with one more bit has the negated value.
pub value-negated : (k : ℕ) (n : Function) (a : Digits) (x : Assignment) → IsSteady k a → slice_value (suc k) (negated n a) x ≡ cond (n x) (neg_ℤ (slice_value (suc k) a x)) (slice_value (suc k) a x)
value-negated k n a x sa =
    elim (cases_Bool (n x)) [
      | inl on ↦ value-negated_on k n a x sa on ∙ ap (λ b. cond b (neg_ℤ (slice_value (suc k) a x)) (slice_value (suc k) a x)) (sym on)
      | inr off ↦ value_same (suc k) (negated n a) a x (λ i. negated_off n a x i off) ∙ ap (λ b. cond b (neg_ℤ (slice_value (suc k) a x)) (slice_value (suc k) a x)) (sym off)
    ]

one_carry_again : (f g : Bool) → xor f (f && (f && g)) ≡ xor f (f && g)
one_carry_again = of_two (λ f g. xor f (f && (f && g)) ≡ xor f (f && g)) refl refl refl refl

pub steady-negated : (k : ℕ) (n : Function) (a : Digits) → IsSteady k a → IsSteady (suc k) (negated n a)
unfolding negated one_carry flipped xor_of and_of
steady-negated k n a sa zero le = absurd (omega (arith, le))
steady-negated k n a sa (suc i) le =
    fun_ext (λ x.
    let e = at_point (a (suc i)) (a i) x (sa i (omega (arith, le))) in
    let e2 = at_point (a (suc (suc i))) (a (suc i)) x (sa (suc i) (omega (arith, le))) ∙ e in
    let g = one_carry n a i x in
    ap (λ w. xor (xor w (n x)) (xor (a (suc i) x) (n x) && (xor (a i x) (n x) && g))) e2
    ∙ ap (λ w. xor (xor (a i x) (n x)) (xor w (n x) && (xor (a i x) (n x) && g))) e
    ∙ one_carry_again (xor (a i x) (n x)) g
    ∙ ap (λ w. xor (xor w (n x)) (xor (a i x) (n x) && g)) (sym e))

pub steady-chosen : (k : ℕ) (n : Function) (a b : Digits) → IsSteady k a → IsSteady k b → IsSteady k (chosen n a b)
unfolding chosen choice
steady-chosen k n a b sa sb i le = ap (λ (w : Function). choice n w (b (suc i))) (sa i le) ∙ ap (λ (w : Function). choice n (a i) w) (sb i le)

chosen_at : (n : Function) (a b : Digits) (x : Assignment) (i : ℕ) (c : Bool) → n x ≡ c → chosen n a b i x ≡ cond c (a i x) (b i x)
unfolding chosen choice
chosen_at n a b x i c e = ap (λ d. cond d (a i x) (b i x)) e

pub value-chosen : (m : ℕ) (n : Function) (a b : Digits) (x : Assignment) → slice_value m (chosen n a b) x ≡ cond (n x) (slice_value m a x) (slice_value m b x)
value-chosen m n a b x =
    elim (cases_Bool (n x)) [
      | inl on ↦ value_same m (chosen n a b) a x (λ i. chosen_at n a b x i true on) ∙ ap (λ c. cond c (slice_value m a x) (slice_value m b x)) (sym on)
      | inr off ↦ value_same m (chosen n a b) b x (λ i. chosen_at n a b x i false off) ∙ ap (λ c. cond c (slice_value m a x) (slice_value m b x)) (sym off)
    ]

pub steady-fixed : (k v : ℕ) (b : Bool) (a : Digits) → IsSteady k a → IsSteady k (fixed v b a)
unfolding fixed
steady-fixed k v b a sa i le = ap (fix v b) (sa i le)

low_sum-fixed : (m v : ℕ) (b : Bool) (a : Digits) (x : Assignment) → low_sum m (fixed v b a) x ≡ low_sum m a (put x v b)
unfolding low_sum fixed
low_sum-fixed zero v b a x = refl
low_sum-fixed (suc m) v b a x = ap (λ l. l + 2 ^ m * number (a m (put x v b))) (low_sum-fixed m v b a x)

pub value-fixed : (m v : ℕ) (b : Bool) (a : Digits) (x : Assignment) → slice_value m (fixed v b a) x ≡ slice_value m a (put x v b)
unfolding slice_value fixed
value-fixed m v b a x = ap (λ l. pos l -ℤ pos (2 ^ m * number (a m (put x v b)))) (low_sum-fixed m v b a x)

pub steady-turned : (k v : ℕ) (n : Function) (a : Digits) → IsSteady k a → IsSteady k (turned v n a)
unfolding turned
steady-turned k v n a sa i le = ap (exchanged v n) (sa i le)

low_sum-turned : (m v : ℕ) (n : Function) (a : Digits) (x : Assignment) → low_sum m (turned v n a) x ≡ low_sum m a (put x v (cond (n x) (not (x v)) (x v)))
unfolding low_sum turned exchanged
low_sum-turned zero v n a x = refl
low_sum-turned (suc m) v n a x = ap (λ l. l + 2 ^ m * number (a m (put x v (cond (n x) (not (x v)) (x v))))) (low_sum-turned m v n a x)

pub value-turned : (m v : ℕ) (n : Function) (a : Digits) (x : Assignment) → slice_value m (turned v n a) x ≡ slice_value m a (put x v (cond (n x) (not (x v)) (x v)))
unfolding slice_value turned exchanged
value-turned m v n a x = ap (λ l. pos l -ℤ pos (2 ^ m * number (a m (put x v (cond (n x) (not (x v)) (x v)))))) (low_sum-turned m v n a x)
