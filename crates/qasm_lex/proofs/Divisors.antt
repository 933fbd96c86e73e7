-- Greatest common divisors: what Euclid's remainders give is the greatest number that divides both.
use Rattle.std.proofs.Common.{◌≡◌, ◌∙◌, sym, ap, refl, ◌≤◌, ◌<◌, inl, inr, ℕ, zero, suc, ◌+◌, ◌*◌, ◌/◌, ◌%◌, Bool, true, false, cond, ◌&&◌, nat_eq, arith, subst}
use Rattle.std.specs.Int.{IsGcd}
use Rattle.std.proofs.Math.Nat.{pos_of_dvd_of_pos, div-mul_cancel, mul-dvd-mul_right, dvd_of_mul-dvd-mul_right, one-dvd, eq-or-lt_of_le, mul_comm, mul_assoc, add-mul, zero-mul, mul-pos, mul-lt-mul_of_pos_right, dvd-mul_left, dvd-mul_right, eq_of_mul-eq-mul_right}
use Rattle.std.proofs.lemmas.Nat.{mod-mul-add}
use Prim.Native.Nat.{◌∣◌}
use Rattle.std.proofs.lemmas.Nat.Gcd.{IsGcd-from_zero, IsGcd-from_mod, IsGcd-swap, same_from_IsGcd, le_from_IsGcd, dvd_antisymm, dvd_of_mod-eq-zero, mod-eq-zero_of_dvd, le_of_dvd}
use Rattle.std.proofs.lemmas.Bool.{eqb-true, eq-eqb, and_parts, cases_eq}
use Rattle.qasm_lex.specs.Fractions.{greatest_up_to, greatest_divisor}

both_divided : (k a b : ℕ) → (nat_eq (a % suc k) 0 && nat_eq (b % suc k) 0) ≡ true → (suc k ∣ a) × (suc k ∣ b)
both_divided k a b e =
    let p = and_parts _ _ e in
    (dvd_of_mod-eq-zero (suc k) (eqb-true _ _ p.0), dvd_of_mod-eq-zero (suc k) (eqb-true _ _ p.1))

both_tested : (k a b : ℕ) → suc k ∣ a → suc k ∣ b → (nat_eq (a % suc k) 0 && nat_eq (b % suc k) 0) ≡ true
both_tested k a b p q =
    let e : nat_eq (a % suc k) 0 ≡ true = eq-eqb (a % suc k) 0 (mod-eq-zero_of_dvd (suc k) p) in
    let f : nat_eq (b % suc k) 0 ≡ true = eq-eqb (b % suc k) 0 (mod-eq-zero_of_dvd (suc k) q) in
    rw (e, f) refl

greatest_step : (k a b g : ℕ) → 0 < g → IsGcd a b g → g ≤ suc k → (g ≤ k → greatest_up_to k a b ≡ g)
    → (t : Bool) → (nat_eq (a % suc k) 0 && nat_eq (b % suc k) 0) ≡ t → cond t (suc k) (greatest_up_to k a b) ≡ g
greatest_step k a b g p h le rest true e =
    let d = both_divided k a b e in
    let up = le_from_IsGcd a b g (suc k) h p d.0 d.1 in
    omega arith
greatest_step k a b g p h le rest false e =
    elim (eq-or-lt_of_le le) [
      | inl s ↦
          let t : (nat_eq (a % suc k) 0 && nat_eq (b % suc k) 0) ≡ true = both_tested k a b (subst (λ x. x ∣ a) s h.0) (subst (λ x. x ∣ b) s h.1) in
          absurd cc
      | inr lt ↦ rest (omega arith)
    ]

greatest_from : (k a b g : ℕ) → 0 < g → IsGcd a b g → g ≤ k → greatest_up_to k a b ≡ g
unfolding greatest_up_to
greatest_from zero a b g p h le = absurd (omega arith)
greatest_from (suc k) a b g p h le = greatest_step k a b g p h le (λ l. greatest_from k a b g p h l) (nat_eq (a % suc k) 0 && nat_eq (b % suc k) 0) refl

-- a greatest common divisor is the one that the search finds
pub greatest_divisor-is : (a b g : ℕ) → 0 < b → IsGcd a b g → greatest_divisor a b ≡ g
unfolding greatest_divisor
greatest_divisor-is a b g p h = greatest_from b a b g (pos_of_dvd_of_pos h.1 p) h (le_of_dvd p h.1)

euclid_from : (n a b : ℕ) → b ≤ n → (g : ℕ) × IsGcd a b g
euclid_from zero a b h = (a, IsGcd-from_zero a b (omega arith))
euclid_from (suc n) a b h =
    elim (cases_eq b 0) [
      | inl z ↦ (a, IsGcd-from_zero a b z)
      | inr nz ↦
          let lt : a % b < b = omega arith in
          let r = euclid_from n b (a % b) (omega arith) in
          (r.0, IsGcd-from_mod a b r.0 r.1)
    ]

-- what the search finds is a greatest common divisor
pub greatest_divisor-gcd : (a b : ℕ) → 0 < b → IsGcd a b (greatest_divisor a b)
greatest_divisor-gcd a b p =
    let r = euclid_from b a b (omega arith) in
    subst (λ g. IsGcd a b g) (sym (greatest_divisor-is a b r.0 p r.1)) r.1

pub greatest_divisor-swap : (a b : ℕ) → 0 < a → 0 < b → greatest_divisor a b ≡ greatest_divisor b a
greatest_divisor-swap a b p q = greatest_divisor-is a b (greatest_divisor b a) q (IsGcd-swap b a _ (greatest_divisor-gcd b a p))

pub greatest_divisor-one : (a : ℕ) → greatest_divisor a 1 ≡ 1
greatest_divisor-one a = greatest_divisor-is a 1 1 (omega arith) (one-dvd a, one-dvd 1, λ d p q. q)

pub greatest_divisor-some : (a b : ℕ) → 0 < b → 0 < greatest_divisor a b
greatest_divisor-some a b p = let g = greatest_divisor-gcd a b p in pos_of_dvd_of_pos g.1 p

pub greatest_divisor-within : (a b : ℕ) → 0 < b → greatest_divisor a b ≤ b
greatest_divisor-within a b p = let g = greatest_divisor-gcd a b p in le_of_dvd p g.1

coprime_below : (g d : ℕ) → 0 < g → d * g ∣ g → d ∣ 1
coprime_below g d p h = dvd_of_mul-dvd-mul_right d p (subst (λ x. d * g ∣ x) (omega arith) h)

coprime : (a b g : ℕ) → 0 < g → IsGcd a b g → IsGcd (a / g) (b / g) 1
coprime a b g p h = (
  one-dvd (a / g),
  one-dvd (b / g),
  λ d q r. coprime_below g d p (h.2 (d * g) (subst (λ x. d * g ∣ x) (div-mul_cancel g h.0) (mul-dvd-mul_right d q g)) (subst (λ x. d * g ∣ x) (div-mul_cancel g h.1) (mul-dvd-mul_right d r g))),
)

-- a positive number divided by one of its divisors
pub divided_some : (b g : ℕ) → 0 < b → g ∣ b → 0 < b / g
divided_some b g p h =
    let e = div-mul_cancel g h in
    elim (cases_eq (b / g) 0) [
      | inl z ↦ absurd (let f : b / g * g ≡ 0 * g = ap (λ x. x * g) z in omega arith)
      | inr nz ↦ omega arith
    ]

-- numbers divided by their greatest common divisor have none but 1
pub greatest_divisor-lowest : (a b : ℕ) → 0 < b → greatest_divisor (a / greatest_divisor a b) (b / greatest_divisor a b) ≡ 1
greatest_divisor-lowest a b p =
    let g = greatest_divisor-gcd a b p in
    greatest_divisor-is _ _ 1 (divided_some b (greatest_divisor a b) p g.1) (coprime a b (greatest_divisor a b) (greatest_divisor-some a b p) g)

-- a remainder of multiples of k is the multiple of the remainder
mod_times : (a b k : ℕ) → 0 < b → 0 < k → a * k % (b * k) ≡ a % b * k
mod_times a b k p q =
    let e : a ≡ a / b * b + a % b = omega arith in
    let lt : a % b < b = omega arith in
    let f : a * k ≡ a / b * (b * k) + a % b * k = ap (λ x. x * k) e ∙ add-mul (a / b * b) (a % b) k ∙ ap (λ x. x + a % b * k) (mul_assoc (a / b) b k) in
    ap (λ x. x % (b * k)) f ∙ mod-mul-add (a / b) (b * k) (a % b * k) (mul-lt-mul_of_pos_right lt q)

gcd_times : (n a b k : ℕ) → b ≤ n → 0 < k → (g : ℕ) × IsGcd a b g × IsGcd (a * k) (b * k) (g * k)
gcd_times zero a b k h p =
    let z : b ≡ 0 = omega arith in
    (a, IsGcd-from_zero a b z, IsGcd-from_zero (a * k) (b * k) (ap (λ x. x * k) z ∙ zero-mul k))
gcd_times (suc n) a b k h p =
    elim (cases_eq b 0) [
      | inl z ↦ (a, IsGcd-from_zero a b z, IsGcd-from_zero (a * k) (b * k) (ap (λ x. x * k) z ∙ zero-mul k))
      | inr nz ↦
          let lt : a % b < b = omega arith in
          let r = gcd_times n b (a % b) k (omega arith) p in
          (r.0, IsGcd-from_mod a b r.0 r.1, IsGcd-from_mod (a * k) (b * k) (r.0 * k) (subst (λ x. IsGcd (b * k) x (r.0 * k)) (sym (mod_times a b k (omega arith) p)) r.2))
    ]

-- what divides a product and has nothing in common with one factor divides the other
coprime_divides : (a b d : ℕ) → 0 < d → IsGcd a b 1 → b ∣ a * d → b ∣ d
coprime_divides a b d p h q =
    let r = gcd_times b a b d (omega arith) p in
    let one : r.0 ≡ 1 = same_from_IsGcd a b r.0 1 r.1 h in
    let g : b ∣ r.0 * d = (r.2).2 b q (dvd-mul_right b d) in
    subst (λ x. b ∣ x) (ap (λ x. x * d) one ∙ omega arith) g

-- a fraction has one form in lowest terms
lowest_unique : (a b c d : ℕ) → 0 < b → 0 < d → IsGcd a b 1 → IsGcd c d 1 → a * d ≡ c * b → (a ≡ c) × (b ≡ d)
lowest_unique a b c d p q g h e =
    let over : b ∣ d = coprime_divides a b d q g (subst (λ x. b ∣ x) (sym e) (dvd-mul_left b c)) in
    let back : d ∣ b = coprime_divides c d b p h (subst (λ x. d ∣ x) e (dvd-mul_left d a)) in
    let same : b ≡ d = dvd_antisymm over back in
    (eq_of_mul-eq-mul_right d q a c (e ∙ ap (λ x. c * x) same), same)

crossing : (a g e h : ℕ) → a * g * (e * h) ≡ a * e * (g * h)
crossing a g e h =
    mul_assoc a g (e * h) ∙ ap (λ x. a * x) (sym (mul_assoc g e h) ∙ ap (λ x. x * h) (mul_comm g e) ∙ mul_assoc e g h) ∙ sym (mul_assoc a e (g * h))

-- fractions of one value have the same lowest terms
pub lowest_of_equal : (a d b e : ℕ) → 0 < d → 0 < e → a * e ≡ b * d
    → (a / greatest_divisor a d ≡ b / greatest_divisor b e) × (d / greatest_divisor a d ≡ e / greatest_divisor b e)
lowest_of_equal a d b e p q s =
    let g = greatest_divisor a d in
    let h = greatest_divisor b e in
    let gd = greatest_divisor-gcd a d p in
    let hd = greatest_divisor-gcd b e q in
    let gp = greatest_divisor-some a d p in
    let hp = greatest_divisor-some b e q in
    let left : a / g * (e / h) * (g * h) ≡ a * e = sym (crossing (a / g) g (e / h) h) ∙ ap (λ x. x * (e / h * h)) (div-mul_cancel g gd.0) ∙ ap (λ x. a * x) (div-mul_cancel h hd.1) in
    let right : b / h * (d / g) * (h * g) ≡ b * d = sym (crossing (b / h) h (d / g) g) ∙ ap (λ x. x * (d / g * g)) (div-mul_cancel h hd.0) ∙ ap (λ x. b * x) (div-mul_cancel g gd.1) in
    let both : a / g * (e / h) * (g * h) ≡ b / h * (d / g) * (g * h) = left ∙ s ∙ sym right ∙ ap (λ x. b / h * (d / g) * x) (mul_comm h g) in
    lowest_unique (a / g) (d / g) (b / h) (e / h) (divided_some d g p gd.1) (divided_some e h q hd.1) (coprime a d g gp gd) (coprime b e h hp hd)
    (eq_of_mul-eq-mul_right (g * h) (mul-pos gp hp) (a / g * (e / h)) (b / h * (d / g)) both)
