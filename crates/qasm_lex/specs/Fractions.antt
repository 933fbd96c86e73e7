-- Fractions of whole numbers in lowest terms, and the arithmetic on them. A part of more than 2^63 - 1 is too wide.
use Rattle.std.specs.Prelude.{◌≡◌, ◌≤◌, ◌≤ℤ◌, ℕ, zero, suc, ◌%◌, Bool, cond, ◌&&◌, nat_eq, nat_le, Result, Ok, Err, ℤ, pos, negsuc, neg_ℤ, ◌+ℤ◌, ◌*ℤ◌, unsigned_abs, int_div}
use Rattle.qasm_lex.specs.declared.refusal.AngleRefusal.{AngleRefusal}
use Rattle.qasm_lex.specs.declared.refusal.AngleRefusal.TheVariants.{TooWide}

-- num over den
pub record Ratio : Type 0 where
  pub num : ℤ
  pub den : ℤ

-- the greatest number up to k that divides both a and b
unfoldable pub greatest_up_to : ℕ → ℕ → ℕ → ℕ
greatest_up_to zero a b = 0
greatest_up_to (suc k) a b = cond (nat_eq (a % suc k) 0 && nat_eq (b % suc k) 0) (suc k) (greatest_up_to k a b)

-- the greatest common divisor of a and a positive b
unfoldable pub greatest_divisor : ℕ → ℕ → ℕ
greatest_divisor a b = greatest_up_to b a b

-- n over a positive d in lowest terms: both divided by what they have in common
unfoldable pub lowest : ℤ → ℤ → Ratio
lowest n d =
    let common = pos (greatest_divisor (unsigned_abs n) (unsigned_abs d)) in
    record { num = int_div n common; den = int_div d common }

-- the greatest size of a part
abbrev pub most : ℕ
most = 9223372036854775807

-- whether both parts are at most 2^63 - 1 in size
abbrev pub is_narrow : Ratio → Bool
is_narrow q = nat_le (unsigned_abs q.num) most && nat_le (unsigned_abs q.den) most

-- the fraction itself, or that it is too wide
abbrev pub narrowed : Ratio → Result Ratio AngleRefusal
narrowed q = cond (is_narrow q) (Ok q) (Err TooWide)

-- n over a positive d in lowest terms, or that it is too wide
unfoldable pub fraction : ℤ → ℤ → Result Ratio AngleRefusal
fraction n d = narrowed (lowest n d)

-- in lowest terms with a positive denominator, and neither part too wide
pub record IsReduced (num den : ℤ) : Type 0 where
  pub positive : pos 1 ≤ℤ den
  pub num_narrow : unsigned_abs num ≤ most
  pub den_narrow : unsigned_abs den ≤ most
  pub lowest_terms : greatest_divisor (unsigned_abs num) (unsigned_abs den) ≡ 1

-- a whole number
abbrev pub whole_ratio : ℤ → Ratio
whole_ratio n = record { num = n; den = pos 1 }

-- whether it is 0
abbrev pub is_zero : Ratio → Bool
is_zero q = nat_eq (unsigned_abs q.num) 0

-- its negative
abbrev pub negative_ratio : Ratio → Ratio
negative_ratio q = record { num = neg_ℤ q.num; den = q.den }

-- d with the sign of n
abbrev pub with_sign_of : ℤ → ℤ → ℤ
with_sign_of (pos n) d = d
with_sign_of (negsuc n) d = neg_ℤ d

-- 1 over a fraction that isn't 0
abbrev pub reciprocal : Ratio → Ratio
reciprocal q = record { num = with_sign_of q.num q.den; den = pos (unsigned_abs q.num) }

-- the sum, over the product of the denominators
abbrev pub ratio_sum : Ratio → Ratio → Result Ratio AngleRefusal
ratio_sum p q = fraction ((p.num *ℤ q.den) +ℤ (q.num *ℤ p.den)) (p.den *ℤ q.den)

-- the product
abbrev pub ratio_product : Ratio → Ratio → Result Ratio AngleRefusal
ratio_product p q = fraction (p.num *ℤ q.num) (p.den *ℤ q.den)
