-- The lowest form of a pair, computed: divided by √2 as often as the exponent and the parities allow.
use Rattle.std.specs.Prelude.{ℕ, zero, suc, ℤ, pos, ◌+ℤ◌, ◌-ℤ◌, ◌%◌, ◌==◌, ◌&&◌, Bool, cond, unsigned_abs, int_div}
use Rattle.ring_omega.specs.declared.quad.Quad.{Quad}
use Rattle.ring_omega.specs.Ring.{quad}

abbrev pub is_even : ℤ → Bool
is_even z = unsigned_abs z % 2 == 0

abbrev pub half : ℤ → ℤ
half z = int_div z (pos 2)

-- whether q is a multiple of the root of two
unfoldable pub is_divisible : Quad → Bool
is_divisible q = is_even (q.a -ℤ q.c) && is_even (q.b -ℤ q.d)

-- q divided by the root of two, where it is a multiple
unfoldable pub quotient : Quad → Quad
quotient q = quad (half (q.b -ℤ q.d)) (half (q.a +ℤ q.c)) (half (q.b +ℤ q.d)) (half (q.c -ℤ q.a))

-- the lowest form of (q, k)
unfoldable pub lowest_form : Quad → ℕ → Quad × ℕ
lowest_form q zero = (q, zero)
lowest_form q (suc k) = cond (is_divisible q) (lowest_form (quotient q) k) (q, suc k)
