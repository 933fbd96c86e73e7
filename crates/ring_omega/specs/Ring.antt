-- The ring of integer polynomials in a primitive eighth root of unity ω, where ω⁴ = -1. A quadruple (a,b,c,d) stands for
-- aω³ + bω² + cω + d, with unbounded integers. The basis is that of exact synthesis over Clifford+T (Giles and Selinger).
use Rattle.std.specs.Prelude.{ℕ, zero, suc, ℤ, pos, negsuc, ◌+ℤ◌, ◌-ℤ◌, ◌*ℤ◌, neg_ℤ, FitsSigned, Bool, ◌&&◌}
use Rattle.std.specs.Ordering.{int_eq}
use Rattle.std.specs.Int.{w128}
use Rattle.ring_omega.specs.declared.quad.Quad.{Quad}

-- the number with these coordinates
abbrev pub quad : ℤ → ℤ → ℤ → ℤ → Quad
quad x y z u = record { a = x; b = y; c = z; d = u }

abbrev pub zero_quad : Quad
zero_quad = quad (pos 0) (pos 0) (pos 0) (pos 0)

abbrev pub one_quad : Quad
one_quad = quad (pos 0) (pos 0) (pos 0) (pos 1)

-- ω
abbrev pub omega_unit : Quad
omega_unit = quad (pos 0) (pos 0) (pos 1) (pos 0)

-- ω - ω³, which is √2
abbrev pub root_of_two : Quad
root_of_two = quad (negsuc 0) (pos 0) (pos 1) (pos 0)

unfoldable pub sum_of : Quad → Quad → Quad
sum_of p q = quad (p.a +ℤ q.a) (p.b +ℤ q.b) (p.c +ℤ q.c) (p.d +ℤ q.d)

unfoldable pub difference_of : Quad → Quad → Quad
difference_of p q = quad (p.a -ℤ q.a) (p.b -ℤ q.b) (p.c -ℤ q.c) (p.d -ℤ q.d)

-- the product of polynomials in ω, with ω⁴ = -1
unfoldable pub product_of : Quad → Quad → Quad
product_of p q =
    quad
    (p.a *ℤ q.d +ℤ p.b *ℤ q.c +ℤ p.c *ℤ q.b +ℤ p.d *ℤ q.a)
    (p.b *ℤ q.d +ℤ p.c *ℤ q.c +ℤ p.d *ℤ q.b -ℤ p.a *ℤ q.a)
    (p.c *ℤ q.d +ℤ p.d *ℤ q.c -ℤ p.a *ℤ q.b -ℤ p.b *ℤ q.a)
    (p.d *ℤ q.d -ℤ p.a *ℤ q.c -ℤ p.b *ℤ q.b -ℤ p.c *ℤ q.a)

-- q times the n-th power of p
abbrev pub times_power : Quad → ℕ → Quad → Quad
times_power p zero q = q
times_power p (suc n) q = product_of (times_power p n q) p

-- the complex conjugate: that of ω is ω⁷ = -ω³
unfoldable pub conjugate_of : Quad → Quad
conjugate_of q = quad (neg_ℤ q.c) (neg_ℤ q.b) (neg_ℤ q.a) q.d

-- whether q is zero
unfoldable pub is_zero : Quad → Bool
is_zero q = int_eq q.a (pos 0) && (int_eq q.b (pos 0) && (int_eq q.c (pos 0) && int_eq q.d (pos 0)))

-- each coordinate is a signed number of 128 bits
pub record Fits (q : Quad) : Type 0 where
  pub a_fits : FitsSigned w128 q.a
  pub b_fits : FitsSigned w128 q.b
  pub c_fits : FitsSigned w128 q.c
  pub d_fits : FitsSigned w128 q.d
