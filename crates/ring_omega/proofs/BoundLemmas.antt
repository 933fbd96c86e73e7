-- Bounds on the coordinates of sums, differences and turned numbers.
use Rattle.std.proofs.Common.{ℕ, ◌+◌, zero, suc, ◌^◌, ◌<◌, ◌≤◌, sym, subst, arith, neg_ℤ}
use Rattle.std.proofs.lemmas.Int.{ints}
use Rattle.ring_omega.specs.declared.quad.Quad.{Quad}
use Rattle.ring_omega.specs.Ring.{quad, zero_quad, one_quad, sum_of, difference_of, times_power, omega_unit, Fits}
use Rattle.ring_omega.specs.Bounds.{IsWithin}
use Rattle.ring_omega.proofs.RingLemmas.{times_omega-is}

pub IsWithin-sum_of : (m n : ℕ) (p q : Quad) → IsWithin m p → IsWithin n q → IsWithin (m + n) (sum_of p q)
unfolding sum_of
IsWithin-sum_of m n p q f g = record {
  a_within = omega (arith, ints, f.a_within, g.a_within);
  b_within = omega (arith, ints, f.b_within, g.b_within);
  c_within = omega (arith, ints, f.c_within, g.c_within);
  d_within = omega (arith, ints, f.d_within, g.d_within);
}

pub IsWithin-difference_of : (m n : ℕ) (p q : Quad) → IsWithin m p → IsWithin n q → IsWithin (m + n) (difference_of p q)
unfolding difference_of
IsWithin-difference_of m n p q f g = record {
  a_within = omega (arith, ints, f.a_within, g.a_within);
  b_within = omega (arith, ints, f.b_within, g.b_within);
  c_within = omega (arith, ints, f.c_within, g.c_within);
  d_within = omega (arith, ints, f.d_within, g.d_within);
}

IsWithin-turned_once : (m : ℕ) (q : Quad) → IsWithin m q → IsWithin m (quad q.b q.c q.d (neg_ℤ q.a))
IsWithin-turned_once m q f = record {
  a_within = f.b_within;
  b_within = f.c_within;
  c_within = f.d_within;
  d_within = omega (arith, ints, f.a_within);
}

-- a turn by a power of ω keeps the bound
pub IsWithin-turned : (m j : ℕ) (q : Quad) → IsWithin m q → IsWithin m (times_power omega_unit j q)
IsWithin-turned m zero q f = f
IsWithin-turned m (suc j) q f =
    subst (IsWithin m) (sym (times_omega-is (times_power omega_unit j q))) (IsWithin-turned_once m _ (IsWithin-turned m j q f))

pub IsWithin-more : (m n : ℕ) (q : Quad) → m ≤ n → IsWithin m q → IsWithin n q
IsWithin-more m n q le f = record {
  a_within = omega (arith, ints, f.a_within);
  b_within = omega (arith, ints, f.b_within);
  c_within = omega (arith, ints, f.c_within);
  d_within = omega (arith, ints, f.d_within);
}

pub IsWithin-zero_quad : (m : ℕ) → IsWithin m zero_quad
IsWithin-zero_quad m = record {
  a_within = (omega (arith, ints), omega (arith, ints));
  b_within = (omega (arith, ints), omega (arith, ints));
  c_within = (omega (arith, ints), omega (arith, ints));
  d_within = (omega (arith, ints), omega (arith, ints));
}

pub IsWithin-one_quad : IsWithin 1 one_quad
IsWithin-one_quad = record {
  a_within = (omega (arith, ints), omega (arith, ints));
  b_within = (omega (arith, ints), omega (arith, ints));
  c_within = (omega (arith, ints), omega (arith, ints));
  d_within = (omega (arith, ints), omega (arith, ints));
}

-- within a bound below 2^127 no coordinate leaves its type
pub Fits-from_IsWithin : (m : ℕ) (q : Quad) → m < 2 ^ 127 → IsWithin m q → Fits q
Fits-from_IsWithin m q lt f = record {
  a_fits = omega (arith, ints, f.a_within);
  b_fits = omega (arith, ints, f.b_within);
  c_fits = omega (arith, ints, f.c_within);
  d_fits = omega (arith, ints, f.d_within);
}
