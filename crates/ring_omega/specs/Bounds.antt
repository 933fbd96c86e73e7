-- How large the coordinates of a number are.
use Rattle.std.specs.Prelude.{ℕ, ℤ, pos, neg_ℤ, ◌≤ℤ◌}
use Rattle.ring_omega.specs.declared.quad.Quad.{Quad}

-- the integer lies in -m .. m
abbrev pub IntWithin : ℕ → ℤ → Type 0
IntWithin m z = (neg_ℤ (pos m) ≤ℤ z) × (z ≤ℤ pos m)

-- each coordinate lies in -m .. m
pub record IsWithin (m : ℕ) (q : Quad) : Type 0 where
  pub a_within : IntWithin m q.a
  pub b_within : IntWithin m q.b
  pub c_within : IntWithin m q.c
  pub d_within : IntWithin m q.d
