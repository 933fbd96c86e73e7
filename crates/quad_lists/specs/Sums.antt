-- What an exact sum stands for, and the bounds of a width.
use Rattle.std.specs.Prelude.{◌≡◌, ℕ, ◌-◌, ◌^◌, ℤ, pos, neg_ℤ, ◌+ℤ◌, ◌*ℤ◌}
use Rattle.ring_omega.specs.declared.quad.Quad.{Quad}
use Rattle.ring_omega.specs.Ring.{quad}
use Rattle.quad_lists.specs.declared.exact.Bounds.{Bounds}
use Rattle.quad_lists.specs.declared.exact.ExactSum.{ExactSum}
use Rattle.quad_lists.specs.declared.exact.ExactQuad.{ExactQuad}

-- the range of signed numbers of w bits
pub record AreBounds (w : ℕ) (b : Bounds) : Type 0 where
  pub least : b.least ≡ neg_ℤ (pos (2 ^ (w - 1)))
  pub greatest : b.greatest +ℤ pos 1 ≡ pos (2 ^ (w - 1))

-- the number that the sum stands for
abbrev pub sum_value : ExactSum → ℤ
sum_value s = s.low +ℤ s.high *ℤ pos (2 ^ 128)

-- and that of a sum of quadruples
abbrev pub quad_value : ExactQuad → Quad
quad_value q = quad (sum_value q.a) (sum_value q.b) (sum_value q.c) (sum_value q.d)
