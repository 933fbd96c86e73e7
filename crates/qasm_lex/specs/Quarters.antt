-- Multiples of a quarter turn, and of an eighth of one.
use Rattle.std.specs.Prelude.{◌≡◌, ◌<◌, ℕ, ℤ, pos, ◌+ℤ◌, ◌*ℤ◌}
use Rattle.qasm_lex.specs.Fractions.{Ratio}

-- q·π is m·π/2 and a whole number of times 4π, so 2·q is m + 8·k
pub record IsQuarters (q : Ratio) (m : ℕ) : Type 0 where
  pub below : m < 8
  pub times : ℤ
  pub same : q.num *ℤ pos 2 ≡ (pos m +ℤ (times *ℤ pos 8)) *ℤ q.den

-- q·π is m·π/4 and a whole number of times 2π, so 4·q is m + 8·k
pub record IsEighths (q : Ratio) (m : ℕ) : Type 0 where
  pub below : m < 8
  pub times : ℤ
  pub same : q.num *ℤ pos 4 ≡ (pos m +ℤ (times *ℤ pos 8)) *ℤ q.den
