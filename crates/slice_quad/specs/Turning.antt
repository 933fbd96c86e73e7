-- A diagonal matrix of 1 and a power of ω.
use Rattle.std.specs.Prelude.{◌≡◌, ℕ, ◌≤◌, false}
use Rattle.gate_set.specs.declared.entry.Entry.TheVariants.{Zero, Omega}
use Rattle.slice_quad.specs.declared.gate.Target.{Target}

-- the matrix is 1 and the j-th power of ω on the diagonal, and j is not 0
pub record IsTurning (t : Target) (j : ℕ) : Type 0 where
  pub some : 1 ≤ j
  pub rooted : t.rooted ≡ false
  pub low_low : t.low_low ≡ Omega 0
  pub low_high : t.low_high ≡ Zero
  pub high_low : t.high_low ≡ Zero
  pub high_high : t.high_high ≡ Omega j
