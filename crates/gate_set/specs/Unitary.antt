-- Unitary matrices: the matrix times its conjugate transpose is the identity.
use Rattle.std.specs.Prelude.{◌≡◌, ℕ, zero, suc, ◌+◌, ◌*◌, ◌^◌, ◌<◌, ◌==◌, cond}
use Rattle.ring_omega.specs.declared.quad.Quad.{Quad}
use Rattle.ring_omega.specs.Ring.{zero_quad, one_quad, sum_of, product_of, conjugate_of, times_power, root_of_two}
use Rattle.gate_set.specs.declared.kind.Kind.{Kind}
use Rattle.gate_set.specs.Matrix.{controlled_entry, times_entry, arity_of, half_power_of}

-- the entry with e further controls, as a number
abbrev pub entry_value : ℕ → Kind → ℕ → ℕ → Quad
entry_value e k row col = times_entry (controlled_entry e k row col) one_quad

abbrev pub sum_below : ℕ → (ℕ → Quad) → Quad
sum_below zero f = zero_quad
sum_below (suc n) f = sum_of (sum_below n f) (f n)

-- row r of the matrix times column s of its conjugate transpose
unfoldable pub row_product : ℕ → Kind → ℕ → ℕ → Quad
row_product e k r s = sum_below (2 ^ (e + arity_of k)) (λ y. product_of (entry_value e k r y) (conjugate_of (entry_value e k s y)))

-- the identity, times 2 for a factor 1/√2 that both matrices leave out
unfoldable pub identity_entry : Kind → ℕ → ℕ → Quad
identity_entry k r s = cond (r == s) (times_power root_of_two (2 * half_power_of k) one_quad) zero_quad

-- with e further controls
abbrev pub IsUnitary : ℕ → Kind → Type 0
IsUnitary e k = (r s : ℕ) → r < 2 ^ (e + arity_of k) → s < 2 ^ (e + arity_of k) → row_product e k r s ≡ identity_entry k r s

-- l has the conjugate transpose of k's matrix, with e further controls
pub record IsAdjoint (e : ℕ) (k l : Kind) : Type 0 where
  pub same_arity : arity_of l ≡ arity_of k
  pub same_half_power : half_power_of l ≡ half_power_of k
  pub transposed : (r s : ℕ) → r < 2 ^ (e + arity_of k) → s < 2 ^ (e + arity_of k) → entry_value e l r s ≡ conjugate_of (entry_value e k s r)
