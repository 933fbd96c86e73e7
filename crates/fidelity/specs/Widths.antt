-- Which matrices are too wide for their trace to be taken in 128 bits.
use Rattle.std.specs.Prelude.{◌≤◌, ◌<◌, ℕ, ◌+◌, Bool, List}
use Rattle.ring_omega.specs.declared.quad.Quad.{Quad}
use Rattle.circuit_model.specs.Working.{FitsWidth}

-- the qubits, and any width of at least 2 bits that the matrix on n qubits fits, are together more than 63
abbrev pub IsTooWide : ℕ → (List Bool → Quad) → Type 0
IsTooWide n v = (width : ℕ) → 2 ≤ width → FitsWidth (n + n) width v → 63 < n + width
