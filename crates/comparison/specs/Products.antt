-- A gate's matrix times a matrix from the left and from the right, and the working matrix: numbers over one power of √2, with the factors
-- of 2 that all of them share taken out.
use Rattle.std.specs.Prelude.{ℕ, ◌+◌, ◌++◌, Bool, List, length, fold, take, drop}
use Rattle.ring_omega.specs.declared.quad.Quad.{Quad}
use Rattle.ring_omega.specs.Ring.{one_quad}
use Rattle.gate_set.specs.declared.gate.Gate.{Gate}
use Rattle.gate_set.specs.Matrix.{half_power_of}
use Rattle.gate_set.specs.Shape.{qubits_of, gate_entry}
use Rattle.circuit_model.specs.Prefixes.{AtEach, IsFirstFailing}
use Rattle.circuit_model.specs.Product.{entries_product, applied}
use Rattle.circuit_model.specs.Working.{Scaled, scaled, halved, FitsWidth}
use Rattle.comparison.specs.Scalars.{Matrix, scalar_entry}

-- G·M: each column is a vector that the gate is applied to
abbrev pub left_product : Gate → Matrix → Matrix
left_product g m r c = applied g (λ s. m s c) r

-- M·G: each row is a vector that the transposed matrix is applied to
unfoldable pub right_product : Gate → Matrix → Matrix
right_product g m r c = entries_product (λ row col. gate_entry g col row) (qubits_of g) (m r) c

-- a step: multiplication by a gate's matrix from the left or from the right
pub data Step : Type 0 where
  left : Gate → Step
  right : Gate → Step

-- the gate of a step
abbrev pub gate_of : Step → Gate
gate_of (left g) = g
gate_of (right g) = g

-- the product of a step
abbrev pub times_step : Step → Matrix → Matrix
times_step (left g) m = left_product g m
times_step (right g) m = right_product g m

-- a matrix on n qubits is kept as a vector on 2n: the row's bits, and then the column's. Their order is that of the positions
abbrev pub joined : ℕ → Matrix → List Bool → Quad
joined n m x = m (take n x) (drop n x)

-- and read again by row and column
abbrev pub by_position : (List Bool → Quad) → Matrix
by_position v r c = v (r ++ c)

-- the matrix after a step, the exponent raised by the gate's factors 1/√2
abbrev pub raw_matrix : ℕ → Scaled → Step → Scaled
raw_matrix n w s = scaled (joined n (times_step s (by_position w.entries))) (w.exponent + half_power_of (gate_of s).kind)

-- and halved, as a working vector is, over all entries
abbrev pub step_matrix : ℕ → Scaled → Step → Scaled
step_matrix n w s = halved (n + n) (raw_matrix n w s).entries (raw_matrix n w s).exponent

-- the working matrix on n qubits after these steps, from the identity
unfoldable pub work_matrix : ℕ → List Step → Scaled
work_matrix n steps = fold (step_matrix n) (scaled (joined n (scalar_entry one_quad)) 0) steps

-- the matrix after these steps and one more, before any halving, fits the width
abbrev pub RawStepFits : ℕ → ℕ → List Step → Step → Type 0
RawStepFits width n steps s = FitsWidth (n + n) width (raw_matrix n (work_matrix n steps) s).entries

-- it does at each step of the list
abbrev pub AllStepsFit : ℕ → ℕ → List Step → Type 0
AllStepsFit width n steps = AtEach (RawStepFits width n) steps

-- the step of this number, counted from 1, is the first at which it doesn't
abbrev pub IsFirstUnfitStep : ℕ → ℕ → List Step → ℕ → Type 0
IsFirstUnfitStep width n steps number = IsFirstFailing (RawStepFits width n) steps number
