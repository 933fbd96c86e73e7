-- What a stop of a comparison says.
use Rattle.std.specs.Prelude.{ℕ, List}
use Rattle.comparison.specs.Products.{Step, IsFirstUnfitStep}
use Rattle.dense_matrix.specs.declared.comparing.MatrixStop.{MatrixStop}
use Rattle.dense_matrix.specs.declared.comparing.MatrixStop.TheVariants.{Width, OutOfMemory}

-- the step that is named is the first after which the matrix, before any halving, doesn't fit the width
abbrev pub StopMeans : ℕ → ℕ → List Step → MatrixStop → Type 0
StopMeans width qubits steps (Width step) = IsFirstUnfitStep width qubits steps step
StopMeans width qubits steps OutOfMemory = Unit {0}
