-- What is to be said of a comparison's matrix.
use Rattle.std.specs.Prelude.{◌≡◌, ℕ}
use Rattle.ring_omega.specs.Lowest.{lowest_form}
use Rattle.amp_printer.specs.declared.verdict.Verdict.{Verdict}
use Rattle.amp_printer.specs.declared.verdict.Verdict.TheVariants.{Scalar, Differs}
use Rattle.comparison.specs.Scalars.{Matrix, corner, IsScalar, IsFirstDiffering}

-- of the matrix on n qubits over the k-th power of √2: its corner where it is that times the identity, else the first position at which it
-- isn't, the entry there and the corner; all numbers in lowest form
abbrev pub IsVerdict : ℕ → Matrix → ℕ → Verdict → Type 0
IsVerdict n m k (Scalar q j) = IsScalar n m × ((q, j) ≡ lowest_form (corner n m) k)
IsVerdict n m k (Differs row col value own) =
    IsFirstDiffering n m row col × (value ≡ lowest_form (m row col) k) × (own ≡ lowest_form (corner n m) k)
