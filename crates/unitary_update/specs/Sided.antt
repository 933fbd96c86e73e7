-- Words that only the clauses of private functions cite: which step on variables a step of the matrix is.
use Rattle.std.specs.Prelude.{ℕ, ◌*◌}
use Rattle.comparison.specs.Products.{Step}
use Rattle.comparison.specs.Products.Step.{left, right}
use Rattle.slice_quad.specs.declared.kind.Step.{Step as SlicedStep}
use Rattle.slice_gates.specs.declared.side.Side.TheVariants.{Rows, Columns}
use Rattle.slice_gates.specs.Stepped.{IsStepOf}

-- on the variables of n qubits' rows and columns, s is the step t
abbrev pub IsSided : ℕ → Step → SlicedStep → Type 0
IsSided n (left g) s = IsStepOf (2 * n) Rows g s
IsSided n (right g) s = IsStepOf (2 * n) Columns g s
