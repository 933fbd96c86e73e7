-- The two sides from which a matrix is multiplied.
use Rattle.std.specs.Prelude.{ℕ}
use Rattle.gate_set.specs.declared.gate.Gate.{Gate}
use Rattle.comparison.specs.Products.{Step}
use Rattle.comparison.specs.Products.Step.{left, right}
use Rattle.comparison.specs.declared.turns.Side.{Side}
use Rattle.comparison.specs.declared.turns.Side.TheVariants.{Left, Right}

-- the step with a gate on this side
abbrev pub step_of : Side → Gate → Step
step_of Left g = left g
step_of Right g = right g

-- how many left steps a step on this side is, and how many right ones
abbrev pub lefts : Side → ℕ
lefts Left = 1
lefts Right = 0

abbrev pub rights : Side → ℕ
rights Left = 0
rights Right = 1
