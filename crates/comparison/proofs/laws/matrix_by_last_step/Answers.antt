use Rattle.std.proofs.Common.{refl}
use Rattle.comparison.specs.Products.{work_matrix}
use Rattle.comparison.proofs.Working.{work_matrix-last}
use Rattle.comparison.proofs.laws.matrix_by_last_step.Goals as goal

pub returns-clause-none : goal.returns-clause-none
unfolding work_matrix
returns-clause-none c = λ n. refl

pub returns-clause-last : goal.returns-clause-last
returns-clause-last c = work_matrix-last
