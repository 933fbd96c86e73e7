use Rattle.comparison.proofs.Verdicts.{scalar_told}
use Rattle.comparison.proofs.laws.scalar_told.Goals as goal

pub returns : goal.returns
returns c = scalar_told
