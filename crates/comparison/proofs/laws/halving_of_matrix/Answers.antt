use Rattle.circuit_model.proofs.WorkingLemmas.{IsHalved-halved}
use Rattle.comparison.specs.Products.{raw_matrix}
use Rattle.comparison.proofs.laws.halving_of_matrix.Goals as goal

pub returns : goal.returns
returns c = λ n w s. IsHalved-halved _ (raw_matrix n w s).entries (raw_matrix n w s).exponent
