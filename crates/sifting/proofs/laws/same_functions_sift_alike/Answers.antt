use Rattle.sifting.proofs.SameFunctions.{same_order}
use Rattle.sifting.proofs.laws.same_functions_sift_alike.Goals as goal

pub returns : goal.returns
returns c = same_order
