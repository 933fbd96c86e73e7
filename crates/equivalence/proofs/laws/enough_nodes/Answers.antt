use Rattle.amp_dense.specs.declared.stop.Stop.TheVariants.{Nodes}
use Rattle.comparison.specs.Steps.{steps_of}
use Rattle.unitary_update.proofs.Chains.{only_width}
use Rattle.equivalence.proofs.StepsOn.{steps_on}
use Rattle.equivalence.proofs.laws.enough_nodes.Goals as goal

pub returns : goal.returns
returns c = λ rules n us vs on_us on_vs limit number order held stop. only_width rules n (steps_of us vs) (steps_on n us vs on_us on_vs) limit (Nodes number order held) stop
