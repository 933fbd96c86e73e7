use Rattle.run_laws.proofs.FewNodes.{bell_pair}
use Rattle.run_laws.proofs.laws.few_nodes.Goals as goal

pub returns : goal.returns
returns c = bell_pair
