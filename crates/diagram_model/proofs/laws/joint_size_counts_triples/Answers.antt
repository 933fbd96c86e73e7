use Rattle.diagram_model.proofs.Joint.{joint_size_counts}
use Rattle.diagram_model.proofs.laws.joint_size_counts_triples.Goals as goal

pub returns : goal.returns
returns c = joint_size_counts
