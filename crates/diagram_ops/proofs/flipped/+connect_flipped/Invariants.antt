use Rattle.diagram_ops.specs.Operands.{depths}
use Rattle.diagram_ops.proofs.flipped.+connect_flipped.Given as goal

abbrev pub decreases-connect_flipped : goal.decreases-connect_flipped
decreases-connect_flipped g l = depths l.store.now l.at
