use Rattle.diagram_ops.specs.Operands.{depths}
use Rattle.diagram_ops.proofs.connect.+connect.Given as goal

abbrev pub decreases-connect : goal.decreases-connect
decreases-connect g l = depths l.store.now l.at
