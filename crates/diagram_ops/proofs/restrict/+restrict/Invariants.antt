use Rattle.diagram_ops.specs.Operands.{alone, depths}
use Rattle.diagram_ops.proofs.restrict.+restrict.Given as goal

abbrev pub decreases-restrict : goal.decreases-restrict
decreases-restrict g l = depths l.store.now (alone l.f)
