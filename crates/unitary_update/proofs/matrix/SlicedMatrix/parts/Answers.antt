use Rattle.std.proofs.Common.{subst}
use Rattle.unitary_update.specs.Kept.{IsKept}
use Rattle.unitary_update.proofs.matrix.SlicedMatrix.parts.Goals as goal

pub returns-clause-variables : goal.returns-clause-variables
returns-clause-variables c = (subst IsKept c.self.view_is c.self.invariant).variables

pub returns-clause-limit : goal.returns-clause-limit
returns-clause-limit c = (subst IsKept c.self.view_is c.self.invariant).limit

pub returns-clause-capacity : goal.returns-clause-capacity
returns-clause-capacity c = (subst IsKept c.self.view_is c.self.invariant).capacity
