use Rattle.std.proofs.Common.{subst}
use Rattle.state_update.specs.Kept.{IsKept}
use Rattle.state_update.proofs.sliced.SlicedState.parts.Goals as goal

pub returns-clause-variables : goal.returns-clause-variables
returns-clause-variables c =
    let s = c.args.self.now in
    let kept : IsKept s = subst IsKept c.self.view_is c.self.invariant in
    kept.variables

pub returns-clause-limit : goal.returns-clause-limit
returns-clause-limit c =
    let s = c.args.self.now in
    let kept : IsKept s = subst IsKept c.self.view_is c.self.invariant in
    kept.limit

pub returns-clause-capacity : goal.returns-clause-capacity
returns-clause-capacity c =
    let s = c.args.self.now in
    let kept : IsKept s = subst IsKept c.self.view_is c.self.invariant in
    kept.capacity
