use Rattle.std.proofs.Common.{sym}
use Rattle.diagram_model.specs.Stores.{KeepsFunctions}
use Rattle.diagram_model.proofs.Growing.{functions_kept}
use Rattle.diagram_ops.proofs.Right.{grown_right}
use Rattle.diagram_ops.proofs.diagrams.Diagrams.cofactors.Goals as goal

pub invariant_of-self : goal.invariant_of-self
invariant_of-self g c =
    grown_right c.self.inside.store c.restrict_all.new.store c.self.inside.cache.entries c.held-held.ensures.sound c.restrict_all.ensures.sound c.restrict_all.ensures.extends c.self.invariant

pub returns-clause-functions : goal.returns-clause-functions
returns-clause-functions g c =
    let h : KeepsFunctions c.self.inside.store c.restrict_all.new.store = functions_kept c.self.inside.store c.restrict_all.new.store c.held-held.ensures.sound c.restrict_all.ensures.sound c.restrict_all.ensures.extends in
    rw (sym c.self.view_is) h

pub returns-clause-sound : goal.returns-clause-sound
returns-clause-sound g c = record { store = c.restrict_all.ensures.sound; entries = invariant_of-self g c }
