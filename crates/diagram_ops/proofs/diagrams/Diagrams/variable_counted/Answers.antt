use Rattle.std.proofs.Common.{rules, IfOk, sym}
use Rattle.diagram_model.specs.Stores.{AddsOnly}
use Rattle.diagram_ops.proofs.Choosing.{variable_denotes}
use Rattle.diagram_ops.proofs.Right.{grown_right}
use Rattle.diagram_ops.proofs.diagrams.Diagrams.variable_counted.Goals as goal

pub invariant_of-self : goal.invariant_of-self
invariant_of-self g c =
    grown_right c.self.inside.store c.make.new.self c.self.inside.cache.entries c.held-held.ensures.sound c.make.ensures.sound c.make.ensures.extends c.self.invariant

pub returns : goal.returns
returns g c =
    let only : IfOk c.make.result (λ n. AddsOnly c.self.inside.store c.make.new.self n.0) = c.make.ensures.only in
    record {
      live = search rules;
      denotes = variable_denotes c.make.new.self c.args.var c.make.result c.make.ensures.sound c.make.ensures.denotes;
      only = rw (sym c.self.view_is) only;
      refused = search rules;
      made = search rules;
      stop = search rules;
      room = search rules;
      extends = search rules;
      functions = search rules;
      cache = search rules;
      sound = record { store = c.make.ensures.sound; entries = invariant_of-self g c };
    }
