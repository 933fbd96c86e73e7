use Rattle.std.proofs.Common.{[], ◌∷◌, sym, inl, ap, arith}
use Rattle.diagram_model.specs.Functions.{fix}
use Rattle.diagram_model.specs.Stores.{function_of}
use Rattle.diagram_ops.specs.Bounds.{size_in}
use Rattle.diagram_ops.specs.Operands.{alone}
use Rattle.diagram_ops.specs.Diagrams.{StoreAndCache}
use Rattle.diagram_ops.specs.Operations.{restricted, fixed_in}
use Rattle.diagram_ops.specs.Taken.{plain}
use Rattle.diagram_ops.proofs.Bounds.{takes_one}
use Rattle.diagram_ops.proofs.Ending.{IsEnded, ended}
use Rattle.diagram_ops.proofs.Marks.{none_right}
use Rattle.diagram_ops.proofs.Right.{grown_right}
use Rattle.diagram_ops.proofs.diagrams.Diagrams.cofactor.Goals.{After-restrict}
use Rattle.diagram_ops.proofs.diagrams.Diagrams.cofactor.Given.{Over}
use Rattle.diagram_ops.proofs.diagrams.Diagrams.cofactor.Goals as goal

end : (g : Over) (c : After-restrict g) → IsEnded (fix c.args.var c.args.bit (function_of c.args.self.now.store c.args.f.0)) (size_in c.args.self.now.store (function_of c.args.self.now.store c.args.f.0 ∷ [])) c.args.self.now.store c.restrict.new.store c.args.steps.now c.restrict.new.steps c.restrict.result
unfolding restricted
end g c =
    let d = c.self.inside.store in let e = c.restrict.new.store in let f = c.args.f.0 in
    let m0 = fixed_in c.begin.new.self in let s = c.args.steps.now in let t = c.restrict.new.steps in
    rw (sym c.self.view_is) (ended (restricted c.args.var c.args.bit) plain (alone f) d e m0 (fixed_in c.restrict.new.memo) s t (size_in d (function_of d f ∷ [])) c.restrict.result c.held-held.ensures.sound
    (rw (← c.self.view_is) at c.requires.f, inl (omega arith), inl (omega arith)) (λ sound extends taken. takes_one d f e m0 s t c.held-held.ensures.sound sound extends taken)
    c.restrict.ensures.answers c.restrict.ensures.stops)

pub restrict-requires-clause-results : goal.restrict-requires-clause-results
restrict-requires-clause-results g c = none_right (restricted c.args.var c.args.bit) c.self.inside.store c.begin.new.self c.begin.ensures

pub invariant_of-self : goal.invariant_of-self
invariant_of-self g c =
    let h = end g (goal.at.invariant_of-self g c).After-restrict in
    grown_right c.self.inside.store c.restrict.new.store c.self.inside.cache.entries c.held-held.ensures.sound h.sound (rw (← c.self.view_is) at h.extends) c.self.invariant

pub returns : goal.returns
returns g c =
    let h = end g (goal.at.returns g c).After-restrict in
    record {
      live = h.live;
      denotes = h.denotes;
      made = h.made;
      stop = h.stop;
      extends = h.extends;
      functions = h.functions;
      steps = h.steps;
      cache = ap (λ (v : StoreAndCache). v.cache) c.self.view_is;
      sound = record { store = h.sound; entries = invariant_of-self g c };
    }
