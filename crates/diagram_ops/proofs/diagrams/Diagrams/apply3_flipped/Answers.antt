use Rattle.std.proofs.Common.{◌<◌, length, sym, ap}
use Rattle.diagram_model.specs.Stores.{function_of}
use Rattle.diagram_ops.specs.Bounds.{joint_size_in}
use Rattle.diagram_ops.specs.Flips.{flip, flipping, flipping_of}
use Rattle.diagram_ops.specs.Diagrams.{StoreAndCache}
use Rattle.diagram_ops.specs.Operations.{kept_in}
use Rattle.diagram_ops.proofs.Bounds.{takes_joint_size}
use Rattle.diagram_ops.proofs.Ending.{IsEnded, ended}
use Rattle.diagram_ops.proofs.Readings.{flip_tells}
use Rattle.diagram_ops.proofs.Right.{grown_right}
use Rattle.diagram_ops.proofs.Splits.{three}
use Rattle.diagram_ops.proofs.diagrams.Diagrams.apply3_flipped.Goals.{After-connect_flipped}
use Rattle.diagram_ops.proofs.diagrams.Diagrams.apply3_flipped.Given.{Over}
use Rattle.diagram_ops.proofs.diagrams.Diagrams.apply3_flipped.Goals as goal

end : (g : Over) (c : After-connect_flipped g) → IsEnded (flipping_of g.row.T c.args.var c.args.self.now.store c.args.f.0 c.args.g.0 c.args.h.0)
    (joint_size_in c.args.self.now.store (function_of c.args.self.now.store c.args.f.0) (flip c.args.var (function_of c.args.self.now.store c.args.g.0)) (function_of c.args.self.now.store c.args.h.0))
    c.args.self.now.store c.connect_flipped.new.store c.args.steps.now c.connect_flipped.new.steps c.connect_flipped.result
unfolding flipping
end g c =
    let d = c.self.inside.store in let e = c.connect_flipped.new.store in let v = c.args.var in
    let at = three c.args.f.0 c.args.g.0 c.args.h.0 in
    let m0 = kept_in c.begin.new.self in let s = c.args.steps.now in let t = c.connect_flipped.new.steps in
    let within : v < length d.order = rw (← c.self.view_is) at c.requires.var in
    rw (sym c.self.view_is) (ended (flipping g.row.T v) (flip v) at d e m0 (kept_in c.connect_flipped.new.memo) s t (joint_size_in d (function_of d at.f) (flip v (function_of d at.g)) (function_of d at.h)) c.connect_flipped.result c.held-held.ensures.sound
    (rw (← c.self.view_is) at c.requires.f, rw (← c.self.view_is) at c.requires.g, rw (← c.self.view_is) at c.requires.h)
    (λ sound extends taken. takes_joint_size (flip v) d at e m0 s t sound extends (flip_tells e v sound (rw extends.order within)) taken)
    c.connect_flipped.ensures.answers c.connect_flipped.ensures.stops)

pub invariant_of-self : goal.invariant_of-self
invariant_of-self g c =
    let h = end g (goal.at.invariant_of-self g c).After-connect_flipped in
    grown_right c.self.inside.store c.connect_flipped.new.store c.self.inside.cache.entries c.held-held.ensures.sound h.sound (rw (← c.self.view_is) at h.extends) c.self.invariant

pub returns : goal.returns
returns g c =
    let h = end g (goal.at.returns g c).After-connect_flipped in
    record {
      live = h.live;
      denotes = h.denotes;
      made = h.made;
      stop = h.stop;
      extends = h.extends;
      functions = h.functions;
      steps = h.steps;
      cache = ap (λ (v : StoreAndCache). v.cache) c.self.view_is;
      sound = record { store = h.sound; entries = invariant_of-self g c };
    }
