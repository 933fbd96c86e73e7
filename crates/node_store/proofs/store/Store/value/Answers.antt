use Rattle.std.proofs.Common.{false, arith, sym, ◌∙◌, refl}
use Rattle.diagram_model.specs.Functions.{bit}
use Rattle.diagram_model.proofs.Values.{steps_down, at_end}
use Rattle.node_store.proofs.store.Store.value.Goals as goal

pub get-requires : goal.get-requires
get-requires c =
    let sound = c.parts.ensures.sound in
    let h = steps_down c.args.self.now c.loop-parts.at c.in-Some.parts false sound (sym c.in-Some.is ∙ c.parts.ensures.value) in
    omega (arith, h.below, c.requires.len)

pub loop-parts-smaller : goal.loop-parts-smaller
loop-parts-smaller c =
    let sound = c.parts.ensures.sound in
    let h = steps_down c.args.self.now c.loop-parts.at c.in-Some.parts (bit c.args.x.now c.in-Some.parts.var) sound (sym c.in-Some.is ∙ c.parts.ensures.value) in
    rw (c.child-at.ensures, c.get.ensures) h.less

pub loop-parts-preserved : goal.loop-parts-preserved
loop-parts-preserved c =
    let sound = c.parts.ensures.sound in
    let h = steps_down c.args.self.now c.loop-parts.at c.in-Some.parts (bit c.args.x.now c.in-Some.parts.var) sound (sym c.in-Some.is ∙ c.parts.ensures.value) in
    record {
      live = rw (c.child-at.ensures, c.get.ensures) h.live;
      same = rw (c.child-at.ensures, c.get.ensures) (sym (h.same (bit c.args.x.now) refl) ∙ c.loop-parts.invariant.same);
    }

pub returns : goal.returns
returns c =
    let sound = c.parts.ensures.sound in
    sym (at_end c.args.self.now c.loop-parts.at (bit c.args.x.now) sound c.loop-parts.invariant.live (sym c.parts.ensures.value ∙ c.in_default.is)) ∙ c.loop-parts.invariant.same
