use Rattle.std.proofs.Common.{sym, ◌∙◌, subst, IfOk}
use Rattle.diagram_ops.specs.Diagrams.{StoreAndCache}
use Rattle.slice_quad.specs.declared.quad.SliceQuad.{SliceQuad}
use Rattle.slice_weights.specs.OnTop.{IsOutcomeWalk}
use Rattle.state_update.proofs.Shown.{read_size, read_stands}
use Rattle.state_update.proofs.weighing.SlicedStateWeigh.outcomes.Goals as goal

pub begin-requires-clause-stands : goal.begin-requires-clause-stands
begin-requires-clause-stands c =
    let e = c.parts.ensures in
    read_stands c.args.self.now c.parts.result.0.now c.parts.result.1.now e.diagrams e.quad e.variables e.shows e.stands

pub begin-requires-clause-len : goal.begin-requires-clause-len
begin-requires-clause-len c =
    let e = c.parts.ensures in
    c.requires ∙ sym (read_size c.args.self.now c.parts.result.0.now c.parts.result.1.now e.diagrams e.quad e.variables e.shows)

pub returns-clause-weighs : goal.returns-clause-weighs
returns-clause-weighs c =
    let s = c.args.self.now in
    let m = c.args.measured.now in
    let r = c.begin.result in
    subst (λ (e : StoreAndCache). IfOk r (IsOutcomeWalk e.store s.quad.four m)) c.parts.ensures.diagrams
    (subst (λ (q : SliceQuad). IfOk r (IsOutcomeWalk c.parts.result.0.now.store q.four m)) c.parts.ensures.quad c.begin.ensures.walk)
