use Rattle.std.proofs.Common.{◌≡◌, sym, ◌∙◌, subst, IfOk, OnOk}
use Rattle.ring_omega.specs.declared.weight.Weight.{Weight}
use Rattle.probabilities.specs.Weighing.{IsNarrow}
use Rattle.state_update.proofs.Shown.{read_size, read_stands, read_weight}
use Rattle.state_update.proofs.weighing.SlicedStateWeigh.weigh.Goals as goal

pub weigh-requires-clause-stands : goal.weigh-requires-clause-stands
weigh-requires-clause-stands c =
    let e = c.parts.ensures in
    read_stands c.args.self.now c.parts.result.0.now c.parts.result.1.now e.diagrams e.quad e.variables e.shows e.stands

pub weigh-requires-clause-len : goal.weigh-requires-clause-len
weigh-requires-clause-len c =
    let e = c.parts.ensures in
    c.requires ∙ sym (read_size c.args.self.now c.parts.result.0.now c.parts.result.1.now e.diagrams e.quad e.variables e.shows)

pub returns-clause-weight : goal.returns-clause-weight
returns-clause-weight c =
    let e = c.parts.ensures in
    let p = c.args.p.now in
    let same = read_weight c.args.self.now c.parts.result.0.now c.parts.result.1.now e.diagrams e.quad e.variables e.shows p c.requires in
    subst (λ (u : Weight). IfOk c.weigh.result (λ w. w ≡ u)) same c.weigh.ensures.weight

pub returns-clause-narrow : goal.returns-clause-narrow
returns-clause-narrow c =
    let e = c.parts.ensures in
    let p = c.args.p.now in
    let same = read_weight c.args.self.now c.parts.result.0.now c.parts.result.1.now e.diagrams e.quad e.variables e.shows p c.requires in
    subst (λ (u : Weight). OnOk c.weigh.result (IsNarrow u)) same c.weigh.ensures.narrow

pub returns-clause-too_wide : goal.returns-clause-too_wide
returns-clause-too_wide c = λ stop narrow.
    let e = c.parts.ensures in
    let p = c.args.p.now in
    let same = read_weight c.args.self.now c.parts.result.0.now c.parts.result.1.now e.diagrams e.quad e.variables e.shows p c.requires in
    c.weigh.ensures.too_wide stop (subst IsNarrow (sym same) narrow)
