use Rattle.std.proofs.Common.{rules, ◌≡◌, ◌+◌, ℕ, List, Err, sym, ◌∙◌, ap, subst}
use Rattle.amp_dense.specs.declared.stop.Stop.TheVariants.{OutOfMemory}
use Rattle.diagram_model.specs.Stores.{Diagram}
use Rattle.slice_quad.specs.Stepping.{IsStepOn}
use Rattle.step_upkeep.specs.Accepted.{IsAccepted, stop_of}
use Rattle.step_upkeep.proofs.Trying.{Answer, answered, accept_stopped, accept_tried}
use Rattle.step_upkeep.proofs.stepping.accept.Goals as goal

pub returns-in_err-keep_up : goal.returns-in_err-keep_up
returns-in_err-keep_up c =
    let e : c.from_residual.result ≡ Err OutOfMemory = search rules in
    rw e (accept_stopped c.args.rules.now c.args.accepted c.schedule_of-schedule.result c.schedule_of-schedule.ensures c.args.d.now c.keep_up.new.d c.args.s.now c.args.q.now c.keep_up.ensures.keeps c.keep_up.ensures.order)

pub tried-requires-clause-on : goal.tried-requires-clause-on
tried-requires-clause-on c = subst (λ (n : ℕ). IsStepOn n c.args.s.now) (sym c.keep_up.ensures.keeps.variables) c.requires.on

pub returns-in-Ok : goal.returns-in-Ok
returns-in-Ok c =
    let w = c.tried.new.d in
    let all = accept_tried c.args.rules.now c.args.accepted c.schedule_of-schedule.result c.schedule_of-schedule.ensures c.args.d.now c.keep_up.new.d c.args.s.now c.args.q.now c.keep_up.ensures.keeps c.keep_up.ensures.order
    w c.tried.new.q c.requires.stands c.in_ok-keep_up.ensures.in_force c.in_ok-keep_up.ensures.holds c.width-width.result c.tried.result c.width-width.ensures.value c.tried.ensures in
    subst (λ (o : Answer). IsAccepted c.args.rules.now c.args.accepted c.args.d.now w c.args.s.now c.args.q.now c.tried.new.q (answered o (c.args.accepted + 1) w.store.order)) c.in-Ok.is all

pub returns-in-Err : goal.returns-in-Err
returns-in-Err c =
    let w = c.tried.new.d in
    let all = accept_tried c.args.rules.now c.args.accepted c.schedule_of-schedule.result c.schedule_of-schedule.ensures c.args.d.now c.keep_up.new.d c.args.s.now c.args.q.now c.keep_up.ensures.keeps c.keep_up.ensures.order
    w c.tried.new.q c.requires.stands c.in_ok-keep_up.ensures.in_force c.in_ok-keep_up.ensures.holds c.width-width.result c.tried.result c.width-width.ensures.value c.tried.ensures in
    let order : c.order.result ≡ w.store.order = c.order.ensures ∙ ap (λ (d : Diagram). d.order) c.store.ensures.value in
    let told = c.told.ensures ∙ ap (λ (l : List ℕ). stop_of c.in-Err.stop (c.args.accepted + 1) l) order in
    rw told (subst (λ (o : Answer). IsAccepted c.args.rules.now c.args.accepted c.args.d.now w c.args.s.now c.args.q.now c.tried.new.q (answered o (c.args.accepted + 1) w.store.order)) c.in-Err.is all)
