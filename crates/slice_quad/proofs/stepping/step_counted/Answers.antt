use Rattle.std.proofs.Common.{rules, ◌≡◌, refl}
use Rattle.std.specs.Prelude.{Err}
use Rattle.node_store.specs.declared.node.StoreStop.{StoreStop}
use Rattle.slice_quad.specs.Stops.{stop_of}
use Rattle.slice_quad.proofs.StepCalls.{whole_of, work_grows, work_stops}
use Rattle.slice_quad.proofs.stepping.step_counted.Goals as goal

pub returns-in_err-raw-clause-full : goal.returns-in_err-raw-clause-full
returns-in_err-raw-clause-full g c =
    let u = c.args.d.now in let q = c.args.q.now in let s = c.args.s.now in
    let h = whole_of u.store q c.requires.stands q.width_b q.width_c q.width_d in
    let w = c.raw_step.new.d in
    let k = work_grows u w s q h c.raw_step.ensures.grows in
    let stop : StoreStop = c.in_err-raw.field-0.0 in
    let e : c.from_residual.result ≡ Err (stop_of stop) = search rules in
    rw e (work_stops u w.store s q h stop (stop_of stop) refl c.in_err-raw.ensures.stop)

pub returns-in_err-raw-clause-grows : goal.returns-in_err-raw-clause-grows
returns-in_err-raw-clause-grows g c =
    let u = c.args.d.now in let q = c.args.q.now in let s = c.args.s.now in
    let h = whole_of u.store q c.requires.stands q.width_b q.width_c q.width_d in
    let w = c.raw_step.new.d in
    let k = work_grows u w s q h c.raw_step.ensures.grows in
    k

pub returns-in_err-next-clause-grows : goal.returns-in_err-next-clause-grows
returns-in_err-next-clause-grows g c =
    let u = c.args.d.now in let q = c.args.q.now in let s = c.args.s.now in
    let h = whole_of u.store q c.requires.stands q.width_b q.width_c q.width_d in
    let w = c.raw_step.new.d in
    let k = work_grows u w s q h c.raw_step.ensures.grows in
    k

pub returns-clause-grows : goal.returns-clause-grows
returns-clause-grows g c =
    let u = c.args.d.now in let q = c.args.q.now in let s = c.args.s.now in
    let h = whole_of u.store q c.requires.stands q.width_b q.width_c q.width_d in
    let w = c.raw_step.new.d in
    let k = work_grows u w s q h c.raw_step.ensures.grows in
    k
