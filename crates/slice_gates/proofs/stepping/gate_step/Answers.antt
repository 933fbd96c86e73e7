use Rattle.std.proofs.Common.{rules, ◌≡◌, ℕ, List, length, ◌∙◌, ap, arith, refl}
use Rattle.circuit_model.specs.Working.{FitsWidth, raw}
use Rattle.diagram_model.specs.Stores.{Diagram}
use Rattle.slice_quad.specs.Stops.{OnWidth, QuadStopIs}
use Rattle.slice_gates.specs.declared.side.Side.TheVariants.{State}
use Rattle.slice_gates.specs.GateWork.{IsGateWork}
use Rattle.slice_gates.specs.Stepped.{IsStepOf}
use Rattle.slice_gates.proofs.Shown.{fits_shown, unfit_shown, step_at, one_half, shows_next, gate_grows, gate_stops}
use Rattle.slice_gates.proofs.stepping.gate_step.Goals as goal

pub step-requires-clause-on : goal.step-requires-clause-on
step-requires-clause-on c =
    let u = c.args.d.now in let q = c.args.q.now in let gate = c.args.gate.now in
    let s = c.step_of-s.result in
    let e : c.len-vars.result ≡ length u.store.order = c.len-vars.ensures.value ∙ ap (λ (l : List ℕ). length l) (c.order.ensures ∙ ap (λ (d : Diagram). d.order) c.store.ensures.value) in
    let is : IsStepOf (length u.store.order) State gate s = step_at c.len-vars.result (length u.store.order) gate s e c.step_of-s.ensures in
    let sound = c.store.ensures.sound.store in
    is.within

pub step-requires-clause-exponent : goal.step-requires-clause-exponent
step-requires-clause-exponent c =
    let u = c.args.d.now in let q = c.args.q.now in let gate = c.args.gate.now in
    let s = c.step_of-s.result in
    let e : c.len-vars.result ≡ length u.store.order = c.len-vars.ensures.value ∙ ap (λ (l : List ℕ). length l) (c.order.ensures ∙ ap (λ (d : Diagram). d.order) c.store.ensures.value) in
    let is : IsStepOf (length u.store.order) State gate s = step_at c.len-vars.result (length u.store.order) gate s e c.step_of-s.ensures in
    let sound = c.store.ensures.sound.store in
    let half = one_half (length u.store.order) gate s is in
    omega (arith, half)

pub returns-in_err-step-clause-width : goal.returns-in_err-step-clause-width
returns-in_err-step-clause-width c w shown =
    let u = c.args.d.now in let q = c.args.q.now in let gate = c.args.gate.now in
    let s = c.step_of-s.result in
    let e : c.len-vars.result ≡ length u.store.order = c.len-vars.ensures.value ∙ ap (λ (l : List ℕ). length l) (c.order.ensures ∙ ap (λ (d : Diagram). d.order) c.store.ensures.value) in
    let is : IsStepOf (length u.store.order) State gate s = step_at c.len-vars.result (length u.store.order) gate s e c.step_of-s.ensures in
    let sound = c.store.ensures.sound.store in
    let n = length u.store.order in
    let unfit : OnWidth (¬ FitsWidth n c.args.width (raw gate w).entries) c.in_err-step.field-0.0 = unfit_shown n c.args.width u.store q.four q.exponent w gate s sound refl shown is c.in_err-step.field-0.0 c.in_err-step.ensures.width in
    search rules

pub returns-in_err-step-clause-full : goal.returns-in_err-step-clause-full
returns-in_err-step-clause-full c w shown =
    let u = c.args.d.now in let q = c.args.q.now in let gate = c.args.gate.now in
    let s = c.step_of-s.result in
    let e : c.len-vars.result ≡ length u.store.order = c.len-vars.ensures.value ∙ ap (λ (l : List ℕ). length l) (c.order.ensures ∙ ap (λ (d : Diagram). d.order) c.store.ensures.value) in
    let is : IsStepOf (length u.store.order) State gate s = step_at c.len-vars.result (length u.store.order) gate s e c.step_of-s.ensures in
    let sound = c.store.ensures.sound.store in
    let stop : QuadStopIs c.step.new.d.store (IsGateWork u.store q gate w.entries) c.in_err-step.field-0.0 = gate_stops u.store c.step.new.d.store q w gate s sound shown is c.in_err-step.field-0.0 c.in_err-step.ensures.full in
    search rules

pub returns-in_err-step-clause-grows : goal.returns-in_err-step-clause-grows
returns-in_err-step-clause-grows c w shown =
    let u = c.args.d.now in let q = c.args.q.now in let gate = c.args.gate.now in
    let s = c.step_of-s.result in
    let e : c.len-vars.result ≡ length u.store.order = c.len-vars.ensures.value ∙ ap (λ (l : List ℕ). length l) (c.order.ensures ∙ ap (λ (d : Diagram). d.order) c.store.ensures.value) in
    let is : IsStepOf (length u.store.order) State gate s = step_at c.len-vars.result (length u.store.order) gate s e c.step_of-s.ensures in
    let sound = c.store.ensures.sound.store in
    gate_grows u c.step.new.d q w gate s sound shown is c.step.ensures.grows

pub returns-clause-shown : goal.returns-clause-shown
returns-clause-shown c w shown =
    let u = c.args.d.now in let q = c.args.q.now in let gate = c.args.gate.now in
    let s = c.step_of-s.result in
    let e : c.len-vars.result ≡ length u.store.order = c.len-vars.ensures.value ∙ ap (λ (l : List ℕ). length l) (c.order.ensures ∙ ap (λ (d : Diagram). d.order) c.store.ensures.value) in
    let is : IsStepOf (length u.store.order) State gate s = step_at c.len-vars.result (length u.store.order) gate s e c.step_of-s.ensures in
    let sound = c.store.ensures.sound.store in
    shows_next u.store c.step.new.d.store q c.step.new.q w gate s shown is c.step.ensures.grows.sound.store c.step.ensures.grows.extends.order c.in_ok-step.ensures.settled

pub returns-clause-fits : goal.returns-clause-fits
returns-clause-fits c w shown =
    let u = c.args.d.now in let q = c.args.q.now in let gate = c.args.gate.now in
    let s = c.step_of-s.result in
    let e : c.len-vars.result ≡ length u.store.order = c.len-vars.ensures.value ∙ ap (λ (l : List ℕ). length l) (c.order.ensures ∙ ap (λ (d : Diagram). d.order) c.store.ensures.value) in
    let is : IsStepOf (length u.store.order) State gate s = step_at c.len-vars.result (length u.store.order) gate s e c.step_of-s.ensures in
    let sound = c.store.ensures.sound.store in
    fits_shown (length u.store.order) c.args.width u.store q.four q.exponent w gate s shown is c.in_ok-step.ensures.fits

pub returns-clause-grows : goal.returns-clause-grows
returns-clause-grows c w shown =
    let u = c.args.d.now in let q = c.args.q.now in let gate = c.args.gate.now in
    let s = c.step_of-s.result in
    let e : c.len-vars.result ≡ length u.store.order = c.len-vars.ensures.value ∙ ap (λ (l : List ℕ). length l) (c.order.ensures ∙ ap (λ (d : Diagram). d.order) c.store.ensures.value) in
    let is : IsStepOf (length u.store.order) State gate s = step_at c.len-vars.result (length u.store.order) gate s e c.step_of-s.ensures in
    let sound = c.store.ensures.sound.store in
    gate_grows u c.step.new.d q w gate s sound shown is c.step.ensures.grows
