use Rattle.std.proofs.Common.{rules, ◌≡◌, ◌∙◌, sym, ap, None, Some}
use Rattle.qasm_forms.specs.Private.Fronts.{then_angle}
use Rattle.qasm_forms.specs.Private.Parsing.{left_angles}
use Rattle.qasm_forms.proofs.Listed.{some_angle_there, taken_by}
use Rattle.qasm_forms.proofs.angles.Angles.next.Goals as goal

-- there is an angle where they aren't done
none : (c : goal.After-from_residual) → ⊥
none c =
    let e : c.angle.result ≡ None = search rules in
    some_angle_there c.self.inside.rest (c.self.invariant c.if-self.false) (sym c.angle.ensures ∙ ap (λ r. then_angle r c.angle.new.self) e)

pub invariant_of-self : goal.invariant_of-self
invariant_of-self c h = absurd (none c)

pub returns-in_err-angle : goal.returns-in_err-angle
returns-in_err-angle c = absurd (none c)

pub invariant_of-self-2 : goal.invariant_of-self-2
invariant_of-self-2 c h =
    let e : c.angle.result ≡ Some (c.in_ok-angle.angle, c.in_ok-angle.last) = search rules in
    (taken_by c.angle.result c.in_ok-angle.angle c.in_ok-angle.last c.angle.new.self c.self.inside.rest e c.angle.ensures (c.self.invariant c.if-self.false)).more h

pub returns : goal.returns
returns c =
    let e : c.angle.result ≡ Some (c.in_ok-angle.angle, c.in_ok-angle.last) = search rules in
    sym c.self.view_is ∙ ap (λ b. left_angles b c.self.inside.rest) c.if-self.false
    ∙ (taken_by c.angle.result c.in_ok-angle.angle c.in_ok-angle.last c.angle.new.self c.self.inside.rest e c.angle.ensures (c.self.invariant c.if-self.false)).all
