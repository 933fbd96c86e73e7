use Rattle.std.proofs.Common.{◌≤◌, length, refl, arith}
use Rattle.slice_quad.proofs.Units.{none_true, unit_settled, unit_fits}
use Rattle.slice_quad.proofs.stepping.is_idle.Goals as goal

pub returns-clause-settled : goal.returns-clause-settled
returns-clause-settled c = λ idle d s h.
    unit_settled d c.args.q.now c.args.s.now (c.if-not-is_unit.ensures.unit refl) (c.if-not-is_unit.ensures.half refl) h.integers
    (λ two all. none_true c.goes_on.result idle (c.goes_on.ensures.ended d s h.integers two all))

pub returns-clause-fits : goal.returns-clause-fits
returns-clause-fits c = λ idle d h.
    let q = c.args.q.now in
    let narrow : length q.four.a ≤ c.args.width = omega arith in
    unit_fits d q c.args.s.now (c.if-not-is_unit.ensures.unit refl) c.args.width narrow q.width_b q.width_c q.width_d
