use Rattle.std.proofs.Common.{◌≤◌, arith}
use Rattle.slice_quad.specs.declared.coord.Coord.TheVariants.{A, B, C, D}
use Rattle.slice_quad.specs.Settled.{widest}
use Rattle.slice_quad.proofs.StepCalls.{settled_same}
use Rattle.slice_quad.proofs.stepping.settled.Goals as goal

pub returns-then-widest_of-from-clause-width : goal.returns-then-widest_of-from-clause-width
returns-then-widest_of-from-clause-width c = λ d v s h fits.
    let le : widest c.trim_four.new.f ≤ c.args.width = (c.trim_four.ensures.fits d v c.args.width s h c.requires.least).0 fits in
    absurd (omega (arith, le))

pub invariant_of-result : goal.invariant_of-result
invariant_of-result c =
    let a = c.in_ok-even.ensures.width A in let b = c.in_ok-even.ensures.width B in let e = c.in_ok-even.ensures.width C in let f = c.in_ok-even.ensures.width D in
    let narrower = c.settle-exponent.ensures.narrower in
    record { least = omega (arith, a); greatest = omega (arith, a, narrower); width_b = omega (arith, a, b); width_c = omega (arith, a, e); width_d = omega (arith, a, f) }

pub returns-clause-settled : goal.returns-clause-settled
returns-clause-settled c = λ d v s h.
    let k = c.settle-exponent.ensures.settled d v s (c.trim_four.ensures.values d v s h) in
    settled_same d v c.args.exponent c.settle-exponent.new.f c.in_ok-even.even c.settle-exponent.result k (c.in_ok-even.ensures.same d k.halfway.stands)

pub returns-clause-fits : goal.returns-clause-fits
returns-clause-fits c = λ d v s h.
    let le : widest c.trim_four.new.f ≤ c.args.width = omega arith in
    (c.trim_four.ensures.fits d v c.args.width s h c.requires.least).1 le

pub returns-clause-narrow : goal.returns-clause-narrow
returns-clause-narrow c =
    let a = c.in_ok-even.ensures.width A in let narrower = c.settle-exponent.ensures.narrower in
    omega (arith, a, narrower)
