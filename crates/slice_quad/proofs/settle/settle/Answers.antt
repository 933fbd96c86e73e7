use Rattle.std.proofs.Common.{refl, ◌-◌, arith}
use Rattle.slice_quad.proofs.Settling.{halfway_none, halfway_more}
use Rattle.slice_quad.proofs.settle.settle.Goals as goal

pub loop-f-init : goal.loop-f-init
loop-f-init c = record { some = c.requires.some; narrower = omega arith; halfway = λ d v s h. halfway_none d v c.args.roots c.args.f.now h }

pub loop-f-preserved : goal.loop-f-preserved
loop-f-preserved c = record {
  some = c.halve_four.ensures.some;
  narrower = omega (arith, c.loop-f.invariant.narrower, c.halve_four.ensures.narrower);
  halfway = λ d v s h.
      let k = c.loop-f.invariant.halfway d v s h in
      halfway_more d v c.args.roots c.loop-f.f c.halve_four.new.f c.loop-f.left (c.loop-f.left - 2) k
      (c.halve_four.ensures.half d k.stands (c.goes_on.ensures.even d s k.stands c.loop-f-test.true))
      (c.goes_on.ensures.roots c.loop-f-test.true) refl;
}
