use Rattle.slice_quad.specs.Fields.{numbers}
use Rattle.slice_quad.proofs.Narrow.{IsWidened}
use Rattle.slice_quad.proofs.widths.widened.Given as goal

abbrev pub invariant-loop-place : goal.invariant-loop-place
invariant-loop-place l = IsWidened l.fn.x (numbers l.bits.items) l.sign.0 l._place
