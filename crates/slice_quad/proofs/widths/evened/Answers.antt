use Rattle.slice_vec.specs.Slices.{IsSame}
use Rattle.slice_quad.specs.declared.coord.Coord.TheVariants.{A, B, C, D}
use Rattle.slice_quad.proofs.Narrow.{each_of}
use Rattle.slice_quad.proofs.widths.evened.Goals as goal

pub widened-requires-clause-some : goal.widened-requires-clause-some
widened-requires-clause-some c = c.requires.some A

pub widened-requires-2-clause-some : goal.widened-requires-2-clause-some
widened-requires-2-clause-some c = c.requires.some B

pub widened-requires-3-clause-some : goal.widened-requires-3-clause-some
widened-requires-3-clause-some c = c.requires.some C

pub widened-requires-4-clause-some : goal.widened-requires-4-clause-some
widened-requires-4-clause-some c = c.requires.some D

pub returns-clause-same : goal.returns-clause-same
returns-clause-same c = λ d h.
    each_of (IsSame d) c.args.f (record { a = c.in_ok-a.a; b = c.in_ok-b.b; c = c.in_ok-c.c; d = c.in_ok-d.d })
    (c.in_ok-a.ensures.same d (h A)) (c.in_ok-b.ensures.same d (h B)) (c.in_ok-c.ensures.same d (h C)) (c.in_ok-d.ensures.same d (h D))
