use Rattle.std.proofs.Common.{arith}
use Rattle.slice_quad.specs.declared.coord.Coord.TheVariants.{A, B, C, D}
use Rattle.slice_quad.proofs.Settling.{doubles_of}
use Rattle.slice_quad.proofs.settle.halve_four.Goals as goal

pub half_of-requires : goal.half_of-requires
half_of-requires c = record { some = c.requires.some A }

pub half_of-requires-2 : goal.half_of-requires-2
half_of-requires-2 c = record { some = c.requires.some B }

pub half_of-requires-3 : goal.half_of-requires-3
half_of-requires-3 c = record { some = c.requires.some C }

pub half_of-requires-4 : goal.half_of-requires-4
half_of-requires-4 c = record { some = c.requires.some D }

pub returns-clause-half : goal.returns-clause-half
returns-clause-half c = λ d h even.
    doubles_of d c.args.f.now (record { a = c.half_of.new.x; b = c.half_of-2.new.x; c = c.half_of-3.new.x; d = c.half_of-4.new.x })
    (c.half_of.ensures.stands d (h A)) (c.half_of-2.ensures.stands d (h B)) (c.half_of-3.ensures.stands d (h C)) (c.half_of-4.ensures.stands d (h D))
    (c.half_of.ensures.half d (h A) (even A)) (c.half_of-2.ensures.half d (h B) (even B)) (c.half_of-3.ensures.half d (h C) (even C)) (c.half_of-4.ensures.half d (h D) (even D))

pub returns-clause-narrower : goal.returns-clause-narrower
returns-clause-narrower c =
    let a = c.half_of.ensures.shorter in let b = c.half_of-2.ensures.shorter in let e = c.half_of-3.ensures.shorter in let h = c.half_of-4.ensures.shorter in
    omega (arith, a, b, e, h)
