use Rattle.slice_vec.specs.Slices.{IsSame, IsFewest}
use Rattle.slice_quad.specs.declared.coord.Coord.TheVariants.{A, B, C, D}
use Rattle.slice_quad.specs.declared.four.Four.{Four}
use Rattle.slice_quad.specs.Settled.{AreSame}
use Rattle.slice_quad.proofs.Narrow.{some_left, each_of, values_same, four_fits}
use Rattle.slice_quad.proofs.Settling.{bits_of_four}
use Rattle.slice_quad.proofs.widths.trim_four.Goals as goal

pub trim-requires : goal.trim-requires
trim-requires c = record { some = c.requires.some A }

pub trim-requires-2 : goal.trim-requires-2
trim-requires-2 c = record { some = c.requires.some B }

pub trim-requires-3 : goal.trim-requires-3
trim-requires-3 c = record { some = c.requires.some C }

pub trim-requires-4 : goal.trim-requires-4
trim-requires-4 c = record { some = c.requires.some D }

pub returns-clause-some : goal.returns-clause-some
returns-clause-some c =
    let f = c.args.f.now in
    bits_of_four (record { a = c.trim.new.x; b = c.trim-2.new.x; c = c.trim-3.new.x; d = c.trim-4.new.x })
    (some_left f.a c.trim.new.x (c.requires.some A) c.trim.ensures.short c.trim.ensures.two)
    (some_left f.b c.trim-2.new.x (c.requires.some B) c.trim-2.ensures.short c.trim-2.ensures.two)
    (some_left f.c c.trim-3.new.x (c.requires.some C) c.trim-3.ensures.short c.trim-3.ensures.two)
    (some_left f.d c.trim-4.new.x (c.requires.some D) c.trim-4.ensures.short c.trim-4.ensures.two)

pub returns-clause-values : goal.returns-clause-values
returns-clause-values c = λ d v s h.
    let f = c.args.f.now in
    let g : Four = record { a = c.trim.new.x; b = c.trim-2.new.x; c = c.trim-3.new.x; d = c.trim-4.new.x } in
    let same : AreSame d f g = each_of (IsSame d) f g (c.trim.ensures.same d (h.stands A)) (c.trim-2.ensures.same d (h.stands B)) (c.trim-3.ensures.same d (h.stands C)) (c.trim-4.ensures.same d (h.stands D)) in
    values_same d v f g h same

pub returns-clause-fits : goal.returns-clause-fits
returns-clause-fits c = λ d v w s h two.
    let f = c.args.f.now in
    let g : Four = record { a = c.trim.new.x; b = c.trim-2.new.x; c = c.trim-3.new.x; d = c.trim-4.new.x } in
    let same : AreSame d f g = each_of (IsSame d) f g (c.trim.ensures.same d (h.stands A)) (c.trim-2.ensures.same d (h.stands B)) (c.trim-3.ensures.same d (h.stands C)) (c.trim-4.ensures.same d (h.stands D)) in
    four_fits d v g w s (values_same d v f g h same)
    (each_of (λ xs ys. IsFewest d ys) f g (c.trim.ensures.fewest d s (h.stands A)) (c.trim-2.ensures.fewest d s (h.stands B)) (c.trim-3.ensures.fewest d s (h.stands C)) (c.trim-4.ensures.fewest d s (h.stands D)))
    two
