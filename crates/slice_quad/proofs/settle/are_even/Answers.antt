use Rattle.slice_vec.specs.Slices.{AreEven}
use Rattle.slice_quad.specs.declared.coord.Coord.{Coord}
use Rattle.slice_quad.specs.declared.coord.Coord.TheVariants.{A, B, C, D}
use Rattle.slice_quad.specs.Fours.{nodes_of}
use Rattle.slice_quad.proofs.Settling.{four_even, one_fails}
use Rattle.slice_quad.proofs.settle.are_even.Goals as goal

pub all_even-requires : goal.all_even-requires
all_even-requires c = record { some = c.requires.some A }

pub all_even-requires-then-all_even : goal.all_even-requires-then-all_even
all_even-requires-then-all_even c = record { some = c.requires.some B }

pub all_even-requires-then-all_even-2 : goal.all_even-requires-then-all_even-2
all_even-requires-then-all_even-2 c = record { some = c.requires.some C }

pub all_even-requires-then-all_even-3 : goal.all_even-requires-then-all_even-3
all_even-requires-then-all_even-3 c = record { some = c.requires.some D }

pub returns-then-all_even-3 : goal.returns-then-all_even-3
returns-then-all_even-3 c = λ d s h. (
  (λ is. four_even d c.args.f.now ((c.all_even.ensures d s (h A)).0 c.if-all_even.true) ((c.all_even-then-all_even.ensures d s (h B)).0 c.if-all_even-2.true) ((c.all_even-then-all_even-2.ensures d s (h C)).0 c.if-all_even-3.true) ((c.all_even-then-all_even-3.ensures d s (h D)).0 is)),
  (λ all. (c.all_even-then-all_even-3.ensures d s (h D)).1 (all D)),
)

pub returns-else-all_even-3 : goal.returns-else-all_even-3
returns-else-all_even-3 c = λ d s h. one_fails (AreEven d c.args.f.now.c) ((z : Coord) → AreEven d (nodes_of c.args.f.now z)) c.all_even-then-all_even-2.result c.if-all_even-3.false (λ all. all C) (c.all_even-then-all_even-2.ensures d s (h C))

pub returns-else-all_even-2 : goal.returns-else-all_even-2
returns-else-all_even-2 c = λ d s h. one_fails (AreEven d c.args.f.now.b) ((z : Coord) → AreEven d (nodes_of c.args.f.now z)) c.all_even-then-all_even.result c.if-all_even-2.false (λ all. all B) (c.all_even-then-all_even.ensures d s (h B))

pub returns-else-all_even : goal.returns-else-all_even
returns-else-all_even c = λ d s h. one_fails (AreEven d c.args.f.now.a) ((z : Coord) → AreEven d (nodes_of c.args.f.now z)) c.all_even.result c.if-all_even.false (λ all. all A) (c.all_even.ensures d s (h A))
