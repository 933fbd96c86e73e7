use Rattle.std.proofs.Common.{sym, ◌∙◌}
use Rattle.std.proofs.lemmas.Bool.{false≢true}
use Rattle.slice_quad.specs.declared.coord.Coord.TheVariants.{A, B, C, D}
use Rattle.snapshot.proofs.FourLemmas.{four_even_all}
use Rattle.snapshot.proofs.least.four_even.Goals as goal

pub all_even-requires : goal.all_even-requires
all_even-requires c = record { some = c.requires.some A }

pub returns-then-not-all_even-clause-other : goal.returns-then-not-all_even-clause-other
returns-then-not-all_even-clause-other c = λ wrong d sound stands all. false≢true (sym c.if-not-all_even.true ∙ (c.all_even.ensures d sound (stands A)).1 (all A))

pub all_even-requires-2 : goal.all_even-requires-2
all_even-requires-2 c = record { some = c.requires.some B }

pub returns-then-not-all_even-2-clause-other : goal.returns-then-not-all_even-2-clause-other
returns-then-not-all_even-2-clause-other c = λ wrong d sound stands all. false≢true (sym c.if-not-all_even-2.true ∙ (c.all_even-2.ensures d sound (stands B)).1 (all B))

pub all_even-requires-3 : goal.all_even-requires-3
all_even-requires-3 c = record { some = c.requires.some C }

pub returns-then-not-all_even-3-clause-other : goal.returns-then-not-all_even-3-clause-other
returns-then-not-all_even-3-clause-other c = λ wrong d sound stands all. false≢true (sym c.if-not-all_even-3.true ∙ (c.all_even-3.ensures d sound (stands C)).1 (all C))

pub all_even-requires-4 : goal.all_even-requires-4
all_even-requires-4 c = record { some = c.requires.some D }

pub returns-then-not-all_even-4-clause-other : goal.returns-then-not-all_even-4-clause-other
returns-then-not-all_even-4-clause-other c = λ wrong d sound stands all. false≢true (sym c.if-not-all_even-4.true ∙ (c.all_even-4.ensures d sound (stands D)).1 (all D))

pub returns-clause-yes : goal.returns-clause-yes
returns-clause-yes c = λ right d sound stands. four_even_all d c.args.f.now
    ((c.all_even.ensures d sound (stands A)).0 c.if-not-all_even.false) ((c.all_even-2.ensures d sound (stands B)).0 c.if-not-all_even-2.false) ((c.all_even-3.ensures d sound (stands C)).0 c.if-not-all_even-3.false) ((c.all_even-4.ensures d sound (stands D)).0 c.if-not-all_even-4.false)
