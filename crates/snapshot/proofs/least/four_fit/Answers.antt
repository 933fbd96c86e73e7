use Rattle.std.proofs.Common.{sym, ◌∙◌}
use Rattle.std.proofs.lemmas.Bool.{false≢true}
use Rattle.slice_quad.specs.declared.coord.Coord.TheVariants.{A, B, C, D}
use Rattle.snapshot.proofs.FourLemmas.{four_fits_all}
use Rattle.snapshot.proofs.least.four_fit.Goals as goal

pub fits-requires-clause-some : goal.fits-requires-clause-some
fits-requires-clause-some c = c.requires.some A

pub returns-then-not-fits-clause-other : goal.returns-then-not-fits-clause-other
returns-then-not-fits-clause-other c = λ wrong d sound stands all. false≢true (sym c.if-not-fits.true ∙ (c.fits.ensures d sound (stands A)).1 (all A))

pub fits-requires-2-clause-some : goal.fits-requires-2-clause-some
fits-requires-2-clause-some c = c.requires.some B

pub returns-then-not-fits-2-clause-other : goal.returns-then-not-fits-2-clause-other
returns-then-not-fits-2-clause-other c = λ wrong d sound stands all. false≢true (sym c.if-not-fits-2.true ∙ (c.fits-2.ensures d sound (stands B)).1 (all B))

pub fits-requires-3-clause-some : goal.fits-requires-3-clause-some
fits-requires-3-clause-some c = c.requires.some C

pub returns-then-not-fits-3-clause-other : goal.returns-then-not-fits-3-clause-other
returns-then-not-fits-3-clause-other c = λ wrong d sound stands all. false≢true (sym c.if-not-fits-3.true ∙ (c.fits-3.ensures d sound (stands C)).1 (all C))

pub fits-requires-4-clause-some : goal.fits-requires-4-clause-some
fits-requires-4-clause-some c = c.requires.some D

pub returns-then-not-fits-4-clause-other : goal.returns-then-not-fits-4-clause-other
returns-then-not-fits-4-clause-other c = λ wrong d sound stands all. false≢true (sym c.if-not-fits-4.true ∙ (c.fits-4.ensures d sound (stands D)).1 (all D))

pub returns-clause-yes : goal.returns-clause-yes
returns-clause-yes c = λ right d sound stands. four_fits_all d c.args.f.now c.args.width
    ((c.fits.ensures d sound (stands A)).0 c.if-not-fits.false) ((c.fits-2.ensures d sound (stands B)).0 c.if-not-fits-2.false) ((c.fits-3.ensures d sound (stands C)).0 c.if-not-fits-3.false) ((c.fits-4.ensures d sound (stands D)).0 c.if-not-fits-4.false)
