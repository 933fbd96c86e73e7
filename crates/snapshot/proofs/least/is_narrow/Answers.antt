use Rattle.std.proofs.Common.{◌-◌, length, sym, subst}
use Rattle.slice_quad.specs.Vectors.{FitsWidth, vector_in}
use Rattle.snapshot.proofs.FourLemmas.{narrow_from}
use Rattle.snapshot.proofs.least.is_narrow.Goals as goal

pub returns-clause-yes : goal.returns-clause-yes
returns-clause-yes c = λ right d sound stands w two fits.
    narrow_from (vector_in d c.args.q.now.four) (length c.args.q.now.four.a) w (λ short. c.four_fit.ensures.other c.if-four_fit.false d sound stands.integers (subst (λ k. FitsWidth (k - 1) (vector_in d c.args.q.now.four)) (sym c.width-width.ensures) short)) fits
