use Rattle.std.proofs.lemmas.Bool.{leb-true, le-leb}
use Rattle.slice_vec.proofs.Trims.{within_short, short_within}
use Rattle.slice_vec.proofs.shape.fits.Goals as goal

pub returns : goal.returns
returns c = λ d s h. (
  (λ is. within_short c.args.x.now c.trimmed_width.result c.requires.some c.trimmed_width.ensures d c.args.width (leb-true c.trimmed_width.result c.args.width is)),
  (λ all. le-leb c.trimmed_width.result c.args.width (short_within c.args.x.now c.trimmed_width.result c.requires.some c.trimmed_width.ensures d c.args.width s h c.requires.two all)),
)
