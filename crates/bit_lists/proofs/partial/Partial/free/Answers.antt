use Rattle.bit_lists.proofs.Partials.{kept-free}
use Rattle.bit_lists.proofs.partial.Partial.free.Goals as goal

pub invariant_of-result : goal.invariant_of-result
invariant_of-result c = rw (c.zeros.ensures, c.zeros-2.ensures) (kept-free c.args.len).0

pub returns : goal.returns
returns c = rw (c.zeros.ensures, c.zeros-2.ensures) (kept-free c.args.len).1
