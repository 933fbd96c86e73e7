use Rattle.std.proofs.Common.{ap, sym, ◌∙◌, length, []}
use Rattle.bit_lists.proofs.Places.{listed}
use Rattle.bit_lists.proofs.bits.Bits.len.Goals as goal

pub returns-clause-value : goal.returns-clause-value
returns-clause-value c =
    let here = listed c.self.inside.count c.self.inside.place [] c.self.invariant.1 in
    sym here.0 ∙ ap length c.self.view_is
