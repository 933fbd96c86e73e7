use Rattle.std.proofs.Common.{ap, sym, ◌∙◌, length}
use Rattle.bit_lists.proofs.Partials.{length-kept}
use Rattle.bit_lists.proofs.partial.Partial.len.Goals as goal

pub returns-clause-value : goal.returns-clause-value
returns-clause-value c = c.len.ensures.value ∙ sym (length-kept c.self.inside.fixed c.self.inside.values c.self.invariant).1 ∙ ap length c.self.view_is
