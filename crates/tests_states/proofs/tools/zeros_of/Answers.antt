use Rattle.std.proofs.Common.{◌∙◌, ap, length, false}
use Rattle.std.proofs.lemmas.List.{length-replicate}
use Rattle.tests_states.proofs.tools.zeros_of.Goals as goal

pub returns : goal.returns
returns c = ap length c.zeros.ensures ∙ length-replicate c.args.len false
