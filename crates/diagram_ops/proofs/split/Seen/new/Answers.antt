use Rattle.std.proofs.Common.{sym, ◌∙◌}
use Rattle.diagram_ops.proofs.Variables.{var_within}
use Rattle.diagram_ops.proofs.split.Seen.new.Goals as goal

pub place_of-requires : goal.place_of-requires
place_of-requires c = var_within c.args.store.now c.args.n c.in-Some.parts c.requires.sound (sym c.parts_of.ensures.parts ∙ c.in-Some.is)
