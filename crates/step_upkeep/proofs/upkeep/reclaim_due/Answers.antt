use Rattle.std.proofs.Common.{◌∙◌, sym}
use Rattle.std.proofs.lemmas.Bool.{false≢true}
use Rattle.step_upkeep.proofs.Keeping.{keeps_same}
use Rattle.step_upkeep.proofs.upkeep.reclaim_due.Goals as goal

pub returns-then-not-is_due-clause-keeps : goal.returns-then-not-is_due-clause-keeps
returns-then-not-is_due-clause-keeps c = keeps_same c.args.d.now c.args.q.now c.cached-cached.ensures.sound c.requires

pub returns-then-not-is_due-clause-holds : goal.returns-then-not-is_due-clause-holds
returns-then-not-is_due-clause-holds c due = absurd (false≢true (sym (sym c.is_due.ensures ∙ c.if-not-is_due.true) ∙ due))
