use Rattle.std.proofs.Common.{◌∙◌}
use Rattle.sliq.proofs.run_to_status.Goals as goal

pub returns : goal.returns
returns g c = (c.run-ended.result.cause, c.run-ended.ensures.runs, c.from.ensures ∙ c.run-ended.ensures.status, c.run-ended.ensures.err)
