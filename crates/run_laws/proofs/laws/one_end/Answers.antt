use Rattle.run_laws.proofs.CommandLaws.{laws_of}
use Rattle.run_laws.proofs.laws.one_end.Goals as goal

pub returns : goal.returns
returns c asked texts = (laws_of asked.task asked.rules texts).one
