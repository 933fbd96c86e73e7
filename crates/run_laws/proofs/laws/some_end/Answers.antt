use Rattle.sliq_words.proofs.Sound.{asked_sound}
use Rattle.run_laws.proofs.CommandLaws.{laws_of}
use Rattle.run_laws.proofs.laws.some_end.Goals as goal

pub returns : goal.returns
returns c words asked asks texts = (laws_of asked.task asked.rules texts).some (asked_sound words asked asks).rules.least_width
