use Rattle.outside.specs.Memory.{memory}
use Rattle.run_laws.proofs.TextLemmas.{comes_on_texts}
use Rattle.run_laws.proofs.laws.run_on_texts.Goals as goal

pub returns : goal.returns
returns c = λ words asked texts old new asks have end h. comes_on_texts memory words asked texts old new asks have.told have.short end h
