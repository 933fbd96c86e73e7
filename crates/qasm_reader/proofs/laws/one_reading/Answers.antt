use Rattle.qasm_reader.proofs.OneReading.{one_reading}
use Rattle.qasm_reader.proofs.laws.one_reading.Goals as goal

pub returns : goal.returns
returns c text limit a b p q = one_reading text limit a b p q
