use Rattle.qasm_reader.proofs.EveryReading.{every_reading}
use Rattle.qasm_reader.proofs.laws.every_text_reads.Goals as goal

pub returns : goal.returns
returns c text limit = every_reading limit text
