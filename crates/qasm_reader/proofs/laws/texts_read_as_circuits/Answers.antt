use Rattle.qasm_reader.proofs.Sound.{read_is_circuit, read_has_few_qubits}
use Rattle.qasm_reader.proofs.laws.texts_read_as_circuits.Goals as goal

pub returns-clause-sound : goal.returns-clause-sound
returns-clause-sound c = read_is_circuit

pub returns-clause-few : goal.returns-clause-few
returns-clause-few c = read_has_few_qubits
