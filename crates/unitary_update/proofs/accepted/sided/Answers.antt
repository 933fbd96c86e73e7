use Rattle.unitary_update.proofs.MatrixLemmas.{rows_below, columns_below, sided_left, sided_right}
use Rattle.unitary_update.proofs.accepted.sided.Goals as goal

pub step_of-requires-clause-below : goal.step_of-requires-clause-below
step_of-requires-clause-below c = rows_below c.args.qubits c.args.factor.now _ c.in-Left.is c.requires.on

pub step_of-requires-in-Right-clause-below : goal.step_of-requires-in-Right-clause-below
step_of-requires-in-Right-clause-below c = columns_below c.args.qubits c.args.factor.now _ c.in-Right.is c.requires.on

pub returns-in-Left : goal.returns-in-Left
returns-in-Left c = sided_left c.args.qubits c.args.factor.now _ c.step_of.result c.in-Left.is c.step_of.ensures

pub returns-in-Right : goal.returns-in-Right
returns-in-Right c = sided_right c.args.qubits c.args.factor.now _ c.step_of-in-Right.result c.in-Right.is c.step_of-in-Right.ensures
