use Rattle.qasm_forms.proofs.Exact.{statements_same}
use Rattle.qasm_forms.proofs.laws.statements_are_unambiguous.Goals as goal

pub returns : goal.returns
returns c leaves s t f g e = statements_same leaves s t f g e
