use Rattle.std.proofs.Common.{◌∙◌, sym}
use Rattle.qasm_gates.proofs.Naming.{known_angles}
use Rattle.qasm_gates.proofs.gates.Gates.judge.Goals as goal

pub judge-requires-clause-counted : goal.judge-requires-clause-counted
judge-requires-clause-counted c = c.requires.counted ∙ sym (known_angles c.args.self.now c.requires.gates c.args.callee c.requires.known)
