use Rattle.std.proofs.Common.{◌∙◌}
use Rattle.qasm_gates.proofs.Naming.{known_angles}
use Rattle.qasm_gates.proofs.gates.Gates.angle_count.Goals as goal

pub returns : goal.returns
returns c = c.angle_count.ensures ∙ known_angles c.args.self.now c.requires.gates c.args.callee c.requires.known
