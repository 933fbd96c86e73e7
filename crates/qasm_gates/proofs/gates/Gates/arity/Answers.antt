use Rattle.std.proofs.Common.{◌∙◌}
use Rattle.qasm_gates.proofs.Naming.{known_arity}
use Rattle.qasm_gates.proofs.gates.Gates.arity.Goals as goal

pub returns : goal.returns
returns c = c.arity.ensures ∙ known_arity c.args.self.now c.requires.gates c.args.callee c.requires.known
