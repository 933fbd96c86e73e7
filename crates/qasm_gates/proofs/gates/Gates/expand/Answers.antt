use Rattle.std.proofs.Common.{◌∙◌, sym, subst}
use Rattle.qasm_gates.specs.Private.Proper.{AreQubits}
use Rattle.qasm_gates.proofs.Naming.{known_arity, known_angles}
use Rattle.qasm_gates.proofs.gates.Gates.expand.Goals as goal

pub expand-requires-clause-counted : goal.expand-requires-clause-counted
expand-requires-clause-counted c = c.requires.counted ∙ sym (known_angles c.args.self.now c.requires.gates c.args.callee c.requires.known)

pub expand-requires-clause-qubits : goal.expand-requires-clause-qubits
expand-requires-clause-qubits c = subst (λ n. AreQubits n c.args.on.now) (sym (known_arity c.args.self.now c.requires.gates c.args.callee c.requires.known)) c.requires.qubits
