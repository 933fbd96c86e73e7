use Rattle.std.proofs.Common.{◌∙◌, sym, refl}
use Rattle.qasm_gates.proofs.Naming.{on_ok, known_arity, known_angles, names_kept}
use Rattle.qasm_gates.proofs.gates.Gates.add_call.Goals as goal

pub add_line-requires-clause-arguments : goal.add_line-requires-clause-arguments
add_line-requires-clause-arguments c = c.requires.arguments ∙ sym (known_arity c.args.self.now c.requires.gates c.args.callee c.requires.known)

pub add_line-requires-clause-angles : goal.add_line-requires-clause-angles
add_line-requires-clause-angles c = c.requires.angles ∙ sym (known_angles c.args.self.now c.requires.gates c.args.callee c.requires.known)

pub returns : goal.returns
returns c = on_ok c.add_line.result (λ b. names_kept c.args.self.now c.requires.gates c.add_line.new.self _ b refl) c.add_line.ensures
