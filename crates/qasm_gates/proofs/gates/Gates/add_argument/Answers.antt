use Rattle.std.proofs.Common.{refl}
use Rattle.qasm_gates.proofs.Naming.{on_ok, names_kept}
use Rattle.qasm_gates.proofs.gates.Gates.add_argument.Goals as goal

pub returns : goal.returns
returns c = on_ok c.add_argument.result (λ b. names_kept c.args.self.now c.requires c.add_argument.new.self _ b refl) c.add_argument.ensures
