use Rattle.std.proofs.Common.{refl}
use Rattle.qasm_gates.proofs.Naming.{on_ok, names_kept}
use Rattle.qasm_gates.proofs.gates.Gates.add_angle.Goals as goal

pub returns : goal.returns
returns c = on_ok c.add_angle.result (λ f tree x. names_kept c.args.self.now c.requires.gates c.add_angle.new.self _ (f tree x) refl) c.add_angle.ensures
