use Rattle.std.proofs.Common.{sym, subst}
use Rattle.gate_set.specs.declared.gate.Gate.{Gate}
use Rattle.gate_set.specs.Shape.{IsOn}
use Rattle.comparison.specs.Products.Step.{left}
use Rattle.unitary_update.specs.Kept.{Steps}
use Rattle.unitary_update.proofs.matrix.SlicedMatrix.left.Goals as goal

pub multiply-requires-clause-within : goal.multiply-requires-clause-within
multiply-requires-clause-within c = subst (λ (g : Gate). IsOn c.args.self.now.qubits g) (sym c.copied.ensures.value) c.requires.within

pub returns : goal.returns
returns c = subst (λ (g : Gate). Steps c.args.self.now (left g) c.multiply.result c.multiply.new.self) c.copied.ensures.value c.multiply.ensures
