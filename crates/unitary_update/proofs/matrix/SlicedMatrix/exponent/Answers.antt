use Rattle.std.proofs.Common.{ap, sym, ◌∙◌}
use Rattle.comparison.specs.Products.{work_matrix}
use Rattle.unitary_update.specs.Kept.{State}
use Rattle.unitary_update.proofs.matrix.SlicedMatrix.exponent.Goals as goal

pub returns : goal.returns
returns c = c.exponent.ensures ∙ sym c.self.invariant.shows.exponent ∙ ap (λ (m : State). (work_matrix m.qubits m.steps).exponent) c.self.view_is
