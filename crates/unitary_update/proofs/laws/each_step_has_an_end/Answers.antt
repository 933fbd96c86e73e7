use Rattle.amp_dense.specs.declared.stop.Stop.{Stop}
use Rattle.unitary_update.proofs.Chains.{some_applies}
use Rattle.unitary_update.proofs.StepEnds.{fits_begun, fits_next}
use Rattle.unitary_update.proofs.laws.each_step_has_an_end.Goals as goal

pub returns-clause-begun : goal.returns-clause-begun
returns-clause-begun c = fits_begun

pub returns-clause-ends : goal.returns-clause-ends
returns-clause-ends c = λ s t wide is on fits. some_applies (λ (stop : Stop). Unit {0}) (λ stop. tt) s t (record { wide = wide; is_order = is; fits = fits }) on

pub returns-clause-fits : goal.returns-clause-fits
returns-clause-fits c = fits_next
