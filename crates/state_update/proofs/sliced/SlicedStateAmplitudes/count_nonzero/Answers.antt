use Rattle.std.proofs.Common.{◌≡◌, ap, ◌∙◌, length, arith}
use Rattle.circuit_model.specs.Working.{work}
use Rattle.amp_dense.specs.Nonzero.{number_nonzero}
use Rattle.slice_quad.specs.Walks.{entries_in}
use Rattle.state_update.specs.Kept.{State}
use Rattle.state_update.proofs.StateLemmas.{state_with, number_is, ok_as}
use Rattle.state_update.proofs.sliced.SlicedStateAmplitudes.count_nonzero.Goals as goal

pub count_nonzero-requires-clause-few : goal.count_nonzero-requires-clause-few
count_nonzero-requires-clause-few c =
    let s = c.self.inside in
    omega (arith, c.self.invariant.variables, c.self.invariant.few_qubits)

pub returns : goal.returns
returns c =
    let s = c.self.inside in
    let shown : State = state_with s.input s.rules s.gates.items s.diagrams s.quad in
    let n = length s.diagrams.store.order in
    ok_as c.count_nonzero.result (λ m. m ≡ number_nonzero n (entries_in s.diagrams.store s.quad.four)) _ c.count_nonzero.ensures
    (λ m is. is ∙ number_is shown n c.self.invariant c.self.invariant.variables ∙ ap (λ (t : State). number_nonzero (length t.input) (work t.gates t.input).entries) c.self.view_is)
