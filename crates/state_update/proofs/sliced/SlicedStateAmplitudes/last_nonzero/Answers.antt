use Rattle.std.proofs.Common.{length, None, subst}
use Rattle.circuit_model.specs.Working.{work}
use Rattle.amp_dense.specs.Nonzero as amplitudes
use Rattle.slice_quad.specs.Nonzero.{NoneAfter}
use Rattle.slice_quad.specs.Walks.{entries_in}
use Rattle.state_update.specs.Kept.{State}
use Rattle.state_update.proofs.StateLemmas.{state_with, last_is, none_is, ok_some, ok_none}
use Rattle.state_update.proofs.sliced.SlicedStateAmplitudes.last_nonzero.Goals as goal

pub returns-clause-found : goal.returns-clause-found
returns-clause-found c =
    let s = c.self.inside in
    let shown : State = state_with s.input s.rules s.gates.items s.diagrams s.quad in
    let n = length s.diagrams.store.order in
    ok_some c.last_nonzero.result (amplitudes.IsLastNonzero n (entries_in s.diagrams.store s.quad.four)) _ c.last_nonzero.ensures.found
    (λ x is. subst (λ (t : State). amplitudes.IsLastNonzero (length t.input) (work t.gates t.input).entries x) c.self.view_is
    (last_is shown n x c.self.invariant c.self.invariant.variables is))

pub returns-clause-none : goal.returns-clause-none
returns-clause-none c =
    let s = c.self.inside in
    let shown : State = state_with s.input s.rules s.gates.items s.diagrams s.quad in
    let n = length s.diagrams.store.order in
    ok_none c.last_nonzero.result (NoneAfter n (entries_in s.diagrams.store s.quad.four) None) _ c.last_nonzero.ensures.none
    (λ none. subst (λ (t : State). amplitudes.NoneAfter (length t.input) (work t.gates t.input).entries None) c.self.view_is
    (none_is shown n None c.self.invariant c.self.invariant.variables none))
