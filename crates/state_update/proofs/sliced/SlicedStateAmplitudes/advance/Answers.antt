use Rattle.std.proofs.Common.{◌≡◌, ap, ◌∙◌, length, subst}
use Rattle.circuit_model.specs.Working.{work}
use Rattle.amp_dense.specs.Nonzero as amplitudes
use Rattle.slice_quad.specs.Nonzero.{IsNextNonzero, NoneAfter}
use Rattle.slice_quad.specs.Walks.{entries_in}
use Rattle.state_update.specs.Kept.{State}
use Rattle.state_update.proofs.StateLemmas.{state_with, entry_is, next_is, none_is, ok_some, ok_both, ok_none}
use Rattle.state_update.proofs.sliced.SlicedStateAmplitudes.advance.Goals as goal

pub returns-clause-found : goal.returns-clause-found
returns-clause-found c =
    let s = c.self.inside in
    let shown : State = state_with s.input s.rules s.gates.items s.diagrams s.quad in
    let given = c.args.walk.now.last in
    let n = length s.diagrams.store.order in
    ok_some c.advance.result (λ e. IsNextNonzero n (entries_in s.diagrams.store s.quad.four) given e.0) _ c.advance.ensures.found
    (λ e is. subst (λ (t : State). amplitudes.IsNextNonzero (length t.input) (work t.gates t.input).entries given e.0) c.self.view_is
    (next_is shown n given e.0 c.self.invariant c.self.invariant.variables is))

pub returns-clause-entry : goal.returns-clause-entry
returns-clause-entry c =
    let s = c.self.inside in
    let shown : State = state_with s.input s.rules s.gates.items s.diagrams s.quad in
    let given = c.args.walk.now.last in
    let n = length s.diagrams.store.order in
    ok_both c.advance.result (λ e. IsNextNonzero n (entries_in s.diagrams.store s.quad.four) given e.0) (λ e. e.1 ≡ entries_in s.diagrams.store s.quad.four e.0) _ c.advance.ensures.found c.advance.ensures.entry
    (λ e next is. is ∙ entry_is shown e.0 c.self.invariant (next.long ∙ c.self.invariant.variables) ∙ ap (λ (t : State). (work t.gates t.input).entries e.0) c.self.view_is)

pub returns-clause-none : goal.returns-clause-none
returns-clause-none c =
    let s = c.self.inside in
    let shown : State = state_with s.input s.rules s.gates.items s.diagrams s.quad in
    let given = c.args.walk.now.last in
    let n = length s.diagrams.store.order in
    ok_none c.advance.result (NoneAfter n (entries_in s.diagrams.store s.quad.four) given) _ c.advance.ensures.none
    (λ none. subst (λ (t : State). amplitudes.NoneAfter (length t.input) (work t.gates t.input).entries given) c.self.view_is
    (none_is shown n given c.self.invariant c.self.invariant.variables none))
