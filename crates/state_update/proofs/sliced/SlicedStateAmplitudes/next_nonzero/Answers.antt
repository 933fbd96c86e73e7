use Rattle.std.proofs.Common.{ap, sym, ◌∙◌, length, subst}
use Rattle.std.specs.Option.{option_copied}
use Rattle.circuit_model.specs.Working.{work}
use Rattle.amp_dense.specs.Nonzero as amplitudes
use Rattle.slice_quad.specs.Nonzero.{IsNextNonzero, NoneAfter}
use Rattle.slice_quad.specs.Walks.{entries_in}
use Rattle.state_update.specs.Kept.{State}
use Rattle.state_update.proofs.StateLemmas.{state_with, next_is, none_is, ok_some, ok_none}
use Rattle.state_update.proofs.sliced.SlicedStateAmplitudes.next_nonzero.Goals as goal

pub next_nonzero-requires-clause-len : goal.next_nonzero-requires-clause-len
next_nonzero-requires-clause-len c = λ x e.
    let s = c.self.inside in
    c.requires x e ∙ ap (λ (t : State). length t.input) (sym c.self.view_is) ∙ sym c.self.invariant.variables

pub returns-clause-found : goal.returns-clause-found
returns-clause-found c =
    let s = c.self.inside in
    let shown : State = state_with s.input s.rules s.gates.items s.diagrams s.quad in
    let given = option_copied c.args.after in
    let n = length s.diagrams.store.order in
    ok_some c.next_nonzero.result (IsNextNonzero n (entries_in s.diagrams.store s.quad.four) given) _ c.next_nonzero.ensures.found
    (λ x is. subst (λ (t : State). amplitudes.IsNextNonzero (length t.input) (work t.gates t.input).entries given x) c.self.view_is
    (next_is shown n given x c.self.invariant c.self.invariant.variables is))

pub returns-clause-none : goal.returns-clause-none
returns-clause-none c =
    let s = c.self.inside in
    let shown : State = state_with s.input s.rules s.gates.items s.diagrams s.quad in
    let given = option_copied c.args.after in
    let n = length s.diagrams.store.order in
    ok_none c.next_nonzero.result (NoneAfter n (entries_in s.diagrams.store s.quad.four) given) _ c.next_nonzero.ensures.none
    (λ none. subst (λ (t : State). amplitudes.NoneAfter (length t.input) (work t.gates t.input).entries given) c.self.view_is
    (none_is shown n given c.self.invariant c.self.invariant.variables none))
