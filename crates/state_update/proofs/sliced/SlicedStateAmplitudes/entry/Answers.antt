use Rattle.std.proofs.Common.{◌≡◌, ap, sym, ◌∙◌, length}
use Rattle.circuit_model.specs.Working.{work}
use Rattle.state_update.specs.Kept.{State}
use Rattle.state_update.proofs.StateLemmas.{state_with, entry_is}
use Rattle.state_update.proofs.sliced.SlicedStateAmplitudes.entry.Goals as goal

pub entry-requires-clause-len : goal.entry-requires-clause-len
entry-requires-clause-len c =
    let s = c.self.inside in
    c.requires ∙ ap (λ (t : State). length t.input) (sym c.self.view_is) ∙ sym c.self.invariant.variables

pub returns : goal.returns
returns c =
    let s = c.self.inside in
    let shown : State = state_with s.input s.rules s.gates.items s.diagrams s.quad in
    let x = c.args.x.now in
    let len : length x ≡ length s.input = c.requires ∙ ap (λ (t : State). length t.input) (sym c.self.view_is) in
    c.entry.ensures ∙ entry_is shown x c.self.invariant len ∙ ap (λ (t : State). (work t.gates t.input).entries x) c.self.view_is
