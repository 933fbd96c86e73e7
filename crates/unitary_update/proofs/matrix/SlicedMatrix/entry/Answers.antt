use Rattle.std.proofs.Common.{◌++◌, ap, sym, ◌∙◌, map, arith}
use Rattle.comparison.specs.Products.{work_matrix}
use Rattle.unitary_update.specs.Kept.{State, step_in}
use Rattle.unitary_update.proofs.MatrixLemmas.{state_with, entry_is, woven_long}
use Rattle.unitary_update.proofs.matrix.SlicedMatrix.entry.Goals as goal

pub entry-requires-clause-len : goal.entry-requires-clause-len
entry-requires-clause-len c =
    let s = c.self.inside in
    let shown : State = state_with s.qubits s.rules (map step_in s.steps.items) s.diagrams s.quad in
    let qubits = ap (λ (m : State). m.qubits) (sym c.self.view_is) in
    woven_long shown c.args.row.now c.args.column.now c.interleaved-at.result c.self.invariant (c.requires.row ∙ qubits) (c.requires.column ∙ qubits) c.interleaved-at.ensures

pub returns : goal.returns
returns c =
    let s = c.self.inside in
    let shown : State = state_with s.qubits s.rules (map step_in s.steps.items) s.diagrams s.quad in
    let qubits = ap (λ (m : State). m.qubits) (sym c.self.view_is) in
    let r = c.args.row.now in let k = c.args.column.now in
    c.entry.ensures ∙ entry_is shown r k c.interleaved-at.result c.self.invariant (c.requires.row ∙ qubits) (c.requires.column ∙ qubits) c.interleaved-at.ensures
    ∙ ap (λ (m : State). (work_matrix m.qubits m.steps).entries (r ++ k)) c.self.view_is

pub interleaved-at-requires-clause-same : goal.interleaved-at-requires-clause-same
interleaved-at-requires-clause-same c = c.requires.column ∙ sym c.requires.row

pub interleaved-at-requires-clause-few : goal.interleaved-at-requires-clause-few
interleaved-at-requires-clause-few c =
    let few = c.self.invariant.few_qubits in let qubits = ap (λ (m : State). m.qubits) c.self.view_is in
    omega (arith, few, qubits, c.requires.row)
