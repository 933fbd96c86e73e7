use Rattle.std.proofs.Common.{◌∙◌, ap, sym, subst}
use Rattle.gate_set.specs.Matrix.{entry_of, IsPower}
use Rattle.gate_set.specs.Private.{entry_at}
use Rattle.gate_set.proofs.gate.Gate.block_entry.Goals as goal
use Rattle.gate_set.proofs.MatrixLemmas.{IsPower-entry_of}

pub returns-clause-value : goal.returns-clause-value
unfolding entry_of
returns-clause-value c =
    rw (sym c.self.view_is) (c.entry.ensures ∙ ap (λ m. entry_at m c.args.row c.args.col) c.row.ensures.matrix)

pub returns-clause-power : goal.returns-clause-power
unfolding entry_of
returns-clause-power c =
    let value = c.entry.ensures ∙ ap (λ m. entry_at m c.args.row c.args.col) c.row.ensures.matrix in
    subst IsPower (sym value) (IsPower-entry_of c.self.inside.kind c.args.row c.args.col c.self.invariant.power)
