use Rattle.std.proofs.Common.{length, ap, sym, ◌∙◌}
use Rattle.ring_omega.specs.Lowest.{lowest_form}
use Rattle.slice_quad.specs.Walks.{entries_in}
use Rattle.equivalence.specs.Matrices.{matrix_in}
use Rattle.equivalence.proofs.Places.{turns_long}
use Rattle.equivalence.proofs.Rests.{said_at}
use Rattle.equivalence.proofs.verdict.difference_at.Goals as goal

pub returns : goal.returns
returns c =
    let d = c.args.d.now.store in let q = c.args.q.now in
    said_at c.args.qubits (matrix_in d q) q.exponent c.args.at.now c.row_of.result c.column_of.result c.lowest.result c.args.own c.requires.first c.row_of.ensures c.column_of.ensures
    (c.lowest.ensures.computed ∙ ap (λ p. lowest_form p q.exponent) (c.entry.ensures ∙ ap (entries_in d q.four) c.values_at.ensures)) c.requires.own

pub entry-requires-clause-len : goal.entry-requires-clause-len
entry-requires-clause-len c = ap length c.values_at.ensures ∙ turns_long c.args.qubits c.args.at.now c.requires.len ∙ sym c.requires.variables
