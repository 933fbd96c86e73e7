use Rattle.std.proofs.Common.{◌≡◌, ◌/◌, ◌%◌, ◌^◌, ◌∙◌}
use Rattle.dense_matrix.proofs.Splits.{joined_again}
use Rattle.dense_matrix.proofs.witness.position.Goals as goal

pub returns-clause-place : goal.returns-clause-place
returns-clause-place c =
    joined_again c.args.qubits c.args.place c.at_place-row.result c.at_place-col.result c.at_place-col.ensures.long
    (c.at_place-row.ensures.place ∙ c.row_place.ensures.quotient) (c.at_place-col.ensures.place ∙ c.column_place.ensures.rest)
