use Rattle.std.proofs.Common.{◌+◌, ◌*◌, ◌^◌, ◌<◌, ap, sym, ◌∙◌, subst}
use Rattle.std.proofs.Math.Path.{ap₂}
use Rattle.dense_matrix.proofs.Splits.{place_of-joined, joined_below}
use Rattle.dense_matrix.proofs.places.joined_place.Goals as goal

pub returns-clause-in_matrix : goal.returns-clause-in_matrix
returns-clause-in_matrix c =
    subst (λ k. c.args.row * k + c.args.column < 2 ^ (c.args.qubits + c.args.qubits)) (sym c.side_length.ensures.value)
    (joined_below c.args.qubits c.args.row c.args.column c.requires.row c.requires.column)

pub returns-clause-value : goal.returns-clause-value
returns-clause-value c = λ r d lr ld row column.
    place_of-joined c.args.qubits r d ld ∙ ap₂ (λ i j. i * 2 ^ c.args.qubits + j) row column
    ∙ ap (λ k. c.args.row * k + c.args.column) (sym c.side_length.ensures.value)
