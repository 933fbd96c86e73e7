use Rattle.std.proofs.Common.{◌/◌, ◌^◌, ◌<◌, ap, sym, ◌∙◌, subst}
use Rattle.dense_matrix.proofs.Splits.{row-of_joined, row_below}
use Rattle.dense_matrix.proofs.places.row_place.Goals as goal

pub returns-clause-in_side : goal.returns-clause-in_side
returns-clause-in_side c =
    subst (λ k. c.args.place / k < 2 ^ c.args.qubits) (sym c.side_length.ensures.value) (row_below c.args.qubits c.args.place c.requires.in_matrix)

pub returns-clause-value : goal.returns-clause-value
returns-clause-value c = λ r d lr ld at.
    sym (row-of_joined c.args.qubits r d ld) ∙ ap (λ i. i / 2 ^ c.args.qubits) at ∙ ap (λ k. c.args.place / k) (sym c.side_length.ensures.value)

pub returns-clause-quotient : goal.returns-clause-quotient
returns-clause-quotient c = ap (λ k. c.args.place / k) c.side_length.ensures.value
