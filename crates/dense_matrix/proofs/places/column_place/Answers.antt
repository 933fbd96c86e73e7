use Rattle.std.proofs.Common.{◌%◌, ◌^◌, ap, sym, ◌∙◌}
use Rattle.dense_matrix.proofs.Splits.{column-of_joined}
use Rattle.dense_matrix.proofs.places.column_place.Goals as goal

pub returns-clause-value : goal.returns-clause-value
returns-clause-value c = λ r d lr ld at.
    sym (column-of_joined c.args.qubits r d ld) ∙ ap (λ i. i % 2 ^ c.args.qubits) at ∙ ap (λ k. c.args.place % k) (sym c.side_length.ensures.value)

pub returns-clause-rest : goal.returns-clause-rest
returns-clause-rest c = ap (λ k. c.args.place % k) c.side_length.ensures.value
