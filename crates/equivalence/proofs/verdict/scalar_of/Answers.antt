use Rattle.std.proofs.Common.{◌≡◌, ◌+◌, false, length, replicate, ap, ◌∙◌}
use Rattle.ring_omega.specs.Lowest.{lowest_form}
use Rattle.diagram_model.specs.Stores.{Diagram}
use Rattle.equivalence.specs.Matrices.{matrix_in}
use Rattle.equivalence.proofs.Rests.{corner_at, scalar_from, first_from}
use Rattle.equivalence.proofs.verdict.scalar_of.Goals as goal

pub returns-then-not-branch : goal.returns-then-not-branch
returns-then-not-branch c =
    let n = c.args.qubits in let d = c.args.d.now.store in let q = c.args.q.now in let zeros = c.zeros-zeros.result in
    let vars : c.len.result ≡ n + n = c.len.ensures.value ∙ ap length c.order.ensures ∙ ap (λ (s : Diagram). length s.order) c.store.ensures.value ∙ c.requires.variables in (
      scalar_from n (matrix_in d q) zeros (c.in_ok-differs_from.ensures.no c.if-not-branch.true),
      c.lowest-corner.ensures.computed ∙ ap (λ p. lowest_form p q.exponent) (c.entry.ensures ∙ corner_at n d q zeros (c.zeros-zeros.ensures ∙ ap (λ m. replicate m false) vars)),
    )

pub difference_at-requires-clause-first : goal.difference_at-requires-clause-first
difference_at-requires-clause-first c =
    first_from c.args.qubits (matrix_in c.args.d.now.store c.args.q.now) c.zeros-zeros.result c.in_ok-first.first c.in_ok-first.ensures

pub difference_at-requires-clause-len : goal.difference_at-requires-clause-len
difference_at-requires-clause-len c = c.in_ok-first.ensures.long

pub difference_at-requires-clause-own : goal.difference_at-requires-clause-own
difference_at-requires-clause-own c =
    let n = c.args.qubits in let d = c.args.d.now.store in let q = c.args.q.now in let zeros = c.zeros-zeros.result in
    let vars : c.len.result ≡ n + n = c.len.ensures.value ∙ ap length c.order.ensures ∙ ap (λ (s : Diagram). length s.order) c.store.ensures.value ∙ c.requires.variables in
    c.lowest-corner.ensures.computed ∙ ap (λ p. lowest_form p q.exponent) (c.entry.ensures ∙ corner_at n d q zeros (c.zeros-zeros.ensures ∙ ap (λ m. replicate m false) vars))
