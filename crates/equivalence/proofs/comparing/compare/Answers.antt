use Rattle.std.proofs.Common.{All, sym, subst}
use Rattle.gate_set.specs.Shape.{IsOn}
use Rattle.comparison.specs.Verdicts.{IsVerdict}
use Rattle.unitary_update.specs.Kept.{standing_of}
use Rattle.equivalence.specs.Matrices.{matrix_in}
use Rattle.equivalence.proofs.Stepping.{concluded}
use Rattle.equivalence.proofs.comparing.compare.Goals as goal

pub returns-clause-verdict : goal.returns-clause-verdict
returns-clause-verdict c =
    let u = c.args.u.now in
    let v = c.args.v.now in
    let on_us : All (IsOn u.qubits) u.gates = c.in_ok-matrix.ensures.first.within in
    let on_vs : All (IsOn u.qubits) v.gates = subst (λ n. All (IsOn n) v.gates) (sym c.requires.same) c.in_ok-matrix.ensures.second.within in
    concluded c.args.rules.now u.qubits u.gates v.gates c.in_ok-matrix.matrix c.parts.result.0.now c.parts.result.1.now c.in_ok-verdict.verdict on_us on_vs c.in_ok-matrix.ensures.comes c.parts.ensures.diagrams c.parts.ensures.quad c.parts.ensures.shows
    (subst (λ n. IsVerdict n (matrix_in c.parts.result.0.now.store c.parts.result.1.now) c.parts.result.1.now.exponent c.in_ok-verdict.verdict) c.qubits.ensures.value c.in_ok-verdict.ensures)

pub returns-clause-comes : goal.returns-clause-comes
returns-clause-comes c = (standing_of c.in_ok-matrix.matrix, c.in_ok-matrix.ensures.comes)
