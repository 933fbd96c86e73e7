use Rattle.std.proofs.Common.{◌≡◌, ℕ, List, All, sym, ◌∙◌, subst}
use Rattle.std.proofs.Math.Path.{ap₂}
use Rattle.gate_set.specs.declared.gate.Gate.{Gate}
use Rattle.gate_set.specs.Shape.{IsOn}
use Rattle.comparison.specs.Products.{Step, work_matrix, AllStepsFit}
use Rattle.comparison.specs.Steps.{steps_of}
use Rattle.dense_matrix.specs.Kept.{Entries, IsMatrix}
use Rattle.dense_matrix.proofs.Matrices.{said}
use Rattle.dense_matrix.proofs.comparing.compare.Goals as goal

pub returns-clause-verdict : goal.returns-clause-verdict
returns-clause-verdict c =
    let u = c.args.u.now in
    let v = c.args.v.now in
    let m : Entries = c.in_ok-matrix.matrix in
    let steps : steps_of c.gates-us.result.now c.gates-vs.result.now ≡ steps_of u.gates v.gates = ap₂ steps_of c.gates-us.ensures.value c.gates-vs.ensures.value in
    let P : ℕ → List Step → Type 0 = λ n l. IsMatrix m (work_matrix n l) in
    let is : IsMatrix m (work_matrix u.qubits (steps_of u.gates v.gates)) =
    subst (λ n. P n (steps_of u.gates v.gates)) c.qubits-qubits.ensures.value (subst (λ l. P c.qubits-qubits.result l) steps c.in_ok-matrix.ensures.entries) in
    let on_us : All (IsOn u.qubits) u.gates = c.gates-us.ensures.sound.within in
    let on_vs : All (IsOn u.qubits) v.gates = subst (λ n. All (IsOn n) v.gates) (sym c.requires.same) c.gates-vs.ensures.sound.within in
    said u.qubits u.gates v.gates m c.verdict_of.result on_us on_vs (c.in_ok-matrix.ensures.qubits ∙ c.qubits-qubits.ensures.value) is c.verdict_of.ensures

pub returns-clause-fits : goal.returns-clause-fits
returns-clause-fits c =
    let u = c.args.u.now in
    let v = c.args.v.now in
    let steps : steps_of c.gates-us.result.now c.gates-vs.result.now ≡ steps_of u.gates v.gates = ap₂ steps_of c.gates-us.ensures.value c.gates-vs.ensures.value in
    let P : ℕ → List Step → Type 0 = λ n l. AllStepsFit c.args.width n l in
    subst (λ n. P n (steps_of u.gates v.gates)) c.qubits-qubits.ensures.value (subst (λ l. P c.qubits-qubits.result l) steps c.in_ok-matrix.ensures.fits)
