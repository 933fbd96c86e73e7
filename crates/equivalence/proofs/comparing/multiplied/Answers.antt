use Rattle.std.proofs.Common.{List, Ok, subst}
use Rattle.std.proofs.Math.Path.{ap₂}
use Rattle.std.proofs.lemmas.Result.{IfOk-weaker, IfErr-weaker}
use Rattle.amp_dense.specs.Standing.{MayStop}
use Rattle.comparison.specs.Products.{Step}
use Rattle.comparison.specs.Steps.{steps_of}
use Rattle.unitary_update.specs.Kept.{standing_of, Multiplies}
use Rattle.equivalence.proofs.comparing.multiplied.Goals as goal

pub returns-clause-comes : goal.returns-clause-comes
returns-clause-comes c =
    let u = c.args.u.now in
    let v = c.args.v.now in
    let steps = ap₂ steps_of c.gates.ensures.value c.gates-2.ensures.value in
    IfOk-weaker c.stepped.result _ _
    (λ m h. subst (λ n. Multiplies c.args.rules.now n (steps_of u.gates v.gates) (Ok (standing_of m))) c.qubits.ensures.value
    (subst (λ (l : List Step). Multiplies c.args.rules.now c.qubits.result l (Ok (standing_of m))) steps h)) c.stepped.ensures.comes

pub returns-clause-stop : goal.returns-clause-stop
returns-clause-stop c =
    let u = c.args.u.now in
    let v = c.args.v.now in
    let steps = ap₂ steps_of c.gates.ensures.value c.gates-2.ensures.value in
    IfErr-weaker c.stepped.result _ _
    (λ stop h. subst (λ n. MayStop (Multiplies c.args.rules.now n (steps_of u.gates v.gates)) stop) c.qubits.ensures.value
    (subst (λ (l : List Step). MayStop (Multiplies c.args.rules.now c.qubits.result l) stop) steps h)) c.stepped.ensures.stop
