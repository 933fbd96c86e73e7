use Rattle.std.proofs.Common.{◌≡◌, ◌∙◌, ◌++◌, ap, arith, replicate}
use Rattle.qasm_gates.proofs.Placed.{placed_same}
use Rattle.qasm_gates.proofs.expanding.add_gates.Goals as goal

pub returns : goal.returns
returns c =
    let all : c.loop-step._step ≡ c.args.times = omega arith in
    c.loop-step.invariant
    ∙ ap (λ n. c.args.gates.now.items ++ replicate n (record { kind = c.args.kind; on = c.args.on.now; extra = c.args.extra.now })) all
    ∙ ap (λ r. c.args.gates.now.items ++ r) (placed_same c.args.kind c.args.times c.args.extra.now c.args.on.now c.requires)
